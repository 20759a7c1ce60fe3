-- The table in memory does what the table of cells does.
use Rattle.std.proofs.Common.{◌≡◌, ℕ, zero, suc, ◌+◌, ◌*◌, ◌/◌, ◌%◌, ◌<◌, ◌≤◌, Bool, true, false, eqb, ltb, List, [], ◌∷◌, ◌++◌, map, length, drop, set, replicate, Some, sym, refl, ap, ◌∙◌, subst, inl, inr, zero-mul, arith, length-append}
use mathlib.Core.List.Memᴰ
use mathlib.Core.List.{map-append, Memᴰ}
use lib.Arith.{digits_div, digits_mod}
use lib.ListN.{length-replicate}
use Rattle.std.proofs.lemmas.List.{get_or_append_left, get_or-replicate}
use Rattle.listing.specs.declared.numbers.Cell.{Cell}
use Rattle.listing.specs.declared.numbers.Proc.{Proc}
use Rattle.listing.specs.declared.statement.Statement.{Statement}
use Rattle.listing.specs.declared.statement.Statement.TheVariants.{Call, Ret}
use Rattle.flow.specs.Relation.{Rule}
use Rattle.moves.specs.declared.moves.Kind.{Kind}
use Rattle.moves.specs.declared.moves.Kind.TheVariants as kind
use Rattle.moves.specs.Words.{code}
use Rattle.paths.specs.Supergraph.{successors, Supergraph, Lawful, by_step, by_past, by_call, by_return}
use Rattle.paths.specs.Table.{TableCell, cell, number_of, Entry}
use Rattle.paths.specs.Machine as m
use Rattle.paths.specs.Machine.{both, State, opened, no_cell, put, Shape, straight, calling, returning, nothing, shape}
use Rattle.paths.specs.declared.worklist.End.{End}
use Rattle.paths.specs.declared.worklist.End.TheVariants.{Oldest, Newest}
use Rattle.paths.specs.Memory.{Rec, blank, written_at, InRange, Holds}
use Rattle.paths.specs.Tabled.{Tabled, cell_at, record_at, newly_in, find_at, find, is_found, each, each_of, where_yes, newest_of, taken, step_each, past_each, return_each, return_by, exit_each, call_each, caller_by, settle_by, settle, sow, take_out, work_one, work}
use Rattle.paths.proofs.Numbers.{number_below}
use Rattle.paths.proofs.Settle.{of_shape, of_shape_is}
use Rattle.paths.proofs.Store.{writes}

pub record Mirror (N F : ℕ) (t : Tabled) (st : State) : Type 0 where
  pub points : t.points ≡ N
  pub facts : t.facts ≡ F
  pub holds : Holds N F t.records st.table
  pub found : t.found ≡ st.found
  pub settled : t.settled ≡ st.settled
  pub waiting : t.waiting ≡ map (number_of F) st.waiting
  pub ranged : (c : TableCell) → Memᴰ c st.waiting → InRange N F c

written_rank : (F r : ℕ) (e : Entry) → (written_at F r e).rank ≡ r
written_rank F zero e = refl
written_rank F (suc r) e = refl

pub same_rank : (N F : ℕ) (t : Tabled) (st : State) (c : TableCell) → Mirror N F t st → InRange N F c
    → (record_at t (number_of F c)).rank ≡ (st.table c).rank
same_rank N F t st c m h = ap (λ (r : Rec). r.rank) (m.holds.each_cell c h) ∙ written_rank F (st.table c).rank (st.table c)

pub cell_back : (N F : ℕ) (c : TableCell) → InRange N F c → cell_at F (number_of F c) ≡ c
cell_back N F c h =
    let q : number_of F c / F ≡ c.point * F + c.origin = digits_div (c.point * F + c.origin) h.2 in
    let p : number_of F c / F / F ≡ c.point = ap (λ (x : ℕ). x / F) q ∙ digits_div c.point h.1 in
    let o : number_of F c / F % F ≡ c.origin = ap (λ (x : ℕ). x % F) q ∙ digits_mod c.point h.1 in
    let d : number_of F c % F ≡ c.fact = digits_mod (c.point * F + c.origin) h.2 in
    λ i. record { point = p i; origin = o i; fact = d i }

pub at_newly : (N F : ℕ) (memory : List Rec) → N * F * F ≤ length memory → Mirror N F (newly_in N F memory) opened
at_newly N F memory h = record {
  points = refl;
  facts = refl;
  holds = record {
    room =
        (let a = length-append (replicate (N * F * F) blank) (drop (N * F * F) memory) in
        let b = length-replicate (N * F * F) blank in
        omega arith);
    each_cell = λ c r.
        let b = number_below N F c r in
        let l : number_of F c < length (replicate (N * F * F) blank) = (let z = length-replicate (N * F * F) blank in omega arith) in
        get_or_append_left (replicate (N * F * F) blank) (drop (N * F * F) memory) blank (number_of F c) l
        ∙ get_or-replicate (N * F * F) (number_of F c) blank blank b;
  };
  found = refl;
  settled = refl;
  waiting = refl;
  ranged = λ c w. elim w [ ];
}

module _ (N F : ℕ) where
  abbrev M : Tabled → State → Type 0
  M = Mirror N F

  -- two steps that keep the likeness
  abbrev pub Alike : (Tabled → Tabled) → (State → State) → Type 0
  Alike f g = (t : Tabled) (st : State) → M t st → M (f t) (g st)

  find_at_alike : (r : ℕ) (k : Kind) (u v c : TableCell) → InRange N F c
      → Alike (find_at r k (number_of F u) (number_of F v) (number_of F c)) (m.find_at r k u v c)
  find_at_alike zero k u v c h t st a =
      let e : Entry = record { rank = suc st.found; kind = k; first = u; second = v } in
      record {
        points = a.points;
        facts = a.facts;
        holds =
            subst (λ (n : ℕ). Holds N F
            (set t.records (number_of F c) (record { rank = suc n; kind = code k; first = number_of F u; second = number_of F v }))
            (put st.table c e)) (sym a.found)
            (writes N F t.records st.table c e a.holds h);
        found = ap suc a.found;
        settled = a.settled;
        waiting = ap (λ (ws : List ℕ). ws ++ (number_of F c ∷ [])) a.waiting ∙ sym (map-append (number_of F) st.waiting (c ∷ []));
        ranged = λ x w. elim (Memᴰ.append_cases st.waiting w) [
          | inl w' ↦ a.ranged x w'
          | inr w' ↦ subst (InRange N F) (sym (Memᴰ.eq_of_singleton w')) h
        ];
      }
  find_at_alike (suc r) k u v c h t st a = a

  find_alike : (k : Kind) (u v c : TableCell) → InRange N F c → Alike (find k (number_of F u) (number_of F v) (number_of F c)) (m.find k u v c)
  find_alike k u v c h t st a =
      subst (λ (r : ℕ). M (find_at r k (number_of F u) (number_of F v) (number_of F c) t) (m.find k u v c st)) (sym (same_rank N F t st c a h))
      (find_at_alike (st.table c).rank k u v c h t st a)

  -- a cell that is not named has the number 0
  none_is : number_of F no_cell ≡ 0
  none_is = ap (λ (x : ℕ). (x + 0) * F + 0) (zero-mul F) ∙ ap (λ (x : ℕ). x + 0) (zero-mul F)

  find_first : (k : Kind) (u c : TableCell) → InRange N F c → Alike (find k (number_of F u) 0 (number_of F c)) (m.find k u no_cell c)
  find_first k u c h t st a =
      subst (λ (v : ℕ). M (find k (number_of F u) v (number_of F c) t) (m.find k u no_cell c st)) none_is (find_alike k u no_cell c h t st a)

  find_start : (k : Kind) (c : TableCell) → InRange N F c → Alike (find k 0 0 (number_of F c)) (m.find k no_cell no_cell c)
  find_start k c h t st a = subst (λ (v : ℕ). M (find k v 0 (number_of F c) t) (m.find k no_cell no_cell c st)) none_is (find_first k no_cell c h t st a)

  pub same_found : (t : Tabled) (st : State) (c : TableCell) → M t st → InRange N F c → is_found (number_of F c) t ≡ m.is_found c st
  same_found t st c a h = ap (λ (r : ℕ). ltb 0 r) (same_rank N F t st c a h)

  each_alike : (k : ℕ) (f : ℕ → Tabled → Tabled) (g : ℕ → State → State) → ((i : ℕ) → i < k → Alike (f i) (g i)) → Alike (each k f) (m.each k g)
  each_alike zero f g h t st a = a
  each_alike (suc k) f g h t st a = h k (omega arith) (each k f t) (m.each k g st) (each_alike k f g (λ i l. h i (omega arith)) t st a)

  each_of_alike : (ms : List ℕ) (f : ℕ → Tabled → Tabled) (g : ℕ → State → State) → ((i : ℕ) → Memᴰ i ms → Alike (f i) (g i))
      → Alike (each_of ms f) (m.each_of ms g)
  each_of_alike [] f g h t st a = a
  each_of_alike (i ∷ ms) f g h t st a = each_of_alike ms f g (λ j w. h j (Memᴰ.tail w)) (f i t) (g i st) (h i (Memᴰ.head refl) t st a)

  where_alike : (b : Bool) (f : Tabled → Tabled) (g : State → State) → Alike f g → Alike (where_yes b f) (m.where_yes b g)
  where_alike true f g h t st a = h t st a
  where_alike false f g h t st a = a

  -- tests that agree
  tested_alike : (b b' : Bool) (f : Tabled → Tabled) (g : State → State) → b ≡ b' → Alike f g → Alike (where_yes b f) (m.where_yes b' g)
  tested_alike b b' f g e h t st a = subst (λ (x : Bool). M (where_yes x f t) (m.where_yes b' g st)) (sym e) (where_alike b' f g h t st a)

  module _ (P : Supergraph) (Q : Rule) (K : ℕ) (lawful : Lawful P N K) where
    step_alike : (s : Statement Cell) (c : TableCell) → InRange N F c → P.at c.point ≡ Some s → Alike (step_each P Q N F s c) (m.step_each P Q N F s c)
    step_alike s c h is = each_of_alike (successors c.point s) _ _ (λ i w. each_alike F _ _ (λ e l. where_alike (by_step Q c.point s c.fact e) _ _
        (find_first kind.Step c (cell i c.origin e) (lawful.step_within c.point i s is w, h.1, l))))

    past_alike : (D : Cell) (q : Proc) (S : Cell) (c : TableCell) → InRange N F c → P.at c.point ≡ Some (Call D q S)
        → Alike (past_each P Q N F (Call D q S) c) (m.past_each P Q N F (Call D q S) c)
    past_alike D q S c h is = each_alike F _ _ (λ e l. where_alike (by_past Q c.point (Call D q S) c.fact e) _ _
        (find_first kind.Past c (cell (c.point + 1) c.origin e) (lawful.past_within c.point D q S is, h.1, l)))

    return_alike : (D : Cell) (q : Proc) (S V : Cell) (u x : TableCell) → InRange N F u → P.at u.point ≡ Some (Call D q S)
        → Alike (return_each P Q N F (Call D q S) V u x) (m.return_each P Q N F (Call D q S) V u x)
    return_alike D q S V u x h is = each_alike F _ _ (λ y l. where_alike (by_return Q u.point (Call D q S) V x.fact y) _ _
        (find_alike kind.Return u x (cell (u.point + 1) u.origin y) (lawful.past_within u.point D q S is, h.1, l)))

    same_either : (b : Bool) (t : Tabled) → where_yes b (λ t'. t') t ≡ t
    same_either true t = refl
    same_either false t = refl

    same_either_m : (b : Bool) (st : State) → m.where_yes b (λ st'. st') st ≡ st
    same_either_m true st = refl
    same_either_m false st = refl

    -- no step on either side, whatever the tests say
    idle_alike : (b : Tabled → Bool) (b' : State → Bool) → Alike (λ t. where_yes (b t) (λ t'. t') t) (λ st. m.where_yes (b' st) (λ st'. st') st)
    idle_alike b b' t st a = subst (λ (x : Tabled). M x (m.where_yes (b' st) (λ st'. st') st)) (sym (same_either (b t) t))
        (subst (λ (x : State). M t x) (sym (same_either_m (b' st) st)) a)

    exit_by_alike : (σ : Shape) (D : Cell) (q : Proc) (S : Cell) (c : TableCell) (e z : ℕ) → P.at (P.exit q.0) ≡ of_shape σ → InRange N F c → P.at c.point ≡ Some (Call D q S)
        → e < F → z < F
        → Alike (λ t. where_yes (is_found (number_of F (cell (P.exit q.0) e z)) t) (return_by P Q N F σ (Call D q S) c (cell (P.exit q.0) e z)) t)
        (λ st. m.where_yes (m.is_found (cell (P.exit q.0) e z) st) (m.return_by P Q N F σ (Call D q S) c (cell (P.exit q.0) e z)) st)
    exit_by_alike (straight s) D q S c e z w h is l l' = idle_alike (is_found (number_of F (cell (P.exit q.0) e z))) (m.is_found (cell (P.exit q.0) e z))
    exit_by_alike (calling _ _ _) D q S c e z w h is l l' = idle_alike (is_found (number_of F (cell (P.exit q.0) e z))) (m.is_found (cell (P.exit q.0) e z))
    exit_by_alike (returning V) D q S c e z w h is l l' = λ t st a.
        let x = cell (P.exit q.0) e z in
        tested_alike (is_found (number_of F x) t) (m.is_found x st) _ _
        (same_found t st x a (lawful.within (P.exit q.0) (Ret V) w, l, l')) (return_alike D q S V c x h is) t st a
    exit_by_alike nothing D q S c e z w h is l l' = idle_alike (is_found (number_of F (cell (P.exit q.0) e z))) (m.is_found (cell (P.exit q.0) e z))

    exit_alike : (D : Cell) (q : Proc) (S : Cell) (c : TableCell) (e : ℕ) → InRange N F c → P.at c.point ≡ Some (Call D q S) → e < F
        → Alike (exit_each P Q N F (Call D q S) q c e) (m.exit_each P Q N F (Call D q S) q c e)
    exit_alike D q S c e h is l = each_alike F _ _ (λ z l'.
        exit_by_alike (shape (P.at (P.exit q.0))) D q S c e z (of_shape_is (P.at (P.exit q.0))) h is l l')

    call_alike : (D : Cell) (q : Proc) (S : Cell) (c : TableCell) → InRange N F c → P.at c.point ≡ Some (Call D q S)
        → Alike (call_each P Q N F (Call D q S) q c) (m.call_each P Q N F (Call D q S) q c)
    call_alike D q S c h is = each_alike F _ _ (λ e l. where_alike (by_call Q c.point (Call D q S) c.fact e) _ _
        (λ t st a. exit_alike D q S c e h is l _ _
        (find_first kind.Call c (cell (P.entry q.0) e e) (lawful.entry_within q.0 (lawful.callee c.point D q S is), l, l) t st a)))

    caller_by_alike : (σ : Shape) (V : Cell) (i : ℕ) (x : TableCell) → P.at i ≡ of_shape σ → i < N
        → Alike (caller_by P Q N F σ V i x) (m.caller_by P Q N F σ V i x)
    caller_by_alike (straight _) V i x w l t st a = a
    caller_by_alike (calling D p S) V i x w l t st a = where_alike (eqb p.0 (P.proc x.point)) _ _
        (each_alike F _ _ (λ b lb. each_alike F _ _ (λ f lf t' st' a'.
        tested_alike (both (is_found (number_of F (cell i b f)) t') (by_call Q i (Call D p S) f x.origin))
        (both (m.is_found (cell i b f) st') (by_call Q i (Call D p S) f x.origin)) _ _
        (ap (λ (z : Bool). both z (by_call Q i (Call D p S) f x.origin)) (same_found t' st' (cell i b f) a' (l, lb, lf)))
        (return_alike D p S V (cell i b f) x (l, lb, lf) w) t' st' a'))) t st a
    caller_by_alike (returning _) V i x w l t st a = a
    caller_by_alike nothing V i x w l t st a = a

    settle_by_alike : (σ : Shape) (c : TableCell) → P.at c.point ≡ of_shape σ → InRange N F c → Alike (settle_by P Q N F σ c) (m.settle_by P Q N F σ c)
    settle_by_alike (straight s) c w h t st a = step_alike s c h w t st a
    settle_by_alike (calling D q S) c w h t st a = call_alike D q S c h w _ _ (past_alike D q S c h w t st a)
    settle_by_alike (returning V) c w h t st a = each_alike N _ _ (λ i l. caller_by_alike (shape (P.at i)) V i c (of_shape_is (P.at i)) l) t st a
    settle_by_alike nothing c w h t st a = a

    settle_alike : (c : TableCell) → InRange N F c → Alike (settle P Q N F c) (m.settle P Q N F c)
    settle_alike c h = settle_by_alike (shape (P.at c.point)) c (of_shape_is (P.at c.point)) h

    pub sow_alike : (p d : ℕ) → p < K → d < F → Alike (sow P Q N F p d) (m.sow P Q N F p d)
    sow_alike p d h l = find_start kind.Start (cell (P.entry p) d d) (lawful.entry_within p h, l, l)

    -- what is taken out of the row of numbers is what is taken out of the row of cells
    record SameTaken (r : ℕ × List ℕ) (r' : TableCell × List TableCell) (row : List TableCell) : Type 0 where
      one : r.0 ≡ number_of F r'.0
      rest : r.1 ≡ map (number_of F) r'.1
      one_in : Memᴰ r'.0 row
      rest_in : (x : TableCell) → Memᴰ x r'.1 → Memᴰ x row

    newest_same : (c : TableCell) (cs : List TableCell) → SameTaken (newest_of (number_of F c) (map (number_of F) cs)) (m.newest_of c cs) (c ∷ cs)
    newest_same c [] = record { one = refl; rest = refl; one_in = Memᴰ.head refl; rest_in = λ x w. elim w [ ] }
    newest_same c (x ∷ xs) =
        let ih = newest_same x xs in
        record {
          one = ih.one;
          rest = ap (λ (ws : List ℕ). number_of F c ∷ ws) ih.rest;
          one_in = Memᴰ.tail ih.one_in;
          rest_in = λ y w. elim (Memᴰ.cases_cons w) [ inl e ↦ Memᴰ.head e | inr w' ↦ Memᴰ.tail (ih.rest_in y w') ];
        }

    taken_same : (end : End) (c : TableCell) (cs : List TableCell) → SameTaken (taken end (number_of F c) (map (number_of F) cs)) (m.taken end c cs) (c ∷ cs)
    taken_same Oldest c cs = record { one = refl; rest = refl; one_in = Memᴰ.head refl; rest_in = λ x w. Memᴰ.tail w }
    taken_same Newest c cs = newest_same c cs

    take_out_alike : (r : ℕ × List ℕ) (r' : TableCell × List TableCell) (t : Tabled) (st : State) → SameTaken r r' st.waiting → M t st
        → M (take_out P Q N F r t) (m.take_out P Q N F r' st)
    take_out_alike r r' t st s a =
        let h : InRange N F r'.0 = a.ranged r'.0 s.one_in in
        let e : cell_at F r.0 ≡ r'.0 = ap (cell_at F) s.one ∙ cell_back N F r'.0 h in
        let t₀ : Tabled = record {
          points = t.points;
          facts = t.facts;
          records = t.records;
          found = t.found;
          settled = suc t.settled;
          waiting = r.1;
        } in
        subst (λ (c : TableCell). M (settle P Q N F c t₀) (m.take_out P Q N F r' st)) (sym e)
        (settle_alike r'.0 h t₀ (record { table = st.table; found = st.found; waiting = r'.1; settled = suc st.settled })
        (record {
          points = a.points;
          facts = a.facts;
          holds = a.holds;
          found = a.found;
          settled = ap suc a.settled;
          waiting = s.rest;
          ranged = λ x w. a.ranged x (s.rest_in x w);
        }))

    work_one_alike : (end : End) (row : List TableCell) (t : Tabled) (st : State) → st.waiting ≡ row → M t st
        → M (work_one P Q N F end (map (number_of F) row) t) (m.work_one P Q N F end row st)
    work_one_alike end [] t st e a = a
    work_one_alike end (c ∷ cs) t st e a =
        take_out_alike (taken end (number_of F c) (map (number_of F) cs)) (m.taken end c cs) t st
        (subst (λ (row : List TableCell). SameTaken (taken end (number_of F c) (map (number_of F) cs)) (m.taken end c cs) row) (sym e) (taken_same end c cs)) a

    pub work_alike : (k : ℕ) (end : End) → Alike (work P Q N F k end) (m.work P Q N F k end)
    work_alike zero end t st a = a
    work_alike (suc k) end t st a = work_alike k end _ _
        (subst (λ (row : List ℕ). M (work_one P Q N F end row t) (m.work_one P Q N F end st.waiting st)) (sym a.waiting)
        (work_one_alike end st.waiting t st refl a))
