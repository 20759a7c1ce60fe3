-- What is found is settled or waits: kept by every call of a row.
use Rattle.std.proofs.Common.{◌≡◌, ℕ, zero, suc, ◌+◌, ◌<◌, T, ◌⊎◌, List, [], ◌∷◌, length, Some, sym, refl, ap, ◌∙◌, subst, inl, inr, arith}
use mathlib.Core.List.Memᴰ
use mathlib.Core.List.{Memᴰ}
use Rattle.listing.specs.declared.numbers.Cell.{Cell}
use Rattle.listing.specs.declared.numbers.Proc.{Proc}
use Rattle.listing.specs.declared.statement.Statement.{Statement}
use Rattle.listing.specs.declared.statement.Statement.TheVariants.{Set, Move, Add, Read, Send, Goto, Test, Call, Ret, Trim}
use Rattle.flow.specs.Relation.{Rule, Within}
use Rattle.moves.specs.declared.moves.Kind.TheVariants as kind
use Rattle.paths.specs.Supergraph.{Supergraph, Follows, Lawful, by_step, by_past, by_call, by_return}
use Rattle.paths.proofs.Bounds.{call_bound}
use Rattle.paths.specs.Table.{TableCell, cell, as_start, Justified, Closed}
use Rattle.paths.specs.Theorem.{Accepted, Exact}
use Rattle.paths.specs.Machine.{State, opened, no_cell, Shape, straight, shape, newest_of, taken, settle, sow, take_out, work_one, work}
use Rattle.paths.specs.declared.worklist.End.{End}
use Rattle.paths.specs.declared.worklist.End.TheVariants.{Oldest, Newest}
use Rattle.paths.specs.Rows.{Mode, Open, Row, newly_opened, refused, sown, worked, closed, reopened, trailed, begun, lined, no_line_left, footed, abandoned, AtRest, After}
use Rattle.paths.proofs.Grow.{IsFound, Waits, find_found, Grow, grow_one, grow_found, grow_waits, grow_new, Base, grow_base, why_more}
use Rattle.paths.proofs.Settle.{Returned, Callers, Left, settle_leaves}
use Rattle.paths.proofs.Complete.{cell_found, pair_found}
use Rattle.paths.proofs.Sound.{cell_reached, pair_reached}
use Rattle.paths.proofs.Walk.{trail_path}
use Rattle.paths.proofs.Numbers.{cells_bound}
use Rattle.paths.proofs.Lines.{ascending_below, pair_in, pair_of_found}

-- a statement with a successor is neither a call nor a return
pub straight_shape : (n m : ℕ) (s : Statement Cell) → Follows n s m → shape (Some s) ≡ straight s
straight_shape n m (Set D) f = refl
straight_shape n m (Move D S) f = refl
straight_shape n m (Add D S T) f = refl
straight_shape n m (Read D) f = refl
straight_shape n m (Send S) f = refl
straight_shape n m (Goto K) f = refl
straight_shape n m (Test S K) f = refl
straight_shape n m (Call D P S) f = elim f [ ]
straight_shape n m (Ret S) f = elim f [ ]
straight_shape n m (Trim D S) f = refl

-- the cell taken from the row, and the rest
newest_cases : (c : TableCell) (cs : List TableCell) (x : TableCell) → Memᴰ x (c ∷ cs) → (x ≡ (newest_of c cs).0) ⊎ Memᴰ x (newest_of c cs).1
newest_cases c [] x m = elim (Memᴰ.cases_cons m) [ inl p ↦ inl p | inr m' ↦ inr m' ]
newest_cases c (b ∷ cs) x m = go (Memᴰ.cases_cons m) (newest_cases b cs x)
  where
    go : (x ≡ c) ⊎ Memᴰ x (b ∷ cs) → (Memᴰ x (b ∷ cs) → (x ≡ (newest_of b cs).0) ⊎ Memᴰ x (newest_of b cs).1)
        → (x ≡ (newest_of b cs).0) ⊎ Memᴰ x (c ∷ (newest_of b cs).1)
    go (inl p) ih = inr (Memᴰ.head p)
    go (inr m') ih = elim (ih m') [ inl p ↦ inl p | inr m'' ↦ inr (Memᴰ.tail m'') ]

newest_rest : (c : TableCell) (cs : List TableCell) (x : TableCell) → Memᴰ x (newest_of c cs).1 → Memᴰ x (c ∷ cs)
newest_rest c [] x m = elim m [ ]
newest_rest c (b ∷ cs) x m = go (Memᴰ.cases_cons m) (newest_rest b cs x)
  where
    go : (x ≡ c) ⊎ Memᴰ x (newest_of b cs).1 → (Memᴰ x (newest_of b cs).1 → Memᴰ x (b ∷ cs)) → Memᴰ x (c ∷ b ∷ cs)
    go (inl p) ih = Memᴰ.head p
    go (inr m') ih = Memᴰ.tail (ih m')

newest_in : (c : TableCell) (cs : List TableCell) → Memᴰ (newest_of c cs).0 (c ∷ cs)
newest_in c [] = Memᴰ.head refl
newest_in c (b ∷ cs) = Memᴰ.tail (newest_in b cs)

newest_length : (c : TableCell) (cs : List TableCell) → length (newest_of c cs).1 ≡ length cs
newest_length c [] = refl
newest_length c (b ∷ cs) = ap suc (newest_length b cs)

record Taken (row : List TableCell) (r : TableCell × List TableCell) : Type 0 where
  cases : (x : TableCell) → Memᴰ x row → (x ≡ r.0) ⊎ Memᴰ x r.1
  rest : (x : TableCell) → Memᴰ x r.1 → Memᴰ x row
  one_in : Memᴰ r.0 row
  shorter : length row ≡ suc (length r.1)

is_taken : (end : End) (c : TableCell) (cs : List TableCell) → Taken (c ∷ cs) (taken end c cs)
is_taken Oldest c cs = record
    { cases = λ x m. Memᴰ.cases_cons m; rest = λ x m. Memᴰ.tail m; one_in = Memᴰ.head refl; shorter = refl }
is_taken Newest c cs = record
    { cases = newest_cases c cs; rest = newest_rest c cs; one_in = newest_in c cs; shorter = ap suc (sym (newest_length c cs)) }

module _ (P : Supergraph) (Q : Rule) where
  -- what follows from the cell x alone is found
  record Done (st : State) (x : TableCell) : Type 0 where
    steps : (m e : ℕ) (s : Statement Cell) → P.at x.point ≡ Some s → Follows x.point s m → T (by_step Q x.point s x.fact e)
        → IsFound st (cell m x.origin e)
    pasts : (e : ℕ) (D : Cell) (q : Proc) (S : Cell) → P.at x.point ≡ Some (Call D q S) → T (by_past Q x.point (Call D q S) x.fact e)
        → IsFound st (cell (x.point + 1) x.origin e)
    calls : (e : ℕ) (D : Cell) (q : Proc) (S : Cell) → P.at x.point ≡ Some (Call D q S) → T (by_call Q x.point (Call D q S) x.fact e)
        → IsFound st (cell (P.entry q.0) e e)

  -- a call cell u and an exit cell x of the callee, and what returns
  record Linked (u x target : TableCell) : Type 0 where
    D : Cell
    q : Proc
    S : Cell
    V : Cell
    y : ℕ
    at_call : P.at u.point ≡ Some (Call D q S)
    at_exit : x.point ≡ P.exit q.0
    at_ret : P.at (P.exit q.0) ≡ Some (Ret V)
    goes_in : T (by_call Q u.point (Call D q S) u.fact x.origin)
    comes_out : T (by_return Q u.point (Call D q S) V x.fact y)
    there : target ≡ cell (u.point + 1) u.origin y

  record Cover (Start : ℕ → ℕ → Type 0) (st : State) : Type 0 where
    starts : (p d : ℕ) → Start p d → IsFound st (cell (P.entry p) d d)
    alone : (x : TableCell) → IsFound st x → Waits st x ⊎ Done st x
    linked : (u x target : TableCell) → Linked u x target → IsFound st u → IsFound st x → Waits st u ⊎ (Waits st x ⊎ IsFound st target)

  module _ (Start : ℕ → ℕ → Type 0) (N K F : ℕ) (lawful : Lawful P N K) (bounded : Within F Q)
      (start_ok : (p d : ℕ) → Start p d → (p < K) × (d < F)) where
    done_stable : (st st' : State) (x : TableCell) → Grow P Q Start st st' → Done st x → Done st' x
    done_stable st st' x g h = record {
      steps = λ m e s is f t. grow_found P Q Start g (cell m x.origin e) (h.steps m e s is f t);
      pasts = λ e D q S is t. grow_found P Q Start g (cell (x.point + 1) x.origin e) (h.pasts e D q S is t);
      calls = λ e D q S is t. grow_found P Q Start g (cell (P.entry q.0) e e) (h.calls e D q S is t);
    }

    -- more is found, and nothing less waits: what was covered is covered
    grow_cover : (Old : ℕ → ℕ → Type 0) (st st' : State) → Grow P Q Start st st' → Cover Old st → Cover Old st'
    grow_cover Old st st' g c = record {
      starts = λ p d s. grow_found P Q Start g (cell (P.entry p) d d) (c.starts p d s);
      alone = λ x f. elim (grow_new P Q Start g x f) [
        | inl f₀ ↦ elim (c.alone x f₀) [ inl w ↦ inl (grow_waits P Q Start g x w) | inr h ↦ inr (done_stable st st' x g h) ]
        | inr w ↦ inl w
      ];
      linked = λ u x target l fu fx. elim (grow_new P Q Start g u fu) [
        | inl fu₀ ↦ elim (grow_new P Q Start g x fx) [
          | inl fx₀ ↦ elim (c.linked u x target l fu₀ fx₀) [
            | inl w ↦ inl (grow_waits P Q Start g u w)
            | inr r ↦ elim r [ inl w ↦ inr (inl (grow_waits P Q Start g x w)) | inr f ↦ inr (inr (grow_found P Q Start g target f)) ]
          ]
          | inr w ↦ inr (inl w)
        ]
        | inr w ↦ inl w
      ];
    }

    abbrev LeftAt : TableCell → State → Type 0
    LeftAt c st = Left P Q Start N K F lawful bounded start_ok (shape (P.at c.point)) c.point c.origin c.fact st

    left_done : (c : TableCell) (st : State) → LeftAt c st → Done st c
    left_done c st left = record {
      steps = λ m e s is f t.
          subst (λ (σ : Shape). Left P Q Start N K F lawful bounded start_ok σ c.point c.origin c.fact st) (ap shape is ∙ straight_shape c.point m s f) left m e f t;
      pasts = λ e D q S is t.
          (subst (λ (σ : Shape). Left P Q Start N K F lawful bounded start_ok σ c.point c.origin c.fact st) (ap shape is) left).0 e t;
      calls = λ e D q S is t.
          ((subst (λ (σ : Shape). Left P Q Start N K F lawful bounded start_ok σ c.point c.origin c.fact st) (ap shape is) left).1 e
          (call_bound bounded c.point (Call D q S) c.fact e t) t).0;
    }

    left_call : (c x target : TableCell) (st : State) → Base P Q Start N F st → LeftAt c st → Linked c x target → IsFound st x → Waits st x ⊎ IsFound st target
    left_call c x target st base left l f =
        let exit' : TableCell = cell (P.exit l.q.0) x.origin x.fact in
        let e : x ≡ exit' = λ i. record { point = l.at_exit i; origin = x.origin; fact = x.fact } in
        let entries = (subst (λ (σ : Shape). Left P Q Start N K F lawful bounded start_ok σ c.point c.origin c.fact st) (ap shape l.at_call) left).1
        x.origin (call_bound bounded c.point (Call l.D l.q l.S) c.fact x.origin l.goes_in) l.goes_in in
        elim (entries.1 x.fact (base.ranged x f).2 (subst (IsFound st) e f)) [
          | inl w ↦ inl (subst (Waits st) (sym e) w)
          | inr r ↦ inr (subst (IsFound st) (sym l.there)
              (subst (λ (σ : Shape). Returned P Q Start N K F lawful bounded start_ok σ (Call l.D l.q l.S) c.point c.origin x.fact st)
              (ap shape l.at_ret) r l.y l.comes_out))
        ]

    left_exit : (u c target : TableCell) (st : State) → Base P Q Start N F st → LeftAt c st → Linked u c target → IsFound st u → Waits st u ⊎ IsFound st target
    left_exit u c target st base left l f =
        let is_ret : P.at c.point ≡ Some (Ret l.V) = ap P.at l.at_exit ∙ l.at_ret in
        let here : l.q.0 ≡ P.proc c.point =
        sym (ap P.proc l.at_exit ∙ lawful.exit_inside l.q.0 (lawful.callee u.point l.D l.q l.S l.at_call)) in
        let callers = subst (λ (σ : Shape). Left P Q Start N K F lawful bounded start_ok σ c.point c.origin c.fact st) (ap shape is_ret) left
        u.point (lawful.within u.point (Call l.D l.q l.S) l.at_call) in
        let range = base.ranged u f in
        elim (subst (λ (σ : Shape). Callers P Q Start N K F lawful bounded start_ok σ l.V c.point c.origin c.fact u.point st)
        (ap shape l.at_call) callers here u.origin range.1 u.fact range.2 l.goes_in f) [
          | inl w ↦ inl w
          | inr r ↦ inr (subst (IsFound st) (sym l.there) (r l.y l.comes_out))
        ]

    take_out_keeps : (r : TableCell × List TableCell) (st : State) → Taken st.waiting r → Base P Q Start N F st → Cover Start st
        → Base P Q Start N F (take_out P Q N F r st) × Cover Start (take_out P Q N F r st)
    take_out_keeps r st tk base cover =
        let c : TableCell = r.0 in
        let st₀ : State = record { table = st.table; found = st.found; waiting = r.1; settled = suc st.settled } in
        let base₀ : Base P Q Start N F st₀ = record {
          justified = base.justified;
          ranked = base.ranked;
          ranged = base.ranged;
          waits = λ x m. base.waits x (tk.rest x m);
          tally = (let a = base.tally in let b = tk.shorter in omega arith);
          listed = base.listed;
        } in
        let st₁ : State = settle P Q N F c st₀ in
        let (g, left) = settle_leaves P Q Start N K F lawful bounded start_ok c.point c.origin c.fact st₀ (base.waits c tk.one_in, base₀) in
        let base₁ : Base P Q Start N F st₁ = grow_base P Q Start N K F lawful bounded start_ok base₀ g in (
          base₁,
          record {
            starts = λ p d s. grow_found P Q Start g (cell (P.entry p) d d) (cover.starts p d s);
            alone = λ x f. elim (grow_new P Q Start g x f) [
              | inl f₀ ↦ elim (cover.alone x f₀) [
                | inl w ↦ elim (tk.cases x w) [
                  | inl p ↦ inr (subst (Done st₁) (sym p) (left_done c st₁ left))
                  | inr m ↦ inl (grow_waits P Q Start g x m)
                ]
                | inr h ↦ inr (done_stable st₀ st₁ x g (record { steps = h.steps; pasts = h.pasts; calls = h.calls }))
              ]
              | inr w ↦ inl w
            ];
            linked = λ u x target l fu fx. elim (grow_new P Q Start g u fu) [
              | inl fu₀ ↦ elim (grow_new P Q Start g x fx) [
                | inl fx₀ ↦ elim (cover.linked u x target l fu₀ fx₀) [
                  | inl w ↦ elim (tk.cases u w) [
                    | inl p ↦ inr (left_call c x target st₁ base₁ left (subst (λ (v : TableCell). Linked v x target) p l) fx)
                    | inr m ↦ inl (grow_waits P Q Start g u m)
                  ]
                  | inr r' ↦ elim r' [
                    | inl w ↦ elim (tk.cases x w) [
                      | inl p ↦ elim (left_exit u c target st₁ base₁ left (subst (λ (v : TableCell). Linked u v target) p l) fu)
                          [ inl w' ↦ inl w' | inr f ↦ inr (inr f) ]
                      | inr m ↦ inr (inl (grow_waits P Q Start g x m))
                    ]
                    | inr f ↦ inr (inr (grow_found P Q Start g target f))
                  ]
                ]
                | inr w ↦ inr (inl w)
              ]
              | inr w ↦ inl w
            ];
          },
        )

    work_one_keeps : (end : End) (row : List TableCell) (st : State) → st.waiting ≡ row → Base P Q Start N F st → Cover Start st
        → Base P Q Start N F (work_one P Q N F end row st) × Cover Start (work_one P Q N F end row st)
    work_one_keeps end [] st e base cover = (base, cover)
    work_one_keeps end (c ∷ cs) st e base cover =
        take_out_keeps (taken end c cs) st (subst (λ (row : List TableCell). Taken row (taken end c cs)) (sym e) (is_taken end c cs)) base cover

    work_keeps : (k : ℕ) (end : End) (st : State) → Base P Q Start N F st → Cover Start st
        → Base P Q Start N F (work P Q N F k end st) × Cover Start (work P Q N F k end st)
    work_keeps zero end st base cover = (base, cover)
    work_keeps (suc k) end st base cover =
        let (b, c) = work_one_keeps end st.waiting st refl base cover in
        work_keeps k end (work_one P Q N F end st.waiting st) b c

  more_starts : {Start Start' : ℕ → ℕ → Type 0} (N F : ℕ) (st : State) → ((p d : ℕ) → Start p d → Start' p d) → Base P Q Start N F st → Base P Q Start' N F st
  more_starts N F st more' base = record {
    justified = λ x f. why_more more' (base.justified x f);
    ranked = base.ranked;
    ranged = base.ranged;
    waits = base.waits;
    tally = base.tally;
    listed = base.listed;
  }

  module _ (N K F : ℕ) (lawful : Lawful P N K) (bounded : Within F Q) where
    record Inv (m : Mode) (st : State) (starts : List (ℕ × ℕ)) : Type 0 where
      ok : (p d : ℕ) → Accepted starts p d → (p < K) × (d < F)
      base : Base P Q (Accepted starts) N F st
      cover : Cover (Accepted starts) st
      rest : AtRest m → st.waiting ≡ []

    -- sowing finds the entry's cell, and the start is accepted
    sow_keeps : (p d : ℕ) (st : State) (starts : List (ℕ × ℕ)) → p < K → d < F → Inv Open st starts
        → Inv Open (sow P Q N F p d st) ((p, d) ∷ starts)
    sow_keeps p d st starts hp hd inv =
        let ok' : (p' d' : ℕ) → Accepted ((p, d) ∷ starts) p' d' → (p' < K) × (d' < F) =
        λ p' d' m. elim (Memᴰ.cases_cons m)
        [ inl e ↦ subst (λ (x : ℕ × ℕ). (x.0 < K) × (x.1 < F)) (sym e) (hp, hd) | inr m' ↦ inv.ok p' d' m' ] in
        let g : Grow P Q (Accepted ((p, d) ∷ starts)) st (sow P Q N F p d st) =
        grow_one P Q (Accepted ((p, d) ∷ starts)) (as_start (lawful.entry_inside p hp) (Memᴰ.head refl)) in
        let base₀ = more_starts {Start = Accepted starts} {Start' = Accepted ((p, d) ∷ starts)} N F st (λ p' d' m. Memᴰ.tail m) inv.base in
        let new : IsFound (sow P Q N F p d st) (cell (P.entry p) d d) = find_found kind.Start no_cell no_cell (cell (P.entry p) d d) st in
        let cover₁ = grow_cover (Accepted ((p, d) ∷ starts)) N K F lawful bounded ok' (Accepted starts) st (sow P Q N F p d st) g inv.cover in
        record {
          ok = ok';
          base = grow_base P Q (Accepted ((p, d) ∷ starts)) N K F lawful bounded ok' base₀ g;
          cover = record {
            starts = λ p' d' m. elim (Memᴰ.cases_cons m) [
              | inl e ↦ subst (λ (x : ℕ × ℕ). IsFound (sow P Q N F p d st) (cell (P.entry x.0) x.1 x.1)) (sym e) new
              | inr m' ↦ cover₁.starts p' d' m'
            ];
            alone = cover₁.alone;
            linked = cover₁.linked;
          };
          rest = λ r. absurd r;
        }

    work_row : (k : ℕ) (end : End) (st : State) (starts : List (ℕ × ℕ)) → Inv Open st starts → Inv Open (work P Q N F k end st) starts
    work_row k end st starts inv =
        let (b, c) = work_keeps (Accepted starts) N K F lawful bounded inv.ok k end st inv.base inv.cover in
        record { ok = inv.ok; base = b; cover = c; rest = λ r. absurd r }

    at_opened : Inv Open opened []
    at_opened = record {
      ok = λ p d m. elim m [ ];
      base = record {
        justified = λ x f. absurd (omega arith);
        ranked = λ x. omega arith;
        ranged = λ x f. absurd (omega arith);
        waits = λ x m. elim m [ ];
        tally = refl;
        listed = record { list = []; distinct = tt; complete = λ x. ((λ m. elim m [ ]), (λ f. absurd (omega arith))); count = refl };
      };
      cover = record {
        starts = λ p d m. elim m [ ];
        alone = λ x f. absurd (omega arith);
        linked = λ u x target l fu fx. absurd (omega arith);
      };
      rest = λ r. absurd r;
    }

    -- the table is as it was, and nothing waits
    still : {m m' : Mode} {st : State} {starts : List (ℕ × ℕ)} → Inv m st starts → (AtRest m' → st.waiting ≡ []) → Inv m' st starts
    still inv h = record { ok = inv.ok; base = inv.base; cover = inv.cover; rest = h }

    row_inv : {m : Mode} {st : State} {starts : List (ℕ × ℕ)} → Row P Q N K F m st starts → Inv m st starts
    row_inv newly_opened = at_opened
    row_inv (refused r) = row_inv r
    row_inv (sown {st} {starts} p d r hp hd) = sow_keeps p d st starts hp hd (row_inv r)
    row_inv (worked {st} {starts} k end r) = work_row k end st starts (row_inv r)
    row_inv (closed r e) = still (row_inv r) (λ _. e)
    row_inv (reopened r) = still (row_inv r) (λ h. absurd h)
    row_inv (trailed n d r) = row_inv r
    row_inv (begun r) = let inv = row_inv r in still inv (λ _. inv.rest tt)
    row_inv (lined r h) = let inv = row_inv r in still inv (λ _. inv.rest tt)
    row_inv (no_line_left r e) = row_inv r
    row_inv (footed r e) = let inv = row_inv r in still inv (λ _. inv.rest tt)
    row_inv (abandoned r) = let inv = row_inv r in still inv (λ _. inv.rest tt)

    -- where nothing waits, nothing is left to find
    all_settled : (Start : ℕ → ℕ → Type 0) (st : State) → st.waiting ≡ [] → Cover Start st → Closed P Q Start st.table
    all_settled Start st e cover = record {
      starts = cover.starts;
      steps = λ n a d m e' s f is follows t. (done (cell n a d) f).steps m e' s is follows t;
      pasts = λ n a d e' D q S f is t. (done (cell n a d) f).pasts e' D q S is t;
      calls = λ n a d e' D q S f is t. (done (cell n a d) f).calls e' D q S is t;
      returns = λ c b f e' z y D q S V fu fx is is_ret in' out.
          let u : TableCell = cell c b f in
          let x : TableCell = cell (P.exit q.0) e' z in
          let target : TableCell = cell (c + 1) b y in
          let l : Linked u x target = record
          { D = D; q = q; S = S; V = V; y = y; at_call = is; at_exit = refl; at_ret = is_ret; goes_in = in'; comes_out = out; there = refl } in
          elim (cover.linked u x target l fu fx) [
            | inl w ↦ absurd (none_waits u w)
            | inr r ↦ elim r [ inl w ↦ absurd (none_waits x w) | inr h ↦ h ]
          ];
    }
      where
        none_waits : (x : TableCell) → Waits st x → ⊥
        none_waits x w = none_in (subst (Memᴰ x) e w)
          where
            none_in : Memᴰ x [] → ⊥
            none_in m = elim m [ ]

        done : (x : TableCell) → IsFound st x → Done st x
        done x f = elim (cover.alone x f) [ inl w ↦ absurd (none_waits x w) | inr h ↦ h ]

    pub after : (m : Mode) (st : State) (starts : List (ℕ × ℕ)) → Row P Q N K F m st starts → After P Q N F m st starts
    after m st starts row =
        let inv = row_inv row in
        let S : ℕ → ℕ → Type 0 = Accepted starts in
        let justified : Justified P Q S st.table = λ n a d f. inv.base.justified (cell n a d) f in
        let exact : AtRest m → Exact P Q S st.table = λ r.
        let closed' = all_settled S st (inv.rest r) inv.cover in
        record {
          cells = λ n a d. (cell_reached P Q S N K lawful st.table justified n a d, cell_found P Q S st.table closed' n a d);
          pairs = λ n d. (pair_reached P Q S N K lawful st.table justified n d, pair_found P Q S st.table closed' n d);
        } in
        record {
          tally = inv.base.tally;
          range = λ n a d f. inv.base.ranged (cell n a d) f;
          exact = exact;
          number = λ r.
              let x = exact r in
              let listed = inv.base.listed in
              let none_left : length st.waiting ≡ 0 = ap length (inv.rest r) in
              record {
                list = listed.list;
                distinct = listed.distinct;
                complete = λ c. (
                  (λ h. (x.cells c.point c.origin c.fact).0 ((listed.complete c).0 h)),
                  (λ h. (listed.complete c).1 ((x.cells c.point c.origin c.fact).1 h)),
                );
                count = listed.count ∙ (let t = inv.base.tally in omega arith);
              };
          bound = (
              let listed = inv.base.listed in
              let b = cells_bound N F listed.list listed.distinct (λ c m. inv.base.ranged c ((listed.complete c).0 m)) in
              let l = listed.count in
              let t = inv.base.tally in
              omega arith);
          order = ascending_below F N st;
          lines = λ r n d. (
            (λ h. let (a, f) = pair_in F N st (n, d) h in ((exact r).pairs n d).0 (a, f)),
            (λ h. let (a, f) = ((exact r).pairs n d).1 h in
                let range = inv.base.ranged (cell n a d) f in
                pair_of_found F N st n a d range.0 range.1 range.2 f),
          );
          trails = trail_path P Q S N K lawful st.table justified;
        }

    -- what every state of a row keeps
    pub base_after : (m : Mode) (st : State) (starts : List (ℕ × ℕ)) → Row P Q N K F m st starts → Base P Q (Accepted starts) N F st
    base_after m st starts row = (row_inv row).base

    -- the accepted starts are the program's and the problem's
    pub starts_after : (m : Mode) (st : State) (starts : List (ℕ × ℕ)) → Row P Q N K F m st starts → (p d : ℕ) → Accepted starts p d → (p < K) × (d < F)
    starts_after m st starts row = (row_inv row).ok

    -- nothing waits in a table at rest
    pub rest_after : (m : Mode) (st : State) (starts : List (ℕ × ℕ)) → Row P Q N K F m st starts → AtRest m → st.waiting ≡ []
    rest_after m st starts row = (row_inv row).rest
