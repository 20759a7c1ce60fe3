-- What finding keeps, and what any number of findings keep.
use Rattle.std.proofs.Common.{◌≡◌, ℕ, zero, suc, ◌+◌, ◌<◌, ◌≤◌, Bool, true, false, cond, T, eqb, ◌⊎◌, [], ◌∷◌, ◌++◌, length, sym, refl, ap, ◌∙◌, subst, inl, inr, arith, eqb→eq, length-append}
use mathlib.Core.List.Memᴰ
use mathlib.Core.List.{Memᴰ}
use lib.Dec.{eqb_refl}
use Rattle.listing.specs.declared.statement.Statement.TheVariants.{Call}
use Rattle.flow.specs.Relation.{Rule, Within}
use Rattle.moves.specs.declared.moves.Kind.{Kind}
use Rattle.paths.specs.Supergraph.{Supergraph, Lawful}
use Rattle.paths.proofs.Bounds.{step_bound, past_bound, call_bound, return_bound}
use Rattle.paths.specs.Table.{TableCell, cell, Entry, Table, Before, Why, as_start, as_step, as_past, as_call, as_return}
use Rattle.paths.specs.Rows.{Number}
use Rattle.paths.specs.Machine.{both, same_cell, put, State, find_at, find}

pub both_left : (a b : Bool) → T (both a b) → T a
both_left true b t = tt
both_left false b t = t

pub both_right : (a b : Bool) → T (both a b) → T b
both_right true b t = t
both_right false b t = absurd t

pub both_two : (a b : Bool) → T a → T b → T (both a b)
both_two true b t u = u
both_two false b t u = t

pub same_cell_eq : (c x : TableCell) → T (same_cell c x) → c ≡ x
same_cell_eq c x h =
    let p = eqb→eq c.point x.point (both_left (eqb c.point x.point) (both (eqb c.origin x.origin) (eqb c.fact x.fact)) h) in
    let r = both_right (eqb c.point x.point) (both (eqb c.origin x.origin) (eqb c.fact x.fact)) h in
    let o = eqb→eq c.origin x.origin (both_left (eqb c.origin x.origin) (eqb c.fact x.fact) r) in
    let f = eqb→eq c.fact x.fact (both_right (eqb c.origin x.origin) (eqb c.fact x.fact) r) in
    λ i. record { point = p i; origin = o i; fact = f i }

pub same_cell_refl : (c : TableCell) → T (same_cell c c)
same_cell_refl c =
    both_two (eqb c.point c.point) _ (eqb_refl c.point)
    (both_two (eqb c.origin c.origin) (eqb c.fact c.fact) (eqb_refl c.origin) (eqb_refl c.fact))

pub put_split : (t : Table) (c : TableCell) (e : Entry) (x : TableCell) → (c ≡ x) ⊎ (put t c e x ≡ t x)
put_split t c e x = go (same_cell c x) (same_cell_eq c x)
  where
    go : (b : Bool) → (T b → c ≡ x) → (c ≡ x) ⊎ (cond b e (t x) ≡ t x)
    go true h = inl (h tt)
    go false h = inr refl

pub put_same : (t : Table) (c : TableCell) (e : Entry) → put t c e c ≡ e
put_same t c e = go (same_cell c c) (same_cell_refl c)
  where
    go : (b : Bool) → T b → cond b e (t c) ≡ e
    go true h = refl
    go false h = absurd h

abbrev pub IsFound : State → TableCell → Type 0
IsFound st x = 0 < (st.table x).rank

abbrev pub Waits : State → TableCell → Type 0
Waits st x = Memᴰ x st.waiting

keeps_at : (r : ℕ) (k : Kind) (u v c : TableCell) (st : State) → (st.table c).rank ≡ r → (x : TableCell) → IsFound st x
    → (find_at r k u v c st).table x ≡ st.table x
keeps_at zero k u v c st e x h = go (put_split st.table c (record { rank = suc st.found; kind = k; first = u; second = v }) x)
  where
    go : (c ≡ x) ⊎ (put st.table c (record { rank = suc st.found; kind = k; first = u; second = v }) x ≡ st.table x)
        → put st.table c (record { rank = suc st.found; kind = k; first = u; second = v }) x ≡ st.table x
    go (inl p) = absurd (let z : (st.table x).rank ≡ 0 = sym (ap (λ (y : TableCell). (st.table y).rank) p) ∙ e in omega arith)
    go (inr p) = p
keeps_at (suc r) k u v c st e x h = refl

found_at : (r : ℕ) (k : Kind) (u v c : TableCell) (st : State) → (st.table c).rank ≡ r → IsFound (find_at r k u v c st) c
found_at zero k u v c st e =
    let z = ap (λ (y : Entry). y.rank) (put_same st.table c (record { rank = suc st.found; kind = k; first = u; second = v })) in omega arith
found_at (suc r) k u v c st e = omega arith

new_at : (r : ℕ) (k : Kind) (u v c : TableCell) (st : State) (x : TableCell) → IsFound (find_at r k u v c st) x
    → IsFound st x ⊎ Waits (find_at r k u v c st) x
new_at zero k u v c st x h = go (put_split st.table c (record { rank = suc st.found; kind = k; first = u; second = v }) x)
  where
    go : (c ≡ x) ⊎ (put st.table c (record { rank = suc st.found; kind = k; first = u; second = v }) x ≡ st.table x)
        → IsFound st x ⊎ Memᴰ x (st.waiting ++ (c ∷ []))
    go (inl p) = inr (Memᴰ.append_right st.waiting (Memᴰ.head (sym p)))
    go (inr p) = inl (subst (λ (y : Entry). 0 < y.rank) p h)
new_at (suc r) k u v c st x h = inl h

waits_at : (r : ℕ) (k : Kind) (u v c : TableCell) (st : State) (x : TableCell) → Waits st x → Waits (find_at r k u v c st) x
waits_at zero k u v c st x h = Memᴰ.append_left (c ∷ []) h
waits_at (suc r) k u v c st x h = h

pub find_keeps : (k : Kind) (u v c : TableCell) (st : State) (x : TableCell) → IsFound st x → (find k u v c st).table x ≡ st.table x
find_keeps k u v c st x h = keeps_at (st.table c).rank k u v c st refl x h

pub find_found : (k : Kind) (u v c : TableCell) (st : State) → IsFound (find k u v c st) c
find_found k u v c st = found_at (st.table c).rank k u v c st refl

module _ (P : Supergraph) (Q : Rule) (Start : ℕ → ℕ → Type 0) where
  -- any number of findings, each justified by what is found by then
  pub data Grow (st : State) : State → Type 0 where
    same : Grow st st
    more : {st' : State} {k : Kind} {u v : TableCell} {n a d : ℕ} → Grow st st'
        → Why P Q Start st'.table (suc st'.found) k u v n a d → Grow st (find k u v (cell n a d) st')

  pub grow_trans : {st₁ st₂ st₃ : State} → Grow st₁ st₂ → Grow st₂ st₃ → Grow st₁ st₃
  grow_trans g same = g
  grow_trans g (more h w) = more (grow_trans g h) w

  pub grow_one : {st : State} {k : Kind} {u v : TableCell} {n a d : ℕ}
      → Why P Q Start st.table (suc st.found) k u v n a d → Grow st (find k u v (cell n a d) st)
  grow_one w = more same w

  pub grow_keeps : {st st' : State} → Grow st st' → (x : TableCell) → IsFound st x → st'.table x ≡ st.table x
  grow_keeps same x h = refl
  grow_keeps {st} (more {st'} {k} {u} {v} {n} {a} {d} g w) x h =
      let e = grow_keeps g x h in
      find_keeps k u v (cell n a d) st' x (subst (λ (y : Entry). 0 < y.rank) (sym e) h) ∙ e

  pub grow_found : {st st' : State} → Grow st st' → (x : TableCell) → IsFound st x → IsFound st' x
  grow_found g x h = subst (λ (y : Entry). 0 < y.rank) (sym (grow_keeps g x h)) h

  pub grow_waits : {st st' : State} → Grow st st' → (x : TableCell) → Waits st x → Waits st' x
  grow_waits same x h = h
  grow_waits (more {st'} {k} {u} {v} {n} {a} {d} g w) x h =
      waits_at (st'.table (cell n a d)).rank k u v (cell n a d) st' x (grow_waits g x h)

  pub grow_new : {st st' : State} → Grow st st' → (x : TableCell) → IsFound st' x → IsFound st x ⊎ Waits st' x
  grow_new same x h = inl h
  grow_new {st} (more {st'} {k} {u} {v} {n} {a} {d} g w) x h =
      go (new_at (st'.table (cell n a d)).rank k u v (cell n a d) st' x h) (grow_new g x)
    where
      go : IsFound st' x ⊎ Waits (find k u v (cell n a d) st') x → (IsFound st' x → IsFound st x ⊎ Waits st' x)
          → IsFound st x ⊎ Waits (find k u v (cell n a d) st') x
      go (inl f) ih = again (ih f)
        where
          again : IsFound st x ⊎ Waits st' x → IsFound st x ⊎ Waits (find k u v (cell n a d) st') x
          again (inl f) = inl f
          again (inr w) = inr (waits_at (st'.table (cell n a d)).rank k u v (cell n a d) st' x w)
      go (inr w) ih = inr w

  -- a justification stays one as more is found
  why_kept : {t t' : Table} {r : ℕ} → ((x : TableCell) → 0 < (t x).rank → t' x ≡ t x)
      → {k : Kind} {u v : TableCell} {n a d : ℕ} → Why P Q Start t r k u v n a d → Why P Q Start t' r k u v n a d
  why_kept {t} {t'} {r} kept w = go w
    where
      before : (n a d : ℕ) → Before t r n a d → Before t' r n a d
      before n a d b = subst (λ (y : Entry). (0 < y.rank) × (y.rank < r)) (sym (kept (cell n a d) b.0)) b

      go : {k : Kind} {u v : TableCell} {n a d : ℕ} → Why P Q Start t r k u v n a d → Why P Q Start t' r k u v n a d
      go (as_start e s) = as_start e s
      go (as_step {n} {a} {d} s h is follows yes') = as_step s (before n a d h) is follows yes'
      go (as_past {n} {a} {d} D q S h is yes') = as_past D q S (before n a d h) is yes'
      go (as_call {n} {a} {d} D q S h is yes') = as_call D q S (before n a d h) is yes'
      go (as_return {c} {b} {f} {e} {z} D q S V h g is is_ret in' out) =
          as_return D q S V (before c b f h) (before (P.exit q.0) e z g) is is_ret in' out

  abbrev WhyOf : Table → TableCell → Type 0
  WhyOf t x = Why P Q Start t (t x).rank (t x).kind (t x).first (t x).second x.point x.origin x.fact

  pub record Base (N F : ℕ) (st : State) : Type 0 where
    pub justified : (x : TableCell) → IsFound st x → WhyOf st.table x
    pub ranked : (x : TableCell) → (st.table x).rank ≤ st.found
    pub ranged : (x : TableCell) → IsFound st x → (x.point < N) × (x.origin < F) × (x.fact < F)
    pub waits : (x : TableCell) → Waits st x → IsFound st x
    pub tally : st.found ≡ st.settled + length st.waiting
    pub listed : Number (IsFound st) st.found

  module _ (N K F : ℕ) (lawful : Lawful P N K) (bounded : Within F Q) (start_ok : (p d : ℕ) → Start p d → (p < K) × (d < F)) where
    why_ranged : {t : Table} {r : ℕ} → ((x : TableCell) → 0 < (t x).rank → (x.point < N) × (x.origin < F) × (x.fact < F))
        → {k : Kind} {u v : TableCell} {n a d : ℕ} → Why P Q Start t r k u v n a d → (n < N) × (a < F) × (d < F)
    why_ranged h (as_start {p} {d} e s) = let o = start_ok p d s in (lawful.entry_within p o.0, o.1, o.1)
    why_ranged h (as_step {n} {a} {d} {m} {e} s b is follows yes') =
        (lawful.step_within n m s is follows, (h (cell n a d) b.0).1, step_bound bounded n s d e yes')
    why_ranged h (as_past {n} {a} {d} {e} D q S b is yes') =
        (lawful.past_within n D q S is, (h (cell n a d) b.0).1, past_bound bounded n (Call D q S) d e yes')
    why_ranged h (as_call {n} {a} {d} {e} D q S b is yes') =
        let o = call_bound bounded n (Call D q S) d e yes' in (lawful.entry_within q.0 (lawful.callee n D q S is), o, o)
    why_ranged h (as_return {c} {b} {f} {e} {z} {y} D q S V g _ is is_ret in' out) =
        (lawful.past_within c D q S is, (h (cell c b f) g.0).1, return_bound bounded c (Call D q S) V z y out)

    base_at : (r : ℕ) (k : Kind) (u v : TableCell) (n a d : ℕ) (st : State) → (st.table (cell n a d)).rank ≡ r → Base N F st
        → Why P Q Start st.table (suc st.found) k u v n a d → Base N F (find_at r k u v (cell n a d) st)
    base_at zero k u v n a d st e base w = record {
      justified = λ x h. elim (put_split st.table (cell n a d) new x) [
        | inl p ↦ subst (WhyOf t') p here
        | inr p ↦ subst (λ (y : Entry). Why P Q Start t' y.rank y.kind y.first y.second x.point x.origin x.fact) (sym p)
            (why_kept kept (base.justified x (subst (λ (y : Entry). 0 < y.rank) p h)))
      ];
      ranked = λ x. elim (put_split st.table (cell n a d) new x) [
        | inl p ↦ subst (λ (y : TableCell). (t' y).rank ≤ suc st.found) p
            (let z = ap (λ (y : Entry). y.rank) at_new in omega arith)
        | inr p ↦ (let z = ap (λ (y : Entry). y.rank) p in let b = base.ranked x in omega arith)
      ];
      ranged = λ x h. elim (put_split st.table (cell n a d) new x) [
        | inl p ↦ subst (λ (y : TableCell). (y.point < N) × (y.origin < F) × (y.fact < F)) p (why_ranged base.ranged w)
        | inr p ↦ base.ranged x (subst (λ (y : Entry). 0 < y.rank) p h)
      ];
      waits = λ x h. elim (Memᴰ.append_cases st.waiting h) [
        | inl m ↦ subst (λ (y : Entry). 0 < y.rank) (sym (kept x (base.waits x m))) (base.waits x m)
        | inr m ↦ subst (λ (y : TableCell). 0 < (t' y).rank) (sym (Memᴰ.eq_of_singleton m)) (found_at zero k u v (cell n a d) st e)
      ];
      tally = (let b = base.tally in simp length-append (omega arith));
      listed = record {
        list = cell n a d ∷ base.listed.list;
        distinct = (λ m. let f = (base.listed.complete (cell n a d)).0 m in absurd (omega arith), base.listed.distinct);
        complete = λ x. (
          (λ m. elim (Memᴰ.cases_cons m) [
            | inl p ↦ subst (λ (y : TableCell). 0 < (t' y).rank) (sym p) (found_at zero k u v (cell n a d) st e)
            | inr m' ↦ (let f = (base.listed.complete x).0 m' in subst (λ (y : Entry). 0 < y.rank) (sym (kept x f)) f)
          ]),
          (λ f. elim (put_split st.table (cell n a d) new x) [
            | inl p ↦ Memᴰ.head (sym p)
            | inr p ↦ Memᴰ.tail ((base.listed.complete x).1 (subst (λ (y : Entry). 0 < y.rank) p f))
          ]),
        );
        count = ap suc base.listed.count;
      };
    }
      where
        new : Entry
        new = record { rank = suc st.found; kind = k; first = u; second = v }

        t' : Table
        t' = put st.table (cell n a d) new

        kept : (x : TableCell) → 0 < (st.table x).rank → t' x ≡ st.table x
        kept x h = keeps_at zero k u v (cell n a d) st e x h

        at_new : t' (cell n a d) ≡ new
        at_new = put_same st.table (cell n a d) new

        here : WhyOf t' (cell n a d)
        here = subst (λ (y : Entry). Why P Q Start t' y.rank y.kind y.first y.second n a d) (sym at_new) (why_kept kept w)
    base_at (suc r) k u v n a d st e base w = base

    pub grow_base : {st st' : State} → Base N F st → Grow st st' → Base N F st'
    grow_base b same = b
    grow_base b (more {st'} {k} {u} {v} {n} {a} {d} g w) =
        base_at (st'.table (cell n a d)).rank k u v n a d st' refl (grow_base b g) w

pub why_more : {P : Supergraph} {Q : Rule} {Start Start' : ℕ → ℕ → Type 0} → ((p d : ℕ) → Start p d → Start' p d)
    → {t : Table} {r : ℕ} {k : Kind} {u v : TableCell} {n a d : ℕ} → Why P Q Start t r k u v n a d → Why P Q Start' t r k u v n a d
why_more more' (as_start {p} {d} e s) = as_start e (more' p d s)
why_more more' (as_step s h is follows yes') = as_step s h is follows yes'
why_more more' (as_past D q S h is yes') = as_past D q S h is yes'
why_more more' (as_call D q S h is yes') = as_call D q S h is yes'
why_more more' (as_return D q S V h g is is_ret in' out) = as_return D q S V h g is is_ret in' out
