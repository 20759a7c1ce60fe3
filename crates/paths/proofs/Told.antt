-- The trail that the records in memory lead back along is that of the table of cells.
use Rattle.std.proofs.Common.{◌≡◌, ℕ, zero, suc, ◌+◌, ◌<◌, ◌≤◌, max, Bool, true, false, T, List, [], ◌∷◌, Some, None, Option, sym, refl, ap, ◌∙◌, subst, inl, inr, add-zero, arith}
use Rattle.flow.specs.Relation.{Rule}
use Rattle.moves.specs.declared.moves.Kind.{Kind}
use Rattle.moves.specs.declared.moves.Kind.TheVariants as kind
use Rattle.moves.specs.declared.moves.Move.{Move}
use Rattle.moves.specs.Words.{arrives}
use Rattle.moves.specs.Words.{code}
use Rattle.paths.specs.Supergraph.{Supergraph, Lawful}
use Rattle.paths.specs.Table.{TableCell, cell, number_of, Entry, Table, Found, Before, Why, as_start, as_step, as_past, as_call, as_return, Justified}
use Rattle.paths.specs.Trail as trail
use Rattle.paths.specs.Trail.{called, inner_by, inner, outer_by, outer}
use Rattle.paths.specs.Machine.{State}
use Rattle.paths.specs.Memory.{Rec, written_at, InRange}
use Rattle.paths.specs.Tabled.{Tabled, record_at, is_found}
use Rattle.paths.specs.Words.{kind_of, nested, arrive, inside_by, outside_by, inside, outside, trail_of, deep_by, deep_inside, deep_out_by, deep_outside, deep_of, earlier, least_found}
use Rattle.paths.proofs.Loops.{below_suc}
use Rattle.paths.proofs.Mirror.{Mirror, same_rank, cell_back}

pub kind_back : (k : Kind) → kind_of (code k) ≡ k
kind_back kind.Start = refl
kind_back kind.Step = refl
kind_back kind.Past = refl
kind_back kind.Call = refl
kind_back kind.Return = refl

abbrev entry_rec : ℕ → Entry → Rec
entry_rec F e = record { rank = e.rank; kind = code e.kind; first = number_of F e.first; second = number_of F e.second }

written_found : (F r : ℕ) (e : Entry) → e.rank ≡ r → 0 < r → written_at F r e ≡ entry_rec F e
written_found F zero e is h = absurd (omega arith)
written_found F (suc r) e is h =
    let si : suc r ≡ e.rank = sym is in
    λ i. record { rank = si i; kind = code e.kind; first = number_of F e.first; second = number_of F e.second }

module _ (P : Supergraph) (Q : Rule) (Start : ℕ → ℕ → Type 0) (N K F : ℕ) (lawful : Lawful P N K) where
  arrives_same : (k : Kind) (c : TableCell) → InRange N F c → arrive F k (number_of F c) ≡ trail.arrive k c
  arrives_same k c h = ap (λ (x : TableCell). arrives k x.point x.fact) (cell_back N F c h)

  called_same : (n m a d e : ℕ) → P.proc m ≡ P.proc n → called P (cell n a d) ≡ called P (cell m a e)
  called_same n m a d e same = ap (λ (q : ℕ). arrives kind.Call (P.entry q) a) (sym same)

  module _ (t : Table) (r : ℕ) (back' : ℕ → List Move → List Move) (back : TableCell → List Move → List Move)
      (ih : (n a d : ℕ) → Before t r n a d → (us : List Move) → back' (number_of F (cell n a d)) us ≡ back (cell n a d) (called P (cell n a d) ∷ us)) where
    inside_by_same : {k : Kind} {u v : TableCell} {n a d : ℕ} → Why P Q Start t r k u v n a d → InRange N F (cell n a d) → (us : List Move)
        → inside_by F back' k (number_of F u) (number_of F v) (number_of F (cell n a d)) us
        ≡ inner_by P back k u v (cell n a d) (called P (cell n a d) ∷ us)
    inside_by_same (as_start {p} {d} same s) h us =
        ap (λ (w : Move). w ∷ us) (arrives_same kind.Call (cell (P.entry p) d d) h
        ∙ ap (λ (q : ℕ). arrives kind.Call (P.entry q) d) (sym same))
    inside_by_same (as_step {n} {a} {d} {m} {e} s b is follows yes') h us =
        ap (λ (w : Move). w ∷ back' (number_of F (cell n a d)) us) (arrives_same kind.Step (cell m a e) h)
        ∙ ap (λ (ws : List Move). trail.arrive kind.Step (cell m a e) ∷ ws) (ih n a d b us
        ∙ ap (λ (w : Move). back (cell n a d) (w ∷ us)) (called_same n m a d e (lawful.step_inside n m s is follows)))
    inside_by_same (as_past {n} {a} {d} {e} D q S b is yes') h us =
        ap (λ (w : Move). w ∷ back' (number_of F (cell n a d)) us) (arrives_same kind.Past (cell (n + 1) a e) h)
        ∙ ap (λ (ws : List Move). trail.arrive kind.Past (cell (n + 1) a e) ∷ ws) (ih n a d b us
        ∙ ap (λ (w : Move). back (cell n a d) (w ∷ us)) (called_same n (n + 1) a d e (lawful.past_inside n D q S is)))
    inside_by_same (as_call {n} {a} {d} {e} D q S b is yes') h us =
        ap (λ (w : Move). w ∷ us) (arrives_same kind.Call (cell (P.entry q.0) e e) h
        ∙ ap (λ (x : ℕ). arrives kind.Call (P.entry x) e) (sym (lawful.entry_inside q.0 (lawful.callee n D q S is))))
    inside_by_same (as_return {c} {b} {f} {e} {z} {y} D q S V g g' is is_ret in' out) h us =
        let u = cell c b f in
        let v = cell (P.exit q.0) e z in
        let x = cell (c + 1) b y in
        ap (λ (w : Move). w ∷ back' (number_of F v) (back' (number_of F u) us)) (arrives_same kind.Return x h)
        ∙ ap (λ (ws : List Move). trail.arrive kind.Return x ∷ ws)
        (ih (P.exit q.0) e z g' (back' (number_of F u) us)
        ∙ ap (λ (ws : List Move). back v (called P v ∷ ws))
        (ih c b f g us ∙ ap (λ (w : Move). back u (w ∷ us)) (called_same c (c + 1) b f y (lawful.past_inside c D q S is))))

    module _ (out' : ℕ → List Move) (out : TableCell → List Move) (ih' : (n a d : ℕ) → Before t r n a d → out' (number_of F (cell n a d)) ≡ out (cell n a d)) where
      outside_by_same : {k : Kind} {u v : TableCell} {n a d : ℕ} → Why P Q Start t r k u v n a d → InRange N F (cell n a d)
          → outside_by F back' out' k (number_of F u) (number_of F v) (number_of F (cell n a d)) ≡ outer_by P back out k u v (cell n a d)
      outside_by_same (as_start {p} {d} same s) h = ap (λ (w : Move). w ∷ []) (arrives_same kind.Start (cell (P.entry p) d d) h)
      outside_by_same (as_step {n} {a} {d} {m} {e} s b is follows yes') h =
          ap (λ (w : Move). w ∷ out' (number_of F (cell n a d))) (arrives_same kind.Step (cell m a e) h)
          ∙ ap (λ (ws : List Move). trail.arrive kind.Step (cell m a e) ∷ ws) (ih' n a d b)
      outside_by_same (as_past {n} {a} {d} {e} D q S b is yes') h =
          ap (λ (w : Move). w ∷ out' (number_of F (cell n a d))) (arrives_same kind.Past (cell (n + 1) a e) h)
          ∙ ap (λ (ws : List Move). trail.arrive kind.Past (cell (n + 1) a e) ∷ ws) (ih' n a d b)
      outside_by_same (as_call {n} {a} {d} {e} D q S b is yes') h =
          ap (λ (w : Move). w ∷ out' (number_of F (cell n a d))) (arrives_same kind.Call (cell (P.entry q.0) e e) h)
          ∙ ap (λ (ws : List Move). trail.arrive kind.Call (cell (P.entry q.0) e e) ∷ ws) (ih' n a d b)
      outside_by_same (as_return {c} {b} {f} {e} {z} {y} D q S V g g' is is_ret in' leave) h =
          let u = cell c b f in
          let v = cell (P.exit q.0) e z in
          let x = cell (c + 1) b y in
          ap (λ (w : Move). w ∷ back' (number_of F v) (out' (number_of F u))) (arrives_same kind.Return x h)
          ∙ ap (λ (ws : List Move). trail.arrive kind.Return x ∷ ws)
          (ih (P.exit q.0) e z g' (out' (number_of F u)) ∙ ap (λ (ws : List Move). back v (called P v ∷ ws)) (ih' c b f g))

  -- THE CALLS THAT A WALK CLOSES

  module _ (t : Table) (r : ℕ) (back' : ℕ → List Move → List Move) (deep' : ℕ → ℕ)
      (ih : (n a d : ℕ) → Before t r n a d → (us : List Move) (j : ℕ)
      → nested (back' (number_of F (cell n a d)) us) (suc j) ≡ max (suc j + deep' (number_of F (cell n a d))) (nested us j)) where
    inside_by_deep : {k : Kind} {u v : TableCell} {n a d : ℕ} → Why P Q Start t r k u v n a d → (us : List Move) (j : ℕ)
        → nested (inside_by F back' k (number_of F u) (number_of F v) (number_of F (cell n a d)) us) (suc j)
        ≡ max (suc j + deep_by deep' k (number_of F u) (number_of F v)) (nested us j)
    inside_by_deep (as_start same s) us j = ap (λ (x : ℕ). max x (nested us j)) (sym (add-zero (suc j)))
    inside_by_deep (as_step {n} {a} {d} {m} {e} s b is follows yes') us j = ih n a d b us j
    inside_by_deep (as_past {n} {a} {d} {e} D q S b is yes') us j = ih n a d b us j
    inside_by_deep (as_call D q S b is yes') us j = ap (λ (x : ℕ). max x (nested us j)) (sym (add-zero (suc j)))
    inside_by_deep (as_return {c} {b} {f} {e} {z} {y} D q S V g g' is is_ret in' out) us j =
        let i = ih (P.exit q.0) e z g' (back' (number_of F (cell c b f)) us) (suc j) in
        let i' = ih c b f g us j in
        omega arith

    module _ (out' : ℕ → List Move) (deep_out : ℕ → ℕ)
        (ih' : (n a d : ℕ) → Before t r n a d → nested (out' (number_of F (cell n a d))) 0 ≡ deep_out (number_of F (cell n a d))) where
      outside_by_deep : {k : Kind} {u v : TableCell} {n a d : ℕ} → Why P Q Start t r k u v n a d
          → nested (outside_by F back' out' k (number_of F u) (number_of F v) (number_of F (cell n a d))) 0
          ≡ deep_out_by deep' deep_out k (number_of F u) (number_of F v)
      outside_by_deep (as_start same s) = refl
      outside_by_deep (as_step {n} {a} {d} {m} {e} s b is follows yes') = ih' n a d b
      outside_by_deep (as_past {n} {a} {d} {e} D q S b is yes') = ih' n a d b
      outside_by_deep (as_call {n} {a} {d} {e} D q S b is yes') = ih' n a d b
      outside_by_deep (as_return {c} {b} {f} {e} {z} {y} D q S V g g' is is_ret in' leave) =
          let i = ih (P.exit q.0) e z g' (out' (number_of F (cell c b f))) 0 in
          let i' = ih' c b f g in
          omega arith

  module _ (t : Tabled) (st : State) (a : Mirror N F t st) (justified : Justified P Q Start st.table)
      (ranged : (n a d : ℕ) → Found st.table n a d → InRange N F (cell n a d)) where
    -- the record of a found cell
    record_is : (n a d : ℕ) → Found st.table n a d → record_at t (number_of F (cell n a d)) ≡ entry_rec F (st.table (cell n a d))
    record_is n o d f = a.holds.each_cell (cell n o d) (ranged n o d f)
        ∙ written_found F (st.table (cell n o d)).rank (st.table (cell n o d)) refl f

    inside_same : (k n o d : ℕ) → Found st.table n o d → (st.table (cell n o d)).rank ≤ k → (us : List Move)
        → inside t k (number_of F (cell n o d)) us ≡ inner P st.table k (cell n o d) (called P (cell n o d) ∷ us)
    inside_same zero n o d f h us = absurd (omega arith)
    inside_same (suc k) n o d f h us =
        let c = cell n o d in
        let e = st.table c in
        ap (λ (x : Rec). inside_by t.facts (inside t k) (kind_of x.kind) x.first x.second (number_of F c) us) (record_is n o d f)
        ∙ ap (λ (x : Kind). inside_by t.facts (inside t k) x (number_of F e.first) (number_of F e.second) (number_of F c) us) (kind_back e.kind)
        ∙ ap (λ (x : ℕ). inside_by x (inside t k) e.kind (number_of F e.first) (number_of F e.second) (number_of F c) us) a.facts
        ∙ inside_by_same st.table e.rank (inside t k) (inner P st.table k)
        (λ n' o' d' b us'. inside_same k n' o' d' b.0 (omega arith) us') (justified n o d f) (ranged n o d f) us

    outside_same : (k n o d : ℕ) → Found st.table n o d → (st.table (cell n o d)).rank ≤ k
        → outside t k (number_of F (cell n o d)) ≡ outer P st.table k (cell n o d)
    outside_same zero n o d f h = absurd (omega arith)
    outside_same (suc k) n o d f h =
        let c = cell n o d in
        let e = st.table c in
        ap (λ (x : Rec). outside_by t.facts (inside t k) (outside t k) (kind_of x.kind) x.first x.second (number_of F c)) (record_is n o d f)
        ∙ ap (λ (x : Kind). outside_by t.facts (inside t k) (outside t k) x (number_of F e.first) (number_of F e.second) (number_of F c)) (kind_back e.kind)
        ∙ ap (λ (x : ℕ). outside_by x (inside t k) (outside t k) e.kind (number_of F e.first) (number_of F e.second) (number_of F c)) a.facts
        ∙ outside_by_same st.table e.rank (inside t k) (inner P st.table k)
        (λ n' o' d' b us'. inside_same k n' o' d' b.0 (omega arith) us')
        (outside t k) (outer P st.table k) (λ n' o' d' b. outside_same k n' o' d' b.0 (omega arith)) (justified n o d f) (ranged n o d f)

    inside_deep : (k n o d : ℕ) → Found st.table n o d → (st.table (cell n o d)).rank ≤ k → (us : List Move) (j : ℕ)
        → nested (inside t k (number_of F (cell n o d)) us) (suc j) ≡ max (suc j + deep_inside t k (number_of F (cell n o d))) (nested us j)
    inside_deep zero n o d f h us j = absurd (omega arith)
    inside_deep (suc k) n o d f h us j =
        let c = cell n o d in
        let e = st.table c in
        let same : inside t (suc k) (number_of F c) us
        ≡ inside_by F (inside t k) e.kind (number_of F e.first) (number_of F e.second) (number_of F c) us =
        ap (λ (x : Rec). inside_by t.facts (inside t k) (kind_of x.kind) x.first x.second (number_of F c) us) (record_is n o d f)
        ∙ ap (λ (x : Kind). inside_by t.facts (inside t k) x (number_of F e.first) (number_of F e.second) (number_of F c) us) (kind_back e.kind)
        ∙ ap (λ (x : ℕ). inside_by x (inside t k) e.kind (number_of F e.first) (number_of F e.second) (number_of F c) us) a.facts in
        let deep_same : deep_inside t (suc k) (number_of F c) ≡ deep_by (deep_inside t k) e.kind (number_of F e.first) (number_of F e.second) =
        ap (λ (x : Rec). deep_by (deep_inside t k) (kind_of x.kind) x.first x.second) (record_is n o d f)
        ∙ ap (λ (x : Kind). deep_by (deep_inside t k) x (number_of F e.first) (number_of F e.second)) (kind_back e.kind) in
        ap (λ (ws : List Move). nested ws (suc j)) same
        ∙ inside_by_deep st.table e.rank (inside t k) (deep_inside t k)
        (λ n' o' d' b us' j'. inside_deep k n' o' d' b.0 (omega arith) us' j') (justified n o d f) us j
        ∙ ap (λ (x : ℕ). max (suc j + x) (nested us j)) (sym deep_same)

    outside_deep : (k n o d : ℕ) → Found st.table n o d → (st.table (cell n o d)).rank ≤ k
        → nested (outside t k (number_of F (cell n o d))) 0 ≡ deep_outside t k (number_of F (cell n o d))
    outside_deep zero n o d f h = absurd (omega arith)
    outside_deep (suc k) n o d f h =
        let c = cell n o d in
        let e = st.table c in
        let same : outside t (suc k) (number_of F c)
        ≡ outside_by F (inside t k) (outside t k) e.kind (number_of F e.first) (number_of F e.second) (number_of F c) =
        ap (λ (x : Rec). outside_by t.facts (inside t k) (outside t k) (kind_of x.kind) x.first x.second (number_of F c)) (record_is n o d f)
        ∙ ap (λ (x : Kind). outside_by t.facts (inside t k) (outside t k) x (number_of F e.first) (number_of F e.second) (number_of F c)) (kind_back e.kind)
        ∙ ap (λ (x : ℕ). outside_by x (inside t k) (outside t k) e.kind (number_of F e.first) (number_of F e.second) (number_of F c)) a.facts in
        let deep_same : deep_outside t (suc k) (number_of F c)
        ≡ deep_out_by (deep_inside t k) (deep_outside t k) e.kind (number_of F e.first) (number_of F e.second) =
        ap (λ (x : Rec). deep_out_by (deep_inside t k) (deep_outside t k) (kind_of x.kind) x.first x.second) (record_is n o d f)
        ∙ ap (λ (x : Kind). deep_out_by (deep_inside t k) (deep_outside t k) x (number_of F e.first) (number_of F e.second)) (kind_back e.kind) in
        ap (λ (ws : List Move). nested ws 0) same
        ∙ outside_by_deep st.table e.rank (inside t k) (deep_inside t k)
        (λ n' o' d' b us' j'. inside_deep k n' o' d' b.0 (omega arith) us' j')
        (outside t k) (deep_outside t k) (λ n' o' d' b. outside_deep k n' o' d' b.0 (omega arith)) (justified n o d f)
        ∙ sym deep_same

    -- the calls that the walk keeps at once are those that its path closes
    pub deep_same : (n o d : ℕ) → Found st.table n o d
        → nested (trail_of t (number_of F (cell n o d))) 0 ≡ deep_of t (number_of F (cell n o d))
    deep_same n o d f = outside_deep (record_at t (number_of F (cell n o d))).rank n o d f
        (let e = same_rank N F t st (cell n o d) a (ranged n o d f) in omega arith)

    pub trail_same : (n o d : ℕ) → Found st.table n o d → trail_of t (number_of F (cell n o d)) ≡ trail.trail P st.table (cell n o d)
    trail_same n o d f =
        ap (λ (k : ℕ). outside t k (number_of F (cell n o d))) (same_rank N F t st (cell n o d) a (ranged n o d f))
        ∙ outside_same (st.table (cell n o d)).rank n o d f (omega arith)

-- the least a is found, or none is
abbrev pub Least : Option ℕ → ℕ → ℕ → ℕ → Tabled → Type 0
Least None k n d t = (o : ℕ) → o < k → T (is_found (number_of t.facts (cell n o d)) t) → ⊥
Least (Some c) k n d t = (o : ℕ) × (o < k) × (c ≡ number_of t.facts (cell n o d)) × T (is_found (number_of t.facts (cell n o d)) t)

pub least_is : (k n d : ℕ) (t : Tabled) → Least (least_found k n d t) k n d t
least_is zero n d t = λ o h f. absurd (omega arith)
least_is (suc k) n d t =
    go (least_found k n d t) (is_found (number_of t.facts (cell n k d)) t) refl (least_is k n d t)
  where
    go : (o : Option ℕ) (b : Bool) → is_found (number_of t.facts (cell n k d)) t ≡ b → Least o k n d t
        → Least (earlier o b (number_of t.facts (cell n k d))) (suc k) n d t
    go (Some c) b e l = (l.0, (let h = l.1 in omega arith), l.2, l.3)
    go None true e l = (k, omega arith, refl, subst T (sym e) tt)
    go None false e l = λ o h f. elim (below_suc o k h) [
      | inl p ↦ l o p f
      | inr p ↦ subst T e (subst (λ (j : ℕ). T (is_found (number_of t.facts (cell n j d)) t)) (sym p) f)
    ]
