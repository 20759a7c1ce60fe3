-- The check of a trail passes exactly the call-matched paths.
use Rattle.std.proofs.Common.{◌≡◌, ℕ, ◌+◌, ◌<◌, Bool, true, false, cond, T, eqb, ltb, ◌⊎◌, List, [], ◌∷◌, Some, None, Option, sym, refl, ap, ◌∙◌, subst, inl, inr, arith, eqb→eq, ltb→lt, lt→ltb}
use mathlib.Core.List.Memᴰ
use mathlib.Core.List.{Memᴰ}
use lib.Dec.{eqb_refl}
use Rattle.listing.specs.declared.statement.Statement.TheVariants.{Call, Ret}
use Rattle.flow.specs.Relation.{Rule}
use Rattle.moves.specs.declared.moves.Kind.{Kind}
use Rattle.moves.specs.declared.moves.Kind.TheVariants as kind
use Rattle.moves.specs.declared.moves.Move.{Move}
use Rattle.moves.specs.Words.{arrives}
use Rattle.paths.specs.Supergraph.{successors, Supergraph, Lawful, by_step, by_past, by_call, by_return}
use Rattle.paths.specs.Paths.{Matched, start, step, past, call, return}
use Rattle.paths.specs.Machine.{both, Shape, straight, calling, returning, nothing, shape}
use Rattle.paths.specs.Check.{Spot, nowhere, at_spot, among, guard, step_ok, past_ok, call_ok, return_ok, move_on, start_on, move, moved, spot_of, PathAlong}
use Rattle.paths.proofs.Grow.{both_left, both_right, both_two}
use Rattle.paths.proofs.Settle.{of_shape, of_shape_is}
use Rattle.paths.proofs.Cover.{straight_shape}

among_in : (m : ℕ) (ks : List ℕ) → T (among m ks) → Memᴰ m ks
among_in m [] t = absurd t
among_in m (k ∷ ks) t = go (eqb m k) (eqb→eq m k) t (among_in m ks)
  where
    go : (b : Bool) → (T b → m ≡ k) → T (cond b true (among m ks)) → (T (among m ks) → Memᴰ m ks) → Memᴰ m (k ∷ ks)
    go true h t ih = Memᴰ.head (h tt)
    go false h t ih = Memᴰ.tail (ih t)

or_left : (b c : Bool) → T b → T (cond b true c)
or_left true c t = tt
or_left false c t = absurd t

or_right : (b c : Bool) → T c → T (cond b true c)
or_right true c t = tt
or_right false c t = t

eq→eqb : {m n : ℕ} → m ≡ n → T (eqb m n)
eq→eqb {m} e = subst (λ (k : ℕ). T (eqb m k)) e (eqb_refl m)

among_of : (m : ℕ) (ks : List ℕ) → Memᴰ m ks → T (among m ks)
among_of m [] h = elim h [ ]
among_of m (k ∷ ks) h = go (Memᴰ.cases_cons h) (among_of m ks)
  where
    go : (m ≡ k) ⊎ Memᴰ m ks → (Memᴰ m ks → T (among m ks)) → T (cond (eqb m k) true (among m ks))
    go (inl e) ih = or_left (eqb m k) (among m ks) (eq→eqb e)
    go (inr h) ih = or_right (eqb m k) (among m ks) (ih h)

guarded : (b : Bool) (z z' : Spot) → guard b z ≡ Some z' → T b × (z ≡ z')
guarded true z z' e = (tt, (cc))
guarded false z z' e = absurd (let x : ◌≡◌ {A = ℕ} 0 1 = cc in omega arith)

guard_yes : (b : Bool) (z : Spot) → T b → guard b z ≡ Some z
guard_yes true z t = refl
guard_yes false z t = absurd t

module _ (P : Supergraph) (Q : Rule) (N K F : ℕ) (lawful : Lawful P N K) where
  abbrev Here : ℕ → ℕ → List Move → Spot → Type 0
  Here p a us nowhere = ⊥
  Here p a us (at_spot o n d) = Matched P Q p a us o n d

  step_in : (σ : Shape) (p a : ℕ) (us : List Move) (o : List ℕ) (n d m e : ℕ) → P.at n ≡ of_shape σ → Matched P Q p a us o n d
      → T (step_ok P Q N F σ n d m e) → Matched P Q p a (arrives kind.Step m e ∷ us) o m e
  step_in (straight s) p a us o n d m e is path t =
      step s path is (among_in m (successors n s) (both_left (among m (successors n s)) (by_step Q n s d e) t)) (both_right (among m (successors n s)) (by_step Q n s d e) t)
  step_in (calling _ _ _) p a us o n d m e is path t = absurd t
  step_in (returning _) p a us o n d m e is path t = absurd t
  step_in nothing p a us o n d m e is path t = absurd t

  past_in : (σ : Shape) (p a : ℕ) (us : List Move) (o : List ℕ) (n d m e : ℕ) → P.at n ≡ of_shape σ → Matched P Q p a us o n d
      → T (past_ok P Q N F σ n d m e) → Matched P Q p a (arrives kind.Past m e ∷ us) o m e
  past_in (straight _) p a us o n d m e is path t = absurd t
  past_in (calling D q S) p a us o n d m e is path t =
      subst (λ (k : ℕ). Matched P Q p a (arrives kind.Past k e ∷ us) o k e) (sym (eqb→eq m (n + 1) (both_left (eqb m (n + 1)) (by_past Q n (Call D q S) d e) t)))
      (past D q S path is (both_right (eqb m (n + 1)) (by_past Q n (Call D q S) d e) t))
  past_in (returning _) p a us o n d m e is path t = absurd t
  past_in nothing p a us o n d m e is path t = absurd t

  call_in : (σ : Shape) (p a : ℕ) (us : List Move) (o : List ℕ) (n d m e : ℕ) → P.at n ≡ of_shape σ → Matched P Q p a us o n d
      → T (call_ok P Q N F σ n d m e) → Matched P Q p a (arrives kind.Call m e ∷ us) (n ∷ o) m e
  call_in (straight _) p a us o n d m e is path t = absurd t
  call_in (calling D q S) p a us o n d m e is path t =
      subst (λ (k : ℕ). Matched P Q p a (arrives kind.Call k e ∷ us) (n ∷ o) k e) (sym (eqb→eq m (P.entry q.0) (both_left (eqb m (P.entry q.0)) (by_call Q n (Call D q S) d e) t)))
      (call D q S path is (both_right (eqb m (P.entry q.0)) (by_call Q n (Call D q S) d e) t))
  call_in (returning _) p a us o n d m e is path t = absurd t
  call_in nothing p a us o n d m e is path t = absurd t

  return_in : (σ τ : Shape) (p a : ℕ) (us : List Move) (o : List ℕ) (c n d m e : ℕ) → P.at c ≡ of_shape σ → P.at n ≡ of_shape τ
      → Matched P Q p a us (c ∷ o) n d
      → T (return_ok P Q N F σ τ c n d m e) → Matched P Q p a (arrives kind.Return m e ∷ us) o m e
  return_in (straight _) τ p a us o c n d m e is is_ret path t = absurd t
  return_in (calling D q S) (straight _) p a us o c n d m e is is_ret path t = absurd t
  return_in (calling D q S) (calling _ _ _) p a us o c n d m e is is_ret path t = absurd t
  return_in (calling D q S) (returning V) p a us o c n d m e is is_ret path t =
      let two = both_right (eqb n (P.exit q.0)) (both (eqb m (c + 1)) (by_return Q c (Call D q S) V d e)) t in
      let at_exit : n ≡ P.exit q.0 = eqb→eq n (P.exit q.0) (both_left (eqb n (P.exit q.0)) (both (eqb m (c + 1)) (by_return Q c (Call D q S) V d e)) t) in
      subst (λ (k : ℕ). Matched P Q p a (arrives kind.Return k e ∷ us) o k e)
      (sym (eqb→eq m (c + 1) (both_left (eqb m (c + 1)) (by_return Q c (Call D q S) V d e) two)))
      (return D q S V (subst (λ (k : ℕ). Matched P Q p a us (c ∷ o) k d) at_exit path) is (subst (λ (k : ℕ). P.at k ≡ Some (Ret V)) at_exit is_ret)
      (both_right (eqb m (c + 1)) (by_return Q c (Call D q S) V d e) two))
  return_in (calling D q S) nothing p a us o c n d m e is is_ret path t = absurd t
  return_in (returning _) τ p a us o c n d m e is is_ret path t = absurd t
  return_in nothing τ p a us o c n d m e is is_ret path t = absurd t

  -- one more move
  move_in : (k : Kind) (p a : ℕ) (us : List Move) (o : List ℕ) (n d m e : ℕ) (z : Spot) → Matched P Q p a us o n d
      → move_on P Q N F k o n d m e ≡ Some z → Here p a (arrives k m e ∷ us) z
  move_in kind.Start p a us o n d m e z path h = absurd (let x : ◌≡◌ {A = ℕ} 0 1 = cc in omega arith)
  move_in kind.Step p a us o n d m e z path h =
      let (t, eq) = guarded (step_ok P Q N F (shape (P.at n)) n d m e) (at_spot o m e) z h in
      subst (Here p a (arrives kind.Step m e ∷ us)) eq (step_in (shape (P.at n)) p a us o n d m e (of_shape_is (P.at n)) path t)
  move_in kind.Past p a us o n d m e z path h =
      let (t, eq) = guarded (past_ok P Q N F (shape (P.at n)) n d m e) (at_spot o m e) z h in
      subst (Here p a (arrives kind.Past m e ∷ us)) eq (past_in (shape (P.at n)) p a us o n d m e (of_shape_is (P.at n)) path t)
  move_in kind.Call p a us o n d m e z path h =
      let (t, eq) = guarded (call_ok P Q N F (shape (P.at n)) n d m e) (at_spot (n ∷ o) m e) z h in
      subst (Here p a (arrives kind.Call m e ∷ us)) eq (call_in (shape (P.at n)) p a us o n d m e (of_shape_is (P.at n)) path t)
  move_in kind.Return p a us [] n d m e z path h = absurd (let x : ◌≡◌ {A = ℕ} 0 1 = cc in omega arith)
  move_in kind.Return p a us (c ∷ o) n d m e z path h =
      let (t, eq) = guarded (return_ok P Q N F (shape (P.at c)) (shape (P.at n)) c n d m e) (at_spot o m e) z h in
      subst (Here p a (arrives kind.Return m e ∷ us)) eq
      (return_in (shape (P.at c)) (shape (P.at n)) p a us o c n d m e (of_shape_is (P.at c)) (of_shape_is (P.at n)) path t)

  abbrev Along : List Move → Spot → Type 0
  Along us nowhere = us ≡ []
  Along us (at_spot o n d) = PathAlong P Q K F us o n d

  start_in : (k : Kind) (m e : ℕ) (z : Spot) → start_on P Q N F k m e ≡ Some z → Along (arrives k m e ∷ []) z
  start_in kind.Start m e z h =
      let (t, eq) = guarded (both (ltb m N) (both (ltb e F) (eqb m (P.entry (P.proc m))))) (at_spot [] m e) z h in
      let two = both_right (ltb m N) (both (ltb e F) (eqb m (P.entry (P.proc m)))) t in
      let here : m ≡ P.entry (P.proc m) = eqb→eq m (P.entry (P.proc m)) (both_right (ltb e F) (eqb m (P.entry (P.proc m))) two) in
      subst (Along (arrives kind.Start m e ∷ [])) eq (record {
        proc = P.proc m;
        origin = e;
        proc_ok = lawful.proc_within m (ltb→lt m N (both_left (ltb m N) (both (ltb e F) (eqb m (P.entry (P.proc m)))) t));
        origin_ok = ltb→lt e F (both_left (ltb e F) (eqb m (P.entry (P.proc m))) two);
        path = subst (λ (k : ℕ). Matched P Q (P.proc m) e (arrives kind.Start k e ∷ []) [] k e) (sym here) start;
      })
  start_in kind.Step m e z h = absurd (let x : ◌≡◌ {A = ℕ} 0 1 = cc in omega arith)
  start_in kind.Past m e z h = absurd (let x : ◌≡◌ {A = ℕ} 0 1 = cc in omega arith)
  start_in kind.Call m e z h = absurd (let x : ◌≡◌ {A = ℕ} 0 1 = cc in omega arith)
  start_in kind.Return m e z h = absurd (let x : ◌≡◌ {A = ℕ} 0 1 = cc in omega arith)

  goes_on : (w : Move) (us : List Move) (y z : Spot) → Along us y → move P Q N F y w ≡ Some z → Along (w ∷ us) z
  goes_on w us nowhere z a h = subst (λ (vs : List Move). Along (w ∷ vs) z) (sym a) (start_in w.kind w.point.0 w.fact.0 z h)
  goes_on w us (at_spot o n d) z a h = into z (move_in w.kind a.proc a.origin us o n d w.point.0 w.fact.0 z a.path h)
    where
      into : (z : Spot) → Here a.proc a.origin (w ∷ us) z → Along (w ∷ us) z
      into nowhere h = absurd h
      into (at_spot o n d) h = record { proc = a.proc; origin = a.origin; proc_ok = a.proc_ok; origin_ok = a.origin_ok; path = h }

  along : (us : List Move) (z : Spot) → spot_of P Q N F us ≡ Some z → Along us z
  along [] z h = let e : nowhere ≡ z = cc in subst (Along []) e refl
  along (w ∷ us) z h = go (spot_of P Q N F us) (along us) h
    where
      go : (y : Option Spot) → ((x : Spot) → y ≡ Some x → Along us x) → moved P Q N F y w ≡ Some z → Along (w ∷ us) z
      go None ih h = absurd (let x : ◌≡◌ {A = ℕ} 0 1 = cc in omega arith)
      go (Some x) ih h = goes_on w us x z (ih x refl) h

  pub checked : (us : List Move) (o : List ℕ) (n d : ℕ) → spot_of P Q N F us ≡ Some (at_spot o n d) → PathAlong P Q K F us o n d
  checked us o n d h = along us (at_spot o n d) h

  spots : (p a : ℕ) {us : List Move} {o : List ℕ} {n d : ℕ} → p < K → a < F → Matched P Q p a us o n d → spot_of P Q N F us ≡ Some (at_spot o n d)
  spots p a hp ha start =
      guard_yes (both (ltb (P.entry p) N) (both (ltb a F) (eqb (P.entry p) (P.entry (P.proc (P.entry p)))))) (at_spot [] (P.entry p) a)
      (both_two (ltb (P.entry p) N) (both (ltb a F) (eqb (P.entry p) (P.entry (P.proc (P.entry p))))) (lt→ltb (P.entry p) N (lawful.entry_within p hp))
      (both_two (ltb a F) (eqb (P.entry p) (P.entry (P.proc (P.entry p)))) (lt→ltb a F ha) (eq→eqb (ap P.entry (sym (lawful.entry_inside p hp))))))
  spots p a hp ha (step {open' = o} {n} {d} {m} {e} s before is follows yes') =
      ap (λ (y : Option Spot). moved P Q N F y (arrives kind.Step m e)) (spots p a hp ha before)
      ∙ guard_yes (step_ok P Q N F (shape (P.at n)) n d m e) (at_spot o m e)
      (subst (λ (σ : Shape). T (step_ok P Q N F σ n d m e)) (sym (ap shape is ∙ straight_shape n m s follows))
      (both_two (among m (successors n s)) (by_step Q n s d e) (among_of m (successors n s) follows) yes'))
  spots p a hp ha (past {open' = o} {n} {d} {e} D q S before is yes') =
      ap (λ (y : Option Spot). moved P Q N F y (arrives kind.Past (n + 1) e)) (spots p a hp ha before)
      ∙ guard_yes (past_ok P Q N F (shape (P.at n)) n d (n + 1) e) (at_spot o (n + 1) e)
      (subst (λ (σ : Shape). T (past_ok P Q N F σ n d (n + 1) e)) (sym (ap shape is))
      (both_two (eqb (n + 1) (n + 1)) (by_past Q n (Call D q S) d e) (eqb_refl (n + 1)) yes'))
  spots p a hp ha (call {open' = o} {n} {d} {e} D q S before is yes') =
      ap (λ (y : Option Spot). moved P Q N F y (arrives kind.Call (P.entry q.0) e)) (spots p a hp ha before)
      ∙ guard_yes (call_ok P Q N F (shape (P.at n)) n d (P.entry q.0) e) (at_spot (n ∷ o) (P.entry q.0) e)
      (subst (λ (σ : Shape). T (call_ok P Q N F σ n d (P.entry q.0) e)) (sym (ap shape is))
      (both_two (eqb (P.entry q.0) (P.entry q.0)) (by_call Q n (Call D q S) d e) (eqb_refl (P.entry q.0)) yes'))
  spots p a hp ha (return {open' = o} {c} {d} {e} D q S V before is is_ret yes') =
      ap (λ (y : Option Spot). moved P Q N F y (arrives kind.Return (c + 1) e)) (spots p a hp ha before)
      ∙ guard_yes (return_ok P Q N F (shape (P.at c)) (shape (P.at (P.exit q.0))) c (P.exit q.0) d (c + 1) e) (at_spot o (c + 1) e)
      (subst (λ (σ : Shape). T (return_ok P Q N F σ (shape (P.at (P.exit q.0))) c (P.exit q.0) d (c + 1) e)) (sym (ap shape is))
      (subst (λ (τ : Shape). T (return_ok P Q N F (calling D q S) τ c (P.exit q.0) d (c + 1) e)) (sym (ap shape is_ret))
      (both_two (eqb (P.exit q.0) (P.exit q.0)) (both (eqb (c + 1) (c + 1)) (by_return Q c (Call D q S) V d e)) (eqb_refl (P.exit q.0))
      (both_two (eqb (c + 1) (c + 1)) (by_return Q c (Call D q S) V d e) (eqb_refl (c + 1)) yes'))))

  pub passed : (us : List Move) (o : List ℕ) (n d : ℕ) → PathAlong P Q K F us o n d → spot_of P Q N F us ≡ Some (at_spot o n d)
  passed us o n d r = spots r.proc r.origin r.proc_ok r.origin_ok r.path
