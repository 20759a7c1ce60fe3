-- Counting `ret` over the front of a flow of control.
use Rattle.std.proofs.Common.{◌≡◌, ℕ, zero, suc, ◌+◌, ◌-◌, ◌<◌, ◌≤◌, Bool, true, false, List, [], ◌∷◌, length, take, Some, None, sym, refl, ap, ◌∙◌, add-one, arith}
use Rattle.std.specs.List.{slice_get}
use Rattle.listing.specs.declared.control.Control.{Control}
use Rattle.listing.specs.Statements.{is_ret}
use Rattle.std.proofs.lemmas.List.{take_all}
use Rattle.std.proofs.lemmas.Bool.{cond-true, cond-false, le-leb, lt-leb}
use Rattle.draft.specs.Rules.{has_ret, crowded}
use Rattle.listing.specs.Procedures.{bump, rets, procedure, exit, exit_by, ends_in_ret}

bump_bump : (a b : Bool) (n : ℕ) → bump a (bump b n) ≡ bump b (bump a n)
bump_bump true true n = refl
bump_bump true false n = refl
bump_bump false true n = refl
bump_bump false false n = refl

more : (cs : List Control) (n : ℕ) → rets (take (suc n) cs) ≡ bump (has_ret (slice_get cs n)) (rets (take n cs))
more [] zero = refl
more [] (suc n) = refl
more (d ∷ cs) zero = refl
more (d ∷ cs) (suc n) = ap (bump (is_ret d)) (more cs n) ∙ bump_bump (is_ret d) (has_ret (slice_get cs n)) (rets (take n cs))

-- the next point is in the next procedure where the statement is a `ret`
pub procedure_more : (cs : List Control) (n : ℕ) → procedure cs (n + 1) ≡ bump (has_ret (slice_get cs n)) (procedure cs n)
procedure_more cs n = rw add-one (more cs n)

bump_le : (b : Bool) (m n : ℕ) → m ≤ n → bump b m ≤ bump b n
bump_le true m n h = omega arith
bump_le false m n h = h

pub procedure_le : (cs : List Control) (n : ℕ) → procedure cs n ≤ rets cs
procedure_le cs zero = omega arith
procedure_le [] (suc n) = omega arith
procedure_le (c ∷ cs) (suc n) = bump_le (is_ret c) (rets (take n cs)) (rets cs) (procedure_le cs n)

-- a `ret` is the exit of its procedure
pub exit_here : (cs : List Control) (n : ℕ) → has_ret (slice_get cs n) ≡ true → exit cs (procedure cs n) ≡ n
exit_here [] n r = let z : ◌≡◌ {A = ℕ} 0 1 = cc in absurd (omega arith)
exit_here (d ∷ cs) zero r = ap (λ b. exit_by b (exit cs) 0) r
exit_here (d ∷ cs) (suc n) r = go (is_ret d) (exit_here cs n r)
  where
    go : (b : Bool) → exit cs (procedure cs n) ≡ n → exit_by b (exit cs) (bump b (procedure cs n)) ≡ suc n
    go true ih = ap suc ih
    go false ih = ap suc ih

-- the first 60 `ret` are followed by another
pub crowded_at : (cs : List Control) (n : ℕ) → has_ret (slice_get cs n) ≡ true → procedure cs n ≡ 60 → crowded cs ≡ Some n
unfolding crowded
crowded_at cs n r e =
    let past : suc (procedure cs n) ≤ rets cs = omega (arith, procedure_le cs (n + 1), procedure_more cs n, ap (λ b. bump b (procedure cs n)) r) in
    cond-false _ _ _ (lt-leb (rets cs) 60 (omega arith)) ∙ ap Some (ap (exit cs) (sym e) ∙ exit_here cs n r)

pub crowded_none : (cs : List Control) → rets cs ≤ 60 → crowded cs ≡ None
unfolding crowded
crowded_none cs h = cond-true _ _ _ (le-leb (rets cs) 60 h)

-- at the end every `ret` is counted
pub procedure_all : (cs : List Control) (n : ℕ) → length cs ≤ n → procedure cs n ≡ rets cs
procedure_all cs n h = ap rets (take_all n cs h)

-- the last statement is a `ret` where one stands at the last point
pub ends_last : (cs : List Control) → ends_in_ret cs ≡ has_ret (slice_get cs (length cs - 1))
ends_last [] = refl
ends_last (c ∷ []) = refl
ends_last (c ∷ d ∷ cs) =
    let k : length (c ∷ d ∷ cs) - 1 ≡ suc (length (d ∷ cs) - 1) = omega arith in
    ends_last (d ∷ cs) ∙ ap (λ n. has_ret (slice_get (c ∷ d ∷ cs) n)) (sym k)

-- the exit of a procedure is a `ret`, and stands in that procedure
pub exit_ret : (cs : List Control) (p : ℕ) → p < rets cs → has_ret (slice_get cs (exit cs p)) ≡ true
exit_ret [] p h = absurd (omega arith)
exit_ret (c ∷ cs) p h = go (is_ret c) refl p h (exit_ret cs)
  where
    go : (b : Bool) → is_ret c ≡ b → (p : ℕ) → p < bump b (rets cs) → ((q : ℕ) → q < rets cs → has_ret (slice_get cs (exit cs q)) ≡ true) → has_ret (slice_get (c ∷ cs) (exit_by b (exit cs) p)) ≡ true
    go true e zero h ih = e
    go true e (suc p) h ih = ih p (omega arith)
    go false e p h ih = ih p h

pub exit_inside : (cs : List Control) (p : ℕ) → p < rets cs → procedure cs (exit cs p) ≡ p
exit_inside [] p h = absurd (omega arith)
exit_inside (c ∷ cs) p h = go (is_ret c) refl p h (exit_inside cs)
  where
    go : (b : Bool) → is_ret c ≡ b → (p : ℕ) → p < bump b (rets cs) → ((q : ℕ) → q < rets cs → procedure cs (exit cs q) ≡ q) → procedure (c ∷ cs) (exit_by b (exit cs) p) ≡ p
    go true e zero h ih = refl
    go true e (suc p) h ih = ap (λ b. bump b (procedure cs (exit cs p))) e ∙ ap suc (ih p (omega arith))
    go false e p h ih = ap (λ b. bump b (procedure cs (exit cs p))) e ∙ ih p h

-- a `ret` is one of those that are counted
pub ret_counted : (cs : List Control) (n : ℕ) → has_ret (slice_get cs n) ≡ true → procedure cs n < rets cs
ret_counted cs n r = omega (arith, procedure_le cs (n + 1), procedure_more cs n, ap (λ b. bump b (procedure cs n)) r)

-- exits stand in order, within the program
pub exit_within : (cs : List Control) (p : ℕ) → p < rets cs → exit cs p < length cs
exit_within [] p h = absurd (omega arith)
exit_within (c ∷ cs) p h = go (is_ret c) p h (exit_within cs)
  where
    go : (b : Bool) (p : ℕ) → p < bump b (rets cs) → ((q : ℕ) → q < rets cs → exit cs q < length cs) → exit_by b (exit cs) p < suc (length cs)
    go true zero h ih = omega arith
    go true (suc p) h ih = let r = ih p (omega arith) in omega arith
    go false p h ih = let r = ih p h in omega arith
