-- Tables of what is told at each place, step by step.
use Rattle.std.proofs.Common.{◌≡◌, ℕ, ◌+◌, ◌<◌, ◌≢◌, List, length, set, replicate, Some, None, Option, sym, ap, ◌∙◌, subst, ⊎_elim, arith}
use lib.ListN.{length-replicate}
use Rattle.std.proofs.lemmas.List.{get_or_past, get_or-replicate, get_or-set_same, get_or-set_other}
use Rattle.std.proofs.lemmas.Option.{cond_some}
use Rattle.std.proofs.lemmas.Bool.{cases_eq, cases_lt, cond-true, cond-false, lt-ltb, le-ltb, ltb-true}
use Rattle.listing.specs.Meaning.{below}
use Rattle.draft.specs.Told.{told}

module _ {A : Type 0} where
  below_some : (k n : ℕ) (x : A) → k < n → below k n x ≡ Some x
  below_some k n x h = cond-true _ _ _ (lt-ltb k n h)

  pub below_within : (k n : ℕ) (x y : A) → below k n x ≡ Some y → (k < n) × (x ≡ y)
  below_within k n x y e = let p = cond_some _ x y e in (ltb-true k n p.0, p.1)

  -- an empty table tells nothing
  pub told_empty : (size k : ℕ) → told {A = A} (replicate size None) k ≡ None
  told_empty size k =
      ⊎_elim
      (λ l. get_or-replicate size k None None l)
      (λ g. get_or_past (replicate size None) k None (omega (arith, length-replicate {A = Option A} size None)))
      (cases_lt k size)

  module _ (f : ℕ → A) where
    pub told_none : (size k : ℕ) → told (replicate size None) k ≡ below k 0 (f k)
    told_none size k = told_empty size k ∙ sym (cond-false _ _ _ (le-ltb k 0 (omega arith)))

    below_more : (k n : ℕ) → k ≢ n → below k n (f k) ≡ below k (n + 1) (f k)
    below_more k n ne =
        ⊎_elim
        (λ l. below_some k n (f k) l ∙ sym (below_some k (n + 1) (f k) (omega arith)))
        (λ g. cond-false _ _ _ (le-ltb k n g) ∙ sym (cond-false _ _ _ (le-ltb k (n + 1) (omega (arith, ne)))))
        (cases_lt k n)

    -- a table that tells what is below n, once it tells what is at n
    pub told_more : (table : List (Option A)) (i n : ℕ) (x : A) → i ≡ n → x ≡ f n → n < length table → ((k : ℕ) → told table k ≡ below k n (f k)) → (k : ℕ) → told (set table i (Some x)) k ≡ below k (n + 1) (f k)
    told_more table i n x at is room was k = ap (λ j. told (set table j (Some x)) k) at ∙ (ap (λ y. told (set table n (Some y)) k) is ∙ by_place)
      where
        by_place : told (set table n (Some (f n))) k ≡ below k (n + 1) (f k)
        by_place =
            ⊎_elim
            (λ e. subst (λ (j : ℕ). told (set table n (Some (f n))) j ≡ below j (n + 1) (f j)) (sym e)
            (get_or-set_same table n (Some (f n)) None room ∙ sym (below_some n (n + 1) (f n) (omega arith))))
            (λ ne. get_or-set_other table n k (Some (f n)) None ne ∙ (was k ∙ below_more k n ne))
            (cases_eq k n)
