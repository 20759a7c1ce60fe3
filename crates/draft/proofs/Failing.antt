-- The least element that fails a test, step by step.
use Rattle.std.proofs.Common.{◌≡◌, ℕ, zero, suc, ◌+◌, ◌<◌, ◌≤◌, Bool, true, false, cond, List, [], ◌∷◌, length, drop, Some, None, Option, MatchOption, sym, refl, ap, ◌∙◌, ⊎_elim, arith}
use Rattle.std.specs.List.{slice_get}
use Rattle.std.proofs.lemmas.List.{at_drop_all}
use Rattle.std.proofs.lemmas.Bool.{cond-true, cond-false, cases_Bool}
use Rattle.listing.proofs.Lists.{drop_nth, nth_none}
use Rattle.draft.specs.Rules.{failing}

pub none_parts : (b : Bool) (o : Option ℕ) (n : ℕ) → cond b o (Some n) ≡ None → (b ≡ true) × (o ≡ None)
none_parts true o n h = (refl, h)
none_parts false o n h = let z : ◌≡◌ {A = ℕ} 0 1 = cc in absurd (omega arith)

module _ {A : Type 0} where
  module _ (test : ℕ → A → Bool) (xs : List A) (n : ℕ) where
    pub failing_here : (x : A) → slice_get xs n ≡ Some x → test n x ≡ false → failing test n (drop n xs) ≡ Some n
    failing_here x e f = ap (failing test n) (drop_nth xs n x e) ∙ cond-false _ _ _ f

    pub failing_more : (x : A) → slice_get xs n ≡ Some x → test n x ≡ true → failing test n (drop n xs) ≡ failing test (n + 1) (drop (n + 1) xs)
    failing_more x e t = ap (failing test n) (drop_nth xs n x e) ∙ cond-true _ _ _ t

    pub failing_none : length xs ≤ n → failing test n (drop n xs) ≡ None
    failing_none h = at_drop_all (failing test n) xs n h

  module _ (test : ℕ → A → Bool) (xs : List A) where
    -- that the element at a place passes, or that there is one that fails
    abbrev pub Passes : ℕ → Type 0
    Passes k = (x : A) → slice_get xs k ≡ Some x → test k x ≡ true

    abbrev pub Fails : ℕ → Type 0
    Fails k = (x : A) × (slice_get xs k ≡ Some x) × (test k x ≡ false)

    stands : (k : ℕ) (o : Option A) → o ≡ slice_get xs k → k < length xs → (x : A) × (slice_get xs k ≡ Some x)
    stands k None e l = absurd (omega (arith, nth_none xs k (sym e)))
    stands k (Some x) e l = (x, sym e)

    past : (i : ℕ) → i ≤ length xs → ((k : ℕ) → 0 ≤ k → k < i → Passes k) → failing test i (drop i xs) ≡ failing test 0 xs
    past zero l h = refl
    past (suc i) l h =
        let (x, e) = stands i (slice_get xs i) refl (omega (arith, l)) in
        let next : suc i ≡ i + 1 = omega arith in
        ap (λ m. failing test m (drop m xs)) next ∙ sym (failing_more test xs i x e (h i (omega arith) (omega arith) x e)) ∙ past i (omega (arith, l)) (λ k low high. h k low (omega (arith, high)))

    -- the first that fails, as a search over the places finds it
    pub first_is : (m : ℕ) (r : Option ℕ) → m ≡ length xs
        → MatchOption r ((k : ℕ) → 0 ≤ k → k < m → Passes k) (λ i. (0 ≤ i) × (i < m) × Fails i × ((k : ℕ) → 0 ≤ k → k < i → Passes k))
        → r ≡ failing test 0 xs
    first_is m None e h = sym (failing_none test xs m (omega (arith, e))) ∙ past m (omega (arith, e)) h
    first_is m (Some i) e (low, high, (x, at, bad), before) =
        sym (failing_here test xs i x at bad) ∙ past i (omega (arith, e, high)) before

  -- where nothing fails, every element passes
  pub passing : (test : ℕ → A → Bool) (xs : List A) (n : ℕ) → failing test n xs ≡ None → (k : ℕ) (x : A) → slice_get xs k ≡ Some x → test (n + k) x ≡ true
  passing test [] n h k x e = let z : ◌≡◌ {A = ℕ} 0 1 = cc in absurd (omega arith)
  passing test (y ∷ xs) n h zero x e =
      let same : y ≡ x = cc in
      let z : n + 0 ≡ n = omega arith in
      ap (λ m. test m x) z ∙ (ap (test n) (sym same) ∙ (none_parts (test n y) (failing test (n + 1) xs) n h).0)
  passing test (y ∷ xs) n h (suc k) x e =
      let s : n + suc k ≡ n + 1 + k = omega arith in
      ap (λ m. test m x) s ∙ passing test xs (n + 1) (none_parts (test n y) (failing test (n + 1) xs) n h).1 k x e

  -- the least element that fails: its place, that it fails, and that those before it pass
  pub record Least (test : ℕ → A → Bool) (xs : List A) (n m : ℕ) : Type 0 where
    pub index : ℕ
    pub here : A
    pub place : m ≡ n + index
    pub stands : slice_get xs index ≡ Some here
    pub fails : test m here ≡ false
    pub before : (k : ℕ) (y : A) → k < index → slice_get xs k ≡ Some y → test (n + k) y ≡ true

  least_first : (test : ℕ → A → Bool) (x : A) (xs : List A) (n m : ℕ) → test n x ≡ false → n ≡ m → Least test (x ∷ xs) n m
  least_first test x xs n m f e =
      record { index = 0; here = x; place = omega arith; stands = refl; fails = ap (λ k. test k x) (sym e) ∙ f; before = λ k y l s. absurd (omega arith) }

  least_later : (test : ℕ → A → Bool) (x : A) (xs : List A) (n m : ℕ) → test n x ≡ true → Least test xs (n + 1) m → Least test (x ∷ xs) n m
  least_later test x xs n m t r =
      record { index = suc r.index; here = r.here; place = omega (arith, r.place); stands = r.stands; fails = r.fails; before = earlier }
    where
      earlier : (k : ℕ) (y : A) → k < suc r.index → slice_get (x ∷ xs) k ≡ Some y → test (n + k) y ≡ true
      earlier zero y l s = let same : x ≡ y = cc in let z : n + 0 ≡ n = omega arith in ap (λ k. test k y) z ∙ (ap (test n) (sym same) ∙ t)
      earlier (suc k) y l s = let e : n + suc k ≡ n + 1 + k = omega arith in ap (λ k. test k y) e ∙ r.before k y (omega arith) s

  pub failing_least : (test : ℕ → A → Bool) (xs : List A) (n m : ℕ) → failing test n xs ≡ Some m → Least test xs n m
  failing_least test [] n m h = let z : ◌≡◌ {A = ℕ} 0 1 = cc in absurd (omega arith)
  failing_least test (x ∷ xs) n m h =
      ⊎_elim
      (λ t. least_later test x xs n m t (failing_least test xs (n + 1) m (sym (cond-true _ _ _ t) ∙ h)))
      (λ f. least_first test x xs n m f (some_same (sym (cond-false _ _ _ f) ∙ h)))
      (cases_Bool (test n x))
    where
      some_same : {p q : ℕ} → Some p ≡ Some q → p ≡ q
      some_same e = cc
