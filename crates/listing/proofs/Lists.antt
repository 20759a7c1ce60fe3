-- What stands at a place of a list.
use Rattle.std.proofs.Common.{◌≡◌, ℕ, zero, suc, ◌+◌, ◌<◌, ◌≤◌, List, [], ◌∷◌, map, length, drop, Some, None, refl, add-one, arith}
use Rattle.std.specs.List.{slice_get}
use Rattle.std.specs.Option.{option_map}

module _ {A : Type 0} where
  drops : (xs : List A) (n : ℕ) (x : A) → slice_get xs n ≡ Some x → drop n xs ≡ x ∷ drop (suc n) xs
  drops [] n x e = let z : ◌≡◌ {A = ℕ} 0 1 = cc in absurd (omega arith)
  drops (y ∷ xs) zero x e = cc
  drops (y ∷ xs) (suc n) x e = drops xs n x e

  -- what stands at a place, and what is left after it
  pub drop_nth : (xs : List A) (n : ℕ) (x : A) → slice_get xs n ≡ Some x → drop n xs ≡ x ∷ drop (n + 1) xs
  drop_nth xs n x e = rw add-one (drops xs n x e)

  pub nth_within : (xs : List A) (n : ℕ) (x : A) → slice_get xs n ≡ Some x → n < length xs
  nth_within [] n x e = let z : ◌≡◌ {A = ℕ} 0 1 = cc in absurd (omega arith)
  nth_within (y ∷ xs) zero x e = omega arith
  nth_within (y ∷ xs) (suc n) x e = omega (arith, nth_within xs n x e)

  pub nth_none : (xs : List A) (n : ℕ) → slice_get xs n ≡ None → length xs ≤ n
  nth_none [] n e = omega arith
  nth_none (y ∷ xs) zero e = let z : ◌≡◌ {A = ℕ} 0 1 = cc in absurd (omega arith)
  nth_none (y ∷ xs) (suc n) e = omega (arith, nth_none xs n e)

  -- the first of what is left stands there
  pub nth_front : (xs ys : List A) (n : ℕ) (x : A) → drop n xs ≡ x ∷ ys → slice_get xs n ≡ Some x
  nth_front [] ys zero x h = let z : ◌≡◌ {A = ℕ} 0 1 = cc in absurd (omega arith)
  nth_front [] ys (suc n) x h = let z : ◌≡◌ {A = ℕ} 0 1 = cc in absurd (omega arith)
  nth_front (a ∷ more) ys zero x h = cc
  nth_front (a ∷ more) ys (suc n) x h = nth_front more ys n x h

  pub nth_drop_one : (xs : List A) (n : ℕ) → slice_get (drop 1 xs) n ≡ slice_get xs (suc n)
  nth_drop_one [] n = refl
  nth_drop_one (x ∷ xs) n = refl

pub nth_map : {A B : Type 0} (f : A → B) (xs : List A) (n : ℕ) → slice_get (map f xs) n ≡ option_map f (slice_get xs n)
nth_map f [] n = refl
nth_map f (x ∷ xs) zero = refl
nth_map f (x ∷ xs) (suc n) = nth_map f xs n
