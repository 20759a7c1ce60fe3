-- What the operations on numbers of 64 bits do to sets.
use Rattle.std.proofs.Common.{◌≡◌, ℕ, zero, suc, ◌-◌, ◌*◌, ◌%◌, ◌^◌, ◌<◌, ◌≤◌, Bool, true, false, not, ◌&&◌, ◌||◌, ◌==◌, nat_le, nat_lt, refl, sym, ap, ◌∙◌, inl, inr, arith, bit_and, bit_or, w64, min, max}
use Rattle.std.specs.Int.{bit_at, trailing_zeros}
use Rattle.std.proofs.lemmas.Bool.{cases_lt, cases_eq, eq-eqb, ne_eqb}
use Rattle.std.proofs.lemmas.Nat.{one_shl}
use Rattle.std.proofs.lemmas.Nat.Bits.{bit_at-lt, bit_at_and, bit_at_or, bit_at_not, bit_at_above, bit_at-trailing_zeros, bit_at_ones, bit_at_ones_above, bit_at-pow_same, bit_at-pow_other}

both_bits : (x y : ℕ) → x < 2 → y < 2 → (min x y == 1) ≡ ((x == 1) && (y == 1))
both_bits zero zero h k = refl
both_bits zero (suc zero) h k = refl
both_bits zero (suc (suc y)) h k = absurd (omega arith)
both_bits (suc zero) zero h k = refl
both_bits (suc zero) (suc zero) h k = refl
both_bits (suc zero) (suc (suc y)) h k = absurd (omega arith)
both_bits (suc (suc x)) y h k = absurd (omega arith)

one_bit : (x y : ℕ) → x < 2 → y < 2 → (max x y == 1) ≡ ((x == 1) || (y == 1))
one_bit zero zero h k = refl
one_bit zero (suc zero) h k = refl
one_bit zero (suc (suc y)) h k = absurd (omega arith)
one_bit (suc zero) zero h k = refl
one_bit (suc zero) (suc zero) h k = refl
one_bit (suc zero) (suc (suc y)) h k = absurd (omega arith)
one_bit (suc (suc x)) y h k = absurd (omega arith)

pub and_has : (a b e : ℕ) → (bit_at (bit_and a b) e == 1) ≡ ((bit_at a e == 1) && (bit_at b e == 1))
and_has a b e = ap (λ (x : ℕ). x == 1) (bit_at_and a b e) ∙ both_bits (bit_at a e) (bit_at b e) (bit_at-lt a e) (bit_at-lt b e)

pub or_has : (a b e : ℕ) → (bit_at (bit_or a b) e == 1) ≡ ((bit_at a e == 1) || (bit_at b e == 1))
or_has a b e = ap (λ (x : ℕ). x == 1) (bit_at_or a b e) ∙ one_bit (bit_at a e) (bit_at b e) (bit_at-lt a e) (bit_at-lt b e)

other_bit : (x : ℕ) → x < 2 → (1 - x == 1) ≡ not (x == 1)
other_bit zero h = refl
other_bit (suc zero) h = refl
other_bit (suc (suc x)) h = absurd (omega arith)

-- a test of a number below another
pub lt_no : (a b : ℕ) → b ≤ a → nat_lt a b ≡ false
lt_no a b h = grind arith

lt_yes : (a b : ℕ) → a < b → nat_lt a b ≡ true
lt_yes a b h = grind arith

-- a number of 64 bits has no other
pub beyond : (a e : ℕ) → a < 2 ^ 64 → 64 ≤ e → (bit_at a e == 1) ≡ false
beyond a e h g = ap (λ (x : ℕ). x == 1) (bit_at_above a 64 e h g)

pub minus_has : (a b e : ℕ) → a < 2 ^ 64 → b < 2 ^ 64
    → (bit_at (bit_and a (2 ^ 64 - 1 - b)) e == 1) ≡ ((bit_at a e == 1) && not (bit_at b e == 1))
minus_has a b e h k = and_has a (2 ^ 64 - 1 - b) e ∙ elim (cases_lt e 64) [
  | inl l ↦ ap (λ (x : Bool). (bit_at a e == 1) && x) (ap (λ (x : ℕ). x == 1) (bit_at_not w64 b e k l) ∙ other_bit (bit_at b e) (bit_at-lt b e))
  | inr g ↦ ap (λ (x : Bool). x && (bit_at (2 ^ 64 - 1 - b) e == 1)) (beyond a e h g) ∙ sym (ap (λ (x : Bool). x && not (bit_at b e == 1)) (beyond a e h g))
]

below_ones : (k e : ℕ) → k ≤ 64 → (bit_at (2 ^ k - 1) e == 1) ≡ (nat_lt e 64 && nat_lt e k)
below_ones k e h = elim (cases_lt e k) [
  | inl l ↦
      (let a : (bit_at (2 ^ k - 1) e == 1) ≡ true = ap (λ (x : ℕ). x == 1) (bit_at_ones k e l) in
      a ∙ sym (ap (λ (x : Bool). x && nat_lt e k) (lt_yes e 64 (omega arith)) ∙ lt_yes e k l))
  | inr g ↦
      (let a : (bit_at (2 ^ k - 1) e == 1) ≡ false = ap (λ (x : ℕ). x == 1) (bit_at_ones_above k e g) in
      grind (arith, lt_no e k g))
]

pub below_has : (k e : ℕ) → k < 64 → (bit_at (1 * 2 ^ k % 2 ^ 64 - 1) e == 1) ≡ (nat_lt e 64 && nat_lt e k)
below_has k e h = ap (λ (x : ℕ). bit_at (x - 1) e == 1) (one_shl k 64 h) ∙ below_ones k e (omega arith)

pub all_has : (k e : ℕ) → 64 ≤ k → (bit_at (2 ^ 64 - 1) e == 1) ≡ (nat_lt e 64 && nat_lt e k)
all_has k e h = below_ones 64 e (omega arith) ∙ elim (cases_lt e 64) [
  | inl l ↦ grind (arith, lt_yes e 64 l, lt_yes e k (omega arith))
  | inr g ↦ grind (arith, lt_no e 64 g)
]

pub only_has : (k e : ℕ) → k < 64 → (bit_at (1 * 2 ^ k % 2 ^ 64) e == 1) ≡ (nat_lt e 64 && e == k)
only_has k e h = ap (λ (x : ℕ). bit_at x e == 1) (one_shl k 64 h) ∙ elim (cases_eq e k) [
  | inl q ↦
      (let a : (bit_at (2 ^ k) e == 1) ≡ true = ap (λ (x : ℕ). bit_at (2 ^ k) x == 1) q ∙ ap (λ (x : ℕ). x == 1) (bit_at-pow_same k) in
      grind (arith, lt_yes e 64 (omega arith), eq-eqb e k q))
  | inr n ↦
      (let a : (bit_at (2 ^ k) e == 1) ≡ false = ap (λ (x : ℕ). x == 1) (bit_at-pow_other k e n) in
      grind (arith, ne_eqb e k n))
]

pub only_none : (k e : ℕ) → 64 ≤ k → false ≡ (nat_lt e 64 && e == k)
only_none k e h = elim (cases_lt e 64) [
  | inl l ↦ grind (arith, ne_eqb e k (λ q. omega arith))
  | inr g ↦ grind (arith, lt_no e 64 g)
]

pub first_has : (a : ℕ) → 0 < a → a < 2 ^ 64 → (trailing_zeros w64 a < 64) × ((bit_at a (trailing_zeros w64 a) == 1) ≡ true) × ((d : ℕ) → d < trailing_zeros w64 a → (bit_at a d == 1) ≡ false)
first_has a p h =
    let z = bit_at-trailing_zeros w64 a p h in
    (z.0, ap (λ (x : ℕ). x == 1) z.1, λ d l. ap (λ (x : ℕ). x == 1) (z.2 d l))

-- what is not below k is k or more
pub from_has : (a k e : ℕ) → a < 2 ^ 64 → ((bit_at a e == 1) && not (nat_lt e 64 && nat_lt e k)) ≡ ((bit_at a e == 1) && nat_le k e)
from_has a k e h = elim (cases_lt e 64) [
  | inl l ↦ elim (cases_lt e k) [
    | inl m ↦ grind (arith, lt_yes e 64 l, lt_yes e k m)
    | inr m ↦ grind (arith, lt_yes e 64 l, lt_no e k m)
  ]
  | inr g ↦ grind (arith, beyond a e h g)
]
