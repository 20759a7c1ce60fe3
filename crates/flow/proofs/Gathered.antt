-- The facts of which something holds, gathered one by one.
use Rattle.std.proofs.Common.{◌≡◌, ℕ, ◌+◌, ◌<◌, Bool, true, false, ◌&&◌, ◌||◌, ◌==◌, nat_lt, refl, inl, inr, arith}
use Rattle.std.proofs.lemmas.Bool.{cases_eq, ne_eqb}
use Rattle.std.proofs.lemmas.Grind.{common_steps}

same : (r : Bool) (d : ℕ) → d < 64 → ((nat_lt d d && r) || (r && (nat_lt d 64 && d == d))) ≡ (nat_lt d (d + 1) && r)
same r d h = grind (arith, common_steps)

other : (r s : Bool) (d k : ℕ) → (k == d) ≡ false → ((nat_lt k d && r) || (s && (nat_lt k 64 && k == d))) ≡ (nat_lt k (d + 1) && r)
other r s d k n = grind (arith, common_steps)

-- those below d, and d if it holds of d, are those below d + 1
pub gathered : (holds : ℕ → Bool) (d k : ℕ) → d < 64
    → ((nat_lt k d && holds k) || (holds d && (nat_lt k 64 && k == d))) ≡ (nat_lt k (d + 1) && holds k)
gathered holds d k h = elim (cases_eq k d) [
  | inl q ↦ rw q (same (holds d) d h)
  | inr n ↦ other (holds k) (holds d) d k (ne_eqb k d n)
]

-- a test that holds below a bound alone needs no bound beside it
pub bounded : (f e : ℕ) (r : Bool) → (r ≡ true → e < f) → (nat_lt e f && r) ≡ r
bounded f e false h = grind (arith, common_steps)
bounded f e true h = let below = h refl in grind (arith, common_steps)
