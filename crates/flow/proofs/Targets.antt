-- Sets of the facts that follow, by the tests of their definitions.
use Rattle.std.proofs.Common.{◌≡◌, ℕ, ◌+◌, ◌≤◌, Bool, true, false, not, ◌&&◌, ◌||◌, ◌==◌, cond, nat_le, nat_lt, refl, arith, min}
use Rattle.std.proofs.lemmas.Grind.{common_steps}

pub next_below : (c e : ℕ) → (nat_lt e 64 && e == min (c + 1) 255) ≡ (nat_lt e 64 && e == c + 1)
next_below c e = grind (arith, common_steps)

-- what is below a bound by the one test or the other
pub either_below : (b x y : Bool) → ((b && x) || (b && y)) ≡ (b && (x || y))
either_below false x y = refl
either_below true x y = refl

-- a written fact is in or not, and another as before
pub written : (w k : Bool) → ((k && not w) || w) ≡ cond w true k
written false false = refl
written false true = refl
written true false = refl
written true true = refl

pub up_to : (g e : ℕ) → g ≤ 31 → (nat_lt e 64 && nat_lt e (g + 1)) ≡ nat_le e g
up_to g e h = grind (arith, common_steps)
