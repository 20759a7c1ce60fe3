-- Sets of facts as numbers.
use Rattle.std.specs.Prelude.{◌≡◌, ℕ, ◌<◌, Bool, true, false, ◌==◌, Some, None, Option}
use Rattle.std.specs.Int.{bit_at}
use Rattle.listing.specs.declared.numbers.Fact.{Fact}
use Rattle.fact_set.specs.declared.FactSet.{FactSet}

-- fact e is in the set
abbrev pub has : FactSet → ℕ → Bool
has s e = bit_at s.0 e == 1

-- the empty set
abbrev pub none : FactSet
none = record { 0 = 0 }

-- e is the least fact of the set, and below 64
pub record Least (s : FactSet) (e : ℕ) : Type 0 where
  pub below : e < 64
  pub in_set : has s e ≡ true
  pub none_before : (d : ℕ) → d < e → has s d ≡ false

-- the least fact of the set, if it has one
abbrev pub IsFirst : FactSet → Option Fact → Type 0
IsFirst s None = (e : ℕ) → has s e ≡ false
IsFirst s (Some e) = Least s e.0
