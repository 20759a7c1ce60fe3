use Rattle.std.proofs.Common.{◌≡◌, ℕ, Bool, ◌&&◌, nat_lt}
use Rattle.fact_set.specs.Sets.{has}
use Rattle.listing.specs.declared.numbers.Fact.{Fact}
use Rattle.flow.proofs.gathering.facts_where.Given as goal

-- those of the facts so far
abbrev pub invariant-loop-d : goal.invariant-loop-d
invariant-loop-d g l = (holds : ℕ → Bool) → ((d : Fact) (b : Bool) → g.F.Fn.post l.test (d, tt) b → b ≡ holds d.0) → (k : ℕ) → has l.facts k ≡ (nat_lt k l.d && holds k)
