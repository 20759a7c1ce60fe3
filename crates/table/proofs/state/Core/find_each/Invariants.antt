use Rattle.std.proofs.Common.{◌≡◌, ℕ, ◌+◌, ◌*◌, ◌-◌, ◌<◌, ◌≤◌, true}
use Rattle.fact_set.specs.Sets.{has}
use Rattle.paths.specs.Tabled.{is_found}
use Rattle.table.specs.Settling.{finds_one}
use Rattle.table.specs.State.{inner}
use Rattle.table.proofs.Sets.{Cut}
use Rattle.table.proofs.Turns.{Turned}
use Rattle.table.proofs.state.Core.find_each.Given as goal

abbrev pub invariant-loop-fact : goal.invariant-loop-fact
invariant-loop-fact l =
    Turned (λ (F : ℕ). finds_one F l.fn.facts l.by l.block) l.initial.self l.self l.next
    × (l.next ≤ l.self.facts)
    × ((e : ℕ) → e < l.next → has l.fn.facts e ≡ true → is_found (l.block * l.self.facts + e) (inner l.self) ≡ true)
    × Cut l.self.facts l.fn.facts l.facts

abbrev pub decreases-loop-fact : goal.decreases-loop-fact
decreases-loop-fact l = l.self.facts - l.next
