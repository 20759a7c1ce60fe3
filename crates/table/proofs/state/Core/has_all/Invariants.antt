use Rattle.std.proofs.Common.{ℕ, ◌<◌}
use Rattle.table.specs.Settling.{AllFound}
use Rattle.table.specs.State.{block_of}
use Rattle.table.proofs.Sets.{Cut}
use Rattle.table.proofs.state.Core.has_all.Given as goal

abbrev pub invariant-loop-b : goal.invariant-loop-b
invariant-loop-b l =
    Cut l.self.facts l.fn.facts l.facts
    × ((b : ℕ) → b < l.b → AllFound l.fn.facts (block_of l.self.facts l.point.0 b) l.self)
