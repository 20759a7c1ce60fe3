use Rattle.std.proofs.Common.{◌≡◌}
use Rattle.paths.specs.Words.{least_found}
use Rattle.table.specs.State.{inner}
use Rattle.table.proofs.state.Core.least_found.Given as goal

abbrev pub invariant-loop-a : goal.invariant-loop-a
invariant-loop-a l = l.least ≡ least_found l.a l.point.0 l.fact.0 (inner l.self)
