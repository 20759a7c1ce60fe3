use Rattle.std.proofs.Common.{length}
use Rattle.table.specs.State.{state}
use Rattle.trail.proofs.Walking.{Measuring}
use Rattle.trail.proofs.passes.measure.Given as goal

-- so many moves are counted
abbrev pub invariant-loop-count : goal.invariant-loop-count
invariant-loop-count l = Measuring (state l.table) (length l.fn.calls) l.cell l.count l.walk l.calls
