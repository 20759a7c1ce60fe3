use Rattle.std.proofs.Common.{length}
use Rattle.table.specs.State.{state}
use Rattle.trail.proofs.Walking.{Writing}
use Rattle.trail.proofs.passes.write.Given as goal

-- the words from the place on are written
abbrev pub invariant-loop-place : goal.invariant-loop-place
invariant-loop-place l = Writing (state l.table) (length l.fn.calls) l.cell l.place l.left l.calls l.words
