use Rattle.std.proofs.Common.{string_bytes}
use Rattle.paths.specs.Handing.{handed_by}
use Rattle.table.specs.State.{state}
use Rattle.progress.proofs.Working.{Underway, left_over}
use Rattle.progress.proofs.tabulate.work_off.Given as goal

abbrev pub invariant-loop-pace : goal.invariant-loop-pace
invariant-loop-pace g l =
    Underway (handed_by g.P.Program g.Q.Problem l.on) l.pace.portion.size l.pace.from (state l.initial.table) (state l.table) (string_bytes l.out)

abbrev pub decreases-loop-pace : goal.decreases-loop-pace
decreases-loop-pace g l = left_over (state l.table)
