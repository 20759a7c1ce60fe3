use Rattle.listing.specs.Meaning.{size}
use Rattle.table.specs.Seen.{Recalls}
use Rattle.table.specs.State.{inner, Kept}
use Rattle.table.proofs.Callers.{Progress, left}
use Rattle.table.proofs.state.Core.settle_ret.Given as goal

abbrev pub invariant-loop-next : goal.invariant-loop-next
invariant-loop-next g l =
    Kept l.initial.self l.self
    × Recalls (g.P.Program.meaning l.on.program.now) l.seen
    × Progress (g.P.Program.meaning l.on.program.now) (g.Q.Problem.relation l.on.problem.now) (l.initial.self.facts) l.returned l.exit (inner l.initial.self) l.next (inner l.self)

abbrev pub decreases-loop-next : goal.decreases-loop-next
decreases-loop-next g l = left (size (g.P.Program.meaning l.on.program.now)) l.next
