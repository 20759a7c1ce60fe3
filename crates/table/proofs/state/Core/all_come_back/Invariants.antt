use Rattle.std.proofs.Common.{ℕ, ◌-◌, ◌≤◌}
use Rattle.table.specs.Settling.{comes_back, AreBack}
use Rattle.table.proofs.Turns.{Turned}
use Rattle.table.proofs.state.Core.all_come_back.Given as goal

abbrev pub invariant-loop-z : goal.invariant-loop-z
invariant-loop-z g l =
    Turned (λ (F : ℕ). comes_back (g.Q.Problem.relation l.problem) F l.call l.e.0) l.initial.self l.self l.next
    × (l.next ≤ l.self.facts)
    × AreBack (g.Q.Problem.relation l.problem) l.call l.back l.self

abbrev pub decreases-loop-z : goal.decreases-loop-z
decreases-loop-z g l = l.self.facts - l.next
