use Rattle.std.proofs.Common.{ℕ, ◌-◌, ◌≤◌}
use Rattle.table.specs.Settling.{enters, AreBack}
use Rattle.table.proofs.Turns.{Turned}
use Rattle.table.proofs.state.Core.enter_callee.Given as goal

abbrev pub invariant-loop-e : goal.invariant-loop-e
invariant-loop-e g l =
    Turned (λ (F : ℕ). enters (g.Q.Problem.relation l.problem) F l.call) l.initial.self l.self l.next
    × (l.next ≤ l.self.facts)
    × AreBack (g.Q.Problem.relation l.problem) l.call l.back l.self

abbrev pub decreases-loop-e : goal.decreases-loop-e
decreases-loop-e g l = l.self.facts - l.next
