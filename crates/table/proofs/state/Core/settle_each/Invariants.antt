use Rattle.std.proofs.Common.{◌≡◌, ◌+◌, ◌-◌}
use Rattle.paths.specs.Handing.{handed_by}
use Rattle.paths.specs.Tabled.{work}
use Rattle.table.specs.Seen.{Recalls}
use Rattle.table.specs.State.{inner, spare}
use Rattle.table.proofs.state.Core.settle_each.Given as goal

-- what is left to do gives the end
abbrev pub invariant-loop-done : goal.invariant-loop-done
invariant-loop-done g l =
    let h = handed_by g.P.Program g.Q.Problem l.on in
    (work h.graph h.rule h.points h.facts (l.k - l.done) l.end (inner l.self) ≡ work h.graph h.rule h.points h.facts l.k l.end (inner l.initial.self))
    × ((inner l.self).settled ≡ (inner l.initial.self).settled + l.done)
    × (l.self.points ≡ l.initial.self.points)
    × (l.self.facts ≡ l.initial.self.facts)
    × (spare l.self ≡ spare l.initial.self)
    × Recalls (g.P.Program.meaning l.on.program.now) l.seen
