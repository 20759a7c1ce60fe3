use Rattle.std.proofs.Common.{◌≡◌, ℕ, ◌+◌, ◌*◌, map, vec_items, ap, ◌∙◌}
use Rattle.paths.specs.Does.{Handed}
use Rattle.paths.specs.Handing.{handed_by}
use Rattle.table.specs.State.{rec, state}
use Rattle.findings.proofs.Settling.{has_room, settles, returned}
use Rattle.findings.proofs.fill.settled.Goals as goal

pub returns-clause-settled : goal.returns-clause-settled
returns-clause-settled g c =
    let h : Handed = handed_by g.P.Program g.Q.Problem c.args.on.now in
    let many : c.records_for.result + 1 ≡ h.points * h.facts * h.facts + 1 = ap (λ (x : ℕ). x + 1) c.records_for.ensures in
    λ memory opened.
    settles h (g.Q.Problem.starts c.args.on.now.problem.now) (map rec (vec_items memory)) (state c.args.table) (state c.sow_starts.new.table) (state c.work.new.self) (state c.in-Ok-close.table)
    (c.records_for.result + 1) c.in-Ok.field-0 (has_room h (map rec (vec_items memory)) opened.answers) opened.made.state_is opened.made.usage
    c.sow_starts.ensures.after c.sow_starts.ensures.carries many c.in-Ok.ensures.works c.in-Ok-close.ensures.closes

pub returns-clause-returned : goal.returns-clause-returned
returns-clause-returned g c =
    let h : Handed = handed_by g.P.Program g.Q.Problem c.args.on.now in
    let first = c.sow_starts.ensures.counts in
    let then = c.in-Ok.ensures.counts in
    λ memory opened.
    returned h memory c.args.table.core c.work.new.self.core c.in-Ok-close.table.core (has_room h (map rec (vec_items memory)) opened.answers) opened.made
    (then.points ∙ first.points) (then.facts ∙ first.facts) (c.in-Ok.ensures.spare ∙ c.sow_starts.ensures.spare) c.in-Ok-close.ensures.same
