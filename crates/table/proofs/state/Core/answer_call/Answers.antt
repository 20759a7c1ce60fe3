use Rattle.std.proofs.Common.{◌∙◌}
use Rattle.table.specs.State.{inner}
use Rattle.table.proofs.Coming.{answers_idle}
use Rattle.table.proofs.Returning.{answers_is}
use Rattle.table.proofs.state.Core.answer_call.Goals as goal

pub returns-clause-after : goal.returns-clause-after
returns-clause-after g c =
    let t = c.args.self.now in
    c.return_blocks.ensures.after
    ∙ answers_is (g.Q.Problem.relation c.args.problem.now) t.facts _ _ c.args.site (inner t) c.entered_from.ensures c.returned-with.ensures

pub returns-then-has_all-clause-after : goal.returns-then-has_all-clause-after
returns-then-has_all-clause-after g c =
    answers_idle (g.Q.Problem.relation c.args.problem.now) _ c.args.site c.args.self.now (c.has_all.ensures c.if-has_all.true) c.returned-with.ensures
