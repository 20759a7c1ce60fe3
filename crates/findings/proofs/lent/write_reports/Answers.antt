use Rattle.std.proofs.Common.{◌≡◌, ◌-◌, ◌≤◌, length, Err, Result, sym, ap, ◌∙◌, subst, arith}
use borrow.Rule.Slice.PartMut.{put_mid}
use Rattle.std.proofs.lemmas.Result.{err_from_is_err_and}
use Rattle.flow.specs.declared.choice.Choice.TheVariants.{Unset, Raw}
use Rattle.records.specs.declared.fault.Refusal.{Refusal}
use Rattle.table.specs.Told.{Memory}
use Rattle.findings.proofs.Both.{came_first, came_then, too_short, no_room, both_put, both_utf8, both_exact}
use Rattle.findings.specs.Listed.{both_told, taken_of}
use Rattle.findings.specs.Told.{room_in}
use Rattle.findings.specs.Written.{Fronts}
use Rattle.findings.specs.declared.written.Written.{Written}
use Rattle.findings.proofs.lent.write_reports.Goals as goal

pub returns-then-page-start-clause-text : goal.returns-then-page-start-clause-text
returns-then-page-start-clause-text g c =
    let m = g.P.Program.meaning c.args.program.now in
    let n = c.of-counts.result in
    let e = c.of-counts.ensures in
    let a = c.args.memory in
    let b = c.problem_len-start.result.1 in
    let first = c.problem_len-start.ensures.returned in (
      cc,
      too_short m n.globals n.locals e.globals e.locals c.args.most a b first c.args.page.now c.args.page.now c.problem_len-start.result.0 c.problem_len-start.ensures.length c.if-page-start.true,
      came_first m n.globals n.locals e.globals e.locals c.args.most a b first,
    )

pub returns-in_err-second-clause-text : goal.returns-in_err-second-clause-text
returns-in_err-second-clause-text g c =
    let m = g.P.Program.meaning c.args.program.now in
    let n = c.of-counts.result in
    let e = c.of-counts.ensures in
    let a = c.args.memory in
    let b = c.problem_len-start.result.1 in
    let first = c.problem_len-start.ensures.returned in
    let before = came_first m n.globals n.locals e.globals e.locals c.args.most a b first in
    let start = c.problem_len-start.result.0 in
    let within : start ≤ length c.args.page.now = omega arith in
    let page = c.args.page.now in
    let r = c.in_err-second.field-0.0 in
    let so = c.in_err-second.ensures.text in
    let p = err_from_is_err_and c.from_residual.result c.from_residual.ensures.1 in
    let failed : c.from_residual.result ≡ Err r = p.1 ∙ ap (λ (x : Refusal Memory). Err x) p.2 in
    subst (λ (o : Result Written (Refusal Memory)). Fronts (both_told m (room_in a c.args.most)) (taken_of m (length a.items)) a page o (put_mid start (length page - start) page c.write_problem.new.page)) (sym failed) (
      so.0,
      no_room m n.globals n.locals e.globals e.locals c.args.most a b first page c.write_problem.new.page start c.problem_len-start.ensures.length within so.1,
      came_then m n.globals n.locals e.globals e.locals c.args.most a b first Raw b r.back before so.2,
    )

pub returns-clause-text : goal.returns-clause-text
returns-clause-text g c =
    let m = g.P.Program.meaning c.args.program.now in
    let n = c.of-counts.result in
    let e = c.of-counts.ensures in
    let a = c.args.memory in
    let b = c.problem_len-start.result.1 in
    let first = c.problem_len-start.ensures.returned in
    let before = came_first m n.globals n.locals e.globals e.locals c.args.most a b first in
    let start = c.problem_len-start.result.0 in
    let within : start ≤ length c.args.page.now = omega arith in
    let second = c.in_ok-second.second in
    let so = c.in_ok-second.ensures.text in
    let then = c.in_ok-first.ensures.text in
    let between = came_then m n.globals n.locals e.globals e.locals c.args.most a b first Raw b second.memory before so.1 in (
      both_put m n.globals n.locals e.globals e.locals c.args.most a b first c.args.page.now c.write_problem.new.page start c.problem_len-start.ensures.length within
          second.memory c.write_problem-2.new.page second.count c.in_ok-first.first.count between so.0 then.0,
      came_then m n.globals n.locals e.globals e.locals c.args.most a b first Unset second.memory c.in_ok-first.first.memory between then.1,
    )

pub returns-clause-utf8 : goal.returns-clause-utf8
returns-clause-utf8 g c =
    let m = g.P.Program.meaning c.args.program.now in
    let n = c.of-counts.result in
    let e = c.of-counts.ensures in
    let a = c.args.memory in
    let b = c.problem_len-start.result.1 in
    let first = c.problem_len-start.ensures.returned in
    let before = came_first m n.globals n.locals e.globals e.locals c.args.most a b first in
    let second = c.in_ok-second.second in
    let between = came_then m n.globals n.locals e.globals e.locals c.args.most a b first Raw b second.memory before c.in_ok-second.ensures.text.1 in
    both_utf8 m n.globals n.locals e.globals e.locals c.args.most a b first second.memory between c.in_ok-second.ensures.utf8 c.in_ok-first.ensures.utf8

pub returns-clause-law : goal.returns-clause-law
returns-clause-law g c =
    let m = g.P.Program.meaning c.args.program.now in
    let n = c.of-counts.result in
    let e = c.of-counts.ensures in
    let a = c.args.memory in
    let b = c.problem_len-start.result.1 in
    let first = c.problem_len-start.ensures.returned in
    let before = came_first m n.globals n.locals e.globals e.locals c.args.most a b first in
    let second = c.in_ok-second.second in
    let between = came_then m n.globals n.locals e.globals e.locals c.args.most a b first Raw b second.memory before c.in_ok-second.ensures.text.1 in
    both_exact m n.globals n.locals e.globals e.locals c.args.most a b first second.memory between (g.P.Program.lawful c.args.program.now) c.in_ok-second.ensures.law c.in_ok-first.ensures.law
