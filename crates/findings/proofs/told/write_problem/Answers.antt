use Rattle.std.proofs.Common.{◌≡◌, ℕ, ◌-◌, ◌^◌, ◌<◌, ◌≤◌, ◌++◌, length, Err, Result, sym, ap, ◌∙◌, subst, arith}
use borrow.Rule.Slice.PartMut.{put_mid}
use Rattle.std.proofs.lemmas.Result.{err_from_is_err_and}
use Rattle.std.proofs.lemmas.Str.{IsUtf8-append}
use Rattle.page.specs.Writes.{heading, Put}
use Rattle.paths.specs.Does.{Handed}
use Rattle.paths.specs.Handing.{handed_by}
use Rattle.records.specs.declared.fault.Refusal.{Refusal}
use Rattle.table.specs.Told.{Memory}
use Rattle.findings.proofs.Ascii.{heading_utf8}
use Rattle.findings.proofs.Fronts.{behind_kept, behind_put}
use Rattle.findings.specs.Told.{body, reported, room_in}
use Rattle.findings.specs.Written.{taken, Fronts}
use Rattle.findings.specs.declared.written.Written.{Written}
use Rattle.findings.proofs.told.write_problem.Goals as goal

pub returns-in_err-body-clause-text : goal.returns-in_err-body-clause-text
returns-in_err-body-clause-text g c =
    let h : Handed = handed_by g.P.Program g.Q.Problem c.args.on.now in
    let starts = g.Q.Problem.starts c.args.on.now.problem.now in
    let start = c.heading_len-start.result in
    let text = body (reported h starts (room_in c.args.memory c.args.most)) in
    let begins : start ≡ length (heading g.Q.Problem.NUMBER) = c.heading_len-start.ensures.value ∙ ap (λ (n : ℕ). length (heading n)) c.NUMBER-number.ensures in
    let within : start ≤ length c.args.page.now = omega arith in
    let e = c.in_err-body.field-0.0 in
    let so = c.in_err-body.ensures.text in
    let p = err_from_is_err_and c.from_residual.result c.from_residual.ensures.1 in
    let failed : c.from_residual.result ≡ Err e = p.1 ∙ ap (λ (x : Refusal Memory). Err x) p.2 in
    subst (λ (o : Result Written (Refusal Memory)). Fronts (heading g.Q.Problem.NUMBER ++ text) (taken h (length c.args.memory.items)) c.args.memory c.args.page.now o (put_mid start (length c.args.page.now - start) c.args.page.now c.write_body.new.page)) (sym failed) (
      so.0,
      behind_kept (heading g.Q.Problem.NUMBER) text c.args.page.now c.write_body.new.page start begins within so.1,
      so.2,
    )

pub returns-clause-text : goal.returns-clause-text
returns-clause-text g c =
    let h : Handed = handed_by g.P.Program g.Q.Problem c.args.on.now in
    let starts = g.Q.Problem.starts c.args.on.now.problem.now in
    let start = c.heading_len-start.result in
    let text = body (reported h starts (room_in c.args.memory c.args.most)) in
    let begins : start ≡ length (heading g.Q.Problem.NUMBER) = c.heading_len-start.ensures.value ∙ ap (λ (n : ℕ). length (heading n)) c.NUMBER-number.ensures in
    let within : start ≤ length c.args.page.now = omega arith in
    let so = c.in_ok-body.ensures.text in (
      behind_put (heading g.Q.Problem.NUMBER) text c.args.page.now c.write_body.new.page start begins within c.write_heading.new.part c.in_ok-body.body.count c.in-Some.field-0 so.0
          (subst (λ (n : ℕ). Put (heading n) (put_mid start (length c.args.page.now - start) c.args.page.now c.write_body.new.page) c.in-Some.field-0 c.write_heading.new.part) c.NUMBER-number.ensures c.in-Some.ensures),
      so.1,
    )

pub returns-clause-utf8 : goal.returns-clause-utf8
returns-clause-utf8 g c =
    let h : Handed = handed_by g.P.Program g.Q.Problem c.args.on.now in
    let starts = g.Q.Problem.starts c.args.on.now.problem.now in
    let text = body (reported h starts (room_in c.args.memory c.args.most)) in
    let few : g.Q.Problem.NUMBER < 2 ^ 64 = (let e = c.NUMBER-number.ensures in let t = c.NUMBER-number.type_inv in omega arith) in
    IsUtf8-append (heading g.Q.Problem.NUMBER) text (heading_utf8 g.Q.Problem.NUMBER few) c.in_ok-body.ensures.utf8
