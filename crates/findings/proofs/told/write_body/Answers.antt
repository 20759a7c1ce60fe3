use Rattle.std.proofs.Common.{List, ℕ, length, replicate, vec_items, Result, sym, subst}
use Rattle.std.specs.Str.{IsUtf8}
use Rattle.paths.specs.Does.{Handed}
use Rattle.paths.specs.Handing.{handed_by}
use Rattle.paths.specs.Memory.{blank}
use Rattle.records.specs.declared.fault.Fault.{Fault}
use Rattle.findings.specs.Outcome.{accepted}
use Rattle.findings.specs.Told.{body, room_in}
use Rattle.findings.proofs.Ascii.{fault_utf8}
use Rattle.findings.proofs.Reports.{filled_tells, on_ok}
use Rattle.findings.proofs.told.write_body.Goals as goal

pub returns-in-Ok-clause-law : goal.returns-in-Ok-clause-law
returns-in-Ok-clause-law g c =
    let h : Handed = handed_by g.P.Program g.Q.Problem c.args.on.now in
    let starts = g.Q.Problem.starts c.args.on.now.problem.now in
    filled_tells h starts (room_in c.args.memory c.args.most) c.in-Ok.table c.args.page.now c.write_report.new.page c.write_report.result c.in-Ok.ensures.text
    (c.write_report.ensures h (accepted h starts (replicate (length (vec_items c.args.memory)) blank)) c.in-Ok.ensures.led)

pub returns-in-Err-clause-utf8 : goal.returns-in-Err-clause-utf8
returns-in-Err-clause-utf8 g c =
    on_ok c.write_refused.result _ (subst (λ (o : Result (List ℕ) Fault). IsUtf8 (body o)) (sym c.in-Err.ensures.0) (fault_utf8 c.in-Err.refusal.fault))
