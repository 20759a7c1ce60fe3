use Rattle.std.proofs.Common.{◌≡◌, Bool, false, Ok, Err, Result, sym, ap, ◌∙◌, subst}
use Rattle.std.proofs.lemmas.Result.{err_from_is_err_and}
use Rattle.records.specs.declared.fault.Fault.{Fault}
use Rattle.report.specs.Told.{reported}
use Rattle.findings.specs.Report.{Lines}
use Rattle.findings.proofs.Carried.{lined, late}
use Rattle.findings.proofs.lines.write_lines.Goals as goal

pub returns-in_err-line-clause-lines : goal.returns-in_err-line-clause-lines
returns-in_err-line-clause-lines g c =
    let r = reported c.loop.report in
    let r' = reported c.line.new.self in
    let p = err_from_is_err_and c.from_residual.result c.from_residual.ensures.1 in
    let failed : c.from_residual.result ≡ Err c.in_err-line.field-0.0 = p.1 ∙ ap (λ (f : Fault). Err f) p.2 in
    λ h starts.
    subst (λ (x : Result (Unit {0}) Fault). Lines h starts (reported c.args.report.now) c.args.page.now x r' c.line.new.page) (sym failed) (
      lined r r' c.loop.page c.line.new.page c.line.result c.line.ensures.lines h starts (reported c.args.report.now) c.args.page.now (c.loop.invariant.lined h starts),
      late r r' c.loop.page c.line.new.page c.in_err-line.field-0.0 c.in_err-line.ensures.lines,
    )

pub loop-preserved : goal.loop-preserved
loop-preserved g c =
    record {
      lined = λ h starts. lined (reported c.loop.report) (reported c.line.new.self) c.loop.page c.line.new.page c.line.result c.line.ensures.lines h starts
          (reported c.args.report.now) c.args.page.now (c.loop.invariant.lined h starts);
      table = c.line.ensures.table ∙ c.loop.invariant.table;
    }

pub returns-clause-lines : goal.returns-clause-lines
returns-clause-lines g c =
    let r = reported c.loop.report in
    let r' = reported c.line.new.self in
    let done : c.line.result ≡ Ok false = c.in_ok-line.was ∙ ap (λ (b : Bool). Ok b) c.if-branch.false in
    λ h starts. (
      lined r r' c.loop.page c.line.new.page c.line.result c.line.ensures.lines h starts (reported c.args.report.now) c.args.page.now (c.loop.invariant.lined h starts),
      c.line.ensures.all done,
    )
