use Rattle.std.proofs.Common.{length, ◌≤◌, ap, subst, arith}
use Rattle.paths.specs.Page.{report_text}
use Rattle.report.specs.Told.{reported}
use Rattle.table.specs.State.{state, ClosedTable}
use Rattle.table.specs.Told.{Memory}
use Rattle.findings.specs.Report.{Finished}
use Rattle.findings.proofs.Whole.{from_begun, fits_whole}
use Rattle.findings.proofs.lines.write_report.Goals as goal

-- that it fits was asked first
pub returns : goal.returns
returns c =
    let t = c.args.table in
    let page = c.args.page.now in
    let page' = c.finish.new.page in
    let o = c.finish.result in
    let fits : length (report_text (state t)) ≤ length page = omega (arith, c.report_len.ensures.value, c.if-page-report_len.false) in
    λ h starts led.
    fits_whole h starts t page page' o fits
    (subst (λ (m : Memory). Finished h starts (state t) m page o page') (ap (λ (x : ClosedTable). x.core.records) c.begin.ensures.table)
    (from_begun (reported c.begin.result) (state t) c.begin.result.table.core.records page page' o c.begin.ensures.begun c.finish.ensures h starts led))
