use Rattle.std.proofs.Common.{◌≡◌, ◌^◌, ◌<◌, length, ap, ◌∙◌, subst, arith}
use Rattle.paths.specs.Page.{report_text}
use Rattle.paths.specs.Tabled.{Tabled}
use Rattle.paths.proofs.Pages.{foot_page}
use Rattle.records.specs.Faults.{number_of}
use Rattle.table.proofs.Opens.{few_cells}
use Rattle.report.specs.Told.{reported}
use Rattle.paths.specs.Law.{Reported}
use Rattle.findings.proofs.Ascii.{report_utf8}
use Rattle.findings.proofs.Turns.{is_full, still_same}
use Rattle.findings.proofs.Whole.{paged, late_line, late_foot, foot_ends, put_front}
use Rattle.findings.proofs.lines.finish.Goals as goal

pub returns-in-Err : goal.returns-in-Err
returns-in-Err g c =
    let t : Tabled = (reported c.args.report).table in
    let r = reported c.write_lines.new.report in
    λ h starts start.
    let e = c.in-Err.ensures.lines h starts in
    let p = paged h starts r c.write_lines.new.page (e.0.carries start) in
    let long = late_line c.in-Err.fault r c.write_lines.new.page p e.1 in
    let same : r.table ≡ t = e.0.table in
    let size = e.0.size in
    let text : length (report_text r.table) ≡ length (report_text t) = ap (λ (x : Tabled). length (report_text x)) same in
    (record { fault = e.1.fault; full = omega arith }, c.end.ensures.memory ∙ ap (λ x. x.core.records) (c.abandon.ensures ∙ c.write_lines.ensures.table))

pub returns-in-Ok : goal.returns-in-Ok
returns-in-Ok g c =
    let t : Tabled = (reported c.args.report).table in
    let r = reported c.write_lines.new.report in
    let page = c.write_lines.new.page in
    let page' = c.foot.new.page in
    let end = c.in-Ok.footed.end in
    let core = c.args.report.table.core in
    let few : t.settled < 2 ^ 64 = omega (arith, core.counted, core.product, few_cells core.points core.facts core.few_points core.few_facts) in
    let foots = c.in-Ok.ensures.foots in
    λ h starts start.
    let e = c.in_default.ensures.lines h starts in
    let u = e.0.carries start in
    let p = paged h starts r page u in
    let same : r.table ≡ t = e.0.table in
    let ends = foot_ends r page page' _ p e.1 end foots in
    let text = foot_page r end page page' _ foots p ∙ ap report_text same in (
      record {
        put =
            put_front (report_text t) c.args.page.now page' end ends.within (ends.size ∙ e.0.size) text
            (ends.rest ∙ still_same page c.args.page.now r.place end ends.after e.0.rest);
        utf8 = report_utf8 t core.few_points core.few_facts few;
        tells = subst (Reported h starts) text (u.usage.footed starts r _ end page page' u.on foots).0;
      },
      c.end-in-Ok.ensures.memory ∙ ap (λ x. x.core.records) (c.in-Ok.ensures.back ∙ c.write_lines.ensures.table),
    )

pub returns-in-Err-foot : goal.returns-in-Err-foot
returns-in-Err-foot g c =
    let t : Tabled = (reported c.args.report).table in
    let r = reported c.write_lines.new.report in
    let page = c.write_lines.new.page in
    let fault = c.in-Err-foot.refusal.fault in
    λ h starts start.
    let e = c.in_default.ensures.lines h starts in
    let p = paged h starts r page (e.0.carries start) in
    let same : r.table ≡ t = e.0.table in
    let late = late_foot r page c.foot.new.page _ p e.1 (number_of fault) c.in-Err-foot.ensures.foots in
    let size = e.0.size in
    let text : length (report_text r.table) ≡ length (report_text t) = ap (λ (x : Tabled). length (report_text x)) same in
    let long = late.1 in
    (record { fault = is_full fault late.0; full = omega arith }, c.end-in-Err-foot.ensures.memory ∙ ap (λ x. x.core.records) (c.abandon-in-Err-foot.ensures ∙ ap (λ x. x.table) c.in-Err-foot.ensures.back ∙ c.write_lines.ensures.table))
