use Rattle.std.proofs.Common.{length, vec_items, sym, subst, arith, ◌<◌, ◌≤◌}
use Rattle.paths.proofs.Listed.{listing}
use Rattle.paths.specs.Does.{Handed, Closed}
use Rattle.paths.specs.Handing.{handed_by}
use Rattle.paths.specs.Page.{report_text}
use Rattle.table.specs.State.{state}
use Rattle.table.specs.Told.{Memory}
use Rattle.findings.proofs.Reports.{short_told, long_told, led_told, back_told}
use Rattle.findings.specs.Written.{taken, Returned}
use Rattle.findings.proofs.told.reportable.Goals as goal

pub returns-then-most-report_len : goal.returns-then-most-report_len
returns-then-most-report_len g c =
    let h : Handed = handed_by g.P.Program g.Q.Problem c.args.on.now in
    let starts = g.Q.Problem.starts c.args.on.now.problem.now in
    let lawful = listing (g.P.Program.meaning c.args.on.now.program.now) (g.P.Program.lawful c.args.on.now.program.now) in
    let t = c.in_ok-table.table in
    let long : c.args.most < length (report_text (state t)) = omega (arith, c.report_len.ensures.value, c.if-most-report_len.true) in (
      long_told h starts c.args.memory c.args.most lawful (state t) c.in_ok-table.ensures.0 long,
      subst (λ (m : Memory). Returned (taken h (length (vec_items c.args.memory))) c.args.memory m) (sym c.end.ensures.memory)
          (back_told h starts c.args.memory c.args.most lawful (state t) c.in_ok-table.ensures.0 t.core.records c.in_ok-table.ensures.1),
    )

pub returns : goal.returns
returns g c =
    let h : Handed = handed_by g.P.Program g.Q.Problem c.args.on.now in
    let starts = g.Q.Problem.starts c.args.on.now.problem.now in
    let lawful = listing (g.P.Program.meaning c.args.on.now.program.now) (g.P.Program.lawful c.args.on.now.program.now) in
    let t = c.in_ok-table.table in
    let s = c.in_ok-table.ensures.0 in
    let short : length (report_text (state t)) ≤ c.args.most = omega (arith, c.report_len.ensures.value, c.if-most-report_len.false) in
    record {
      text = short_told h starts c.args.memory c.args.most lawful (state t) s short;
      led = led_told h starts c.args.memory c.args.most lawful (state t) s (Closed (state t)) s.led;
      back = back_told h starts c.args.memory c.args.most lawful (state t) s t.core.records c.in_ok-table.ensures.1;
    }
