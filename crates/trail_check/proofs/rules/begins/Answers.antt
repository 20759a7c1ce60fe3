use Rattle.paths.proofs.Callees.{home_entry}
use Rattle.trail_check.proofs.rules.begins.Goals as goal

pub returns-in_err-entry : goal.returns-in_err-entry
returns-in_err-entry g c =
    let p = c.args.on.now.program.now in
    absurd (home_entry (g.P.Program.meaning p) (g.P.Program.lawful p) c.args.to.point _ c.in_ok-procedure.ensures c.in_err-entry.ensures)
