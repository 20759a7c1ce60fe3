use Rattle.trail_check.proofs.Calls.{callee_entry}
use Rattle.trail_check.proofs.rules.enters.Goals as goal

pub returns-in_err-entry : goal.returns-in_err-entry
returns-in_err-entry g c =
    let p = c.args.on.now.program.now in
    absurd (callee_entry (g.P.Program.meaning p) (g.P.Program.lawful p) c.args.from.point _ _ c.in_ok-statement.ensures c.in_err-entry.ensures)
