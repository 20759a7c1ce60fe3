use Rattle.trail_check.proofs.Calls.{callee_exit}
use Rattle.trail_check.proofs.rules.returns.Goals as goal

pub returns-in_err-exit : goal.returns-in_err-exit
returns-in_err-exit g c =
    let p = c.args.on.now.program.now in
    absurd (callee_exit (g.P.Program.meaning p) (g.P.Program.lawful p) c.args.call _ _ c.in_ok-statement.ensures c.in_err-exit.ensures)
