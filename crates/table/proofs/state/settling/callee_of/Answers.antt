use Rattle.table.proofs.Settles.{some_exit, ret_exit}
use Rattle.table.proofs.state.settling.callee_of.Goals as goal

pub returns-in_err-from : goal.returns-in_err-from
returns-in_err-from g c =
    absurd (some_exit (g.P.Program.meaning c.args.program.now) c.args.p c.in_ok-exit.exit c.in_ok-exit.ensures c.in_err-from.ensures.value)

pub returns-in_default : goal.returns-in_default
returns-in_default g c =
    absurd (ret_exit (g.P.Program.meaning c.args.program.now) c.args.p c.in_ok-exit.exit c.in_ok-exit.ensures
    c.in_ok-from.field-0 c.in_ok-from.ensures.value c.in_default.not-Ret)
