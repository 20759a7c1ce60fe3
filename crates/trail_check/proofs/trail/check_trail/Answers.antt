use Rattle.std.proofs.Common.{length}
use Rattle.paths.proofs.Callees.{sound}
use Rattle.paths.specs.Handing.{handed_by}
use Rattle.trail_check.proofs.Settled.{settled}
use Rattle.trail_check.proofs.trail.check_trail.Goals as goal

pub returns-clause-law : goal.returns-clause-law
returns-clause-law g c =
    let p = c.args.on.now.program.now in
    let q = c.args.on.now.problem.now in
    let fine = sound (g.P.Program.meaning p) (g.P.Program.lawful p) (g.Q.Problem.relation q) (g.Q.Problem.count q) (g.met.Q.Problem.within q) (g.met.Q.Problem.few q) in
    settled (handed_by g.P.Program g.Q.Problem c.args.on.now) fine c.args.words.now (length c.args.calls.now) _ c.first_stray.ensures
