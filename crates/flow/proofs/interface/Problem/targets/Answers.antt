use Rattle.std.proofs.Common.{◌∙◌, arith}
use Rattle.flow.proofs.Gathered.{bounded}
use Rattle.flow.proofs.interface.Problem.targets.Goals as goal

-- a fact from F on follows from none
pub returns : goal.returns
returns g c e =
    let q = c.args.self.now in
    let rule = g.Self.Problem.relation q in
    let few = c.facts.ensures in
    c.facts_where.ensures (rule c.args.edge c.args.d.0) (λ d b holds. holds.1) e
    ∙ bounded c.facts.result e (rule c.args.edge c.args.d.0 e) (λ h. let below = (g.met.Self.Problem.within q).to c.args.edge c.args.d.0 e h in omega arith)
