use Rattle.std.proofs.Common.{◌∙◌, arith}
use Rattle.flow.proofs.Gathered.{bounded}
use Rattle.flow.proofs.interface.Problem.sources.Goals as goal

-- nothing follows from a fact from F on
pub returns : goal.returns
returns g c d =
    let q = c.args.self.now in
    let rule = g.Self.Problem.relation q in
    let few = c.facts.ensures in
    c.facts_where.ensures (λ d. rule c.args.edge d c.args.e.0) (λ d b holds. holds.1) d
    ∙ bounded c.facts.result d (rule c.args.edge d c.args.e.0) (λ h. let below = (g.met.Self.Problem.within q).from c.args.edge d c.args.e.0 h in omega arith)
