use Rattle.std.proofs.Common.{arith, sym, ◌∙◌}
use Rattle.fact_set.proofs.Sets.{beyond, lt_no}
use Rattle.fact_set.proofs.FactSet.has.Goals as goal

pub returns-else-fact-lt64 : goal.returns-else-fact-lt64
returns-else-fact-lt64 c = lt_no c.args.fact.0 64 (omega arith) ∙ sym (beyond c.args.self.0 c.args.fact.0 (omega arith) (omega arith))
