-- What a call is handed by an analysis.
use Rattle.std.specs.Prelude.{ℕ}
use Rattle.listing.specs.Meaning.{Meaning}
use Rattle.flow.specs.CellFacts.{facts_in}
use Rattle.flow.specs.Choices.{rule_of}
use Rattle.flow.specs.declared.choice.Choice.{Choice}
use Rattle.listing.specs.declared.program.Program.{Ghosts as ProgramGhosts}
use Rattle.flow.specs.declared.interface.Problem.{Ghosts as ProblemGhosts}
use Rattle.paths.specs.declared.analysis.Analysis.{Analysis}
use Rattle.paths.specs.Does.{Handed, handed}

-- the graph of its program, and the rule of its problem
abbrev pub handed_by : {P Q I : Type 0} → ProgramGhosts P → ProblemGhosts Q I → Analysis P Q → Handed
handed_by p q on = handed (p.meaning on.program.now) (q.relation on.problem.now) (q.count on.problem.now)

-- a program and a problem about g globals and l locals
abbrev pub posed : Choice → ℕ → ℕ → Meaning → Handed
posed choice g l m = handed m (rule_of choice g l) (facts_in g l)
