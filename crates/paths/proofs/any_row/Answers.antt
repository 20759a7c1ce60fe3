-- What holds after any row of calls.
use Rattle.paths.proofs.Cover.{after}
use Rattle.paths.proofs.any_row.Goals as goal

pub returns : goal.returns
returns c = λ P Q N K F lawful bounded. after P Q N K F lawful bounded
