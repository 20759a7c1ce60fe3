-- The check passes exactly the call-matched paths.
use Rattle.paths.proofs.Passes.{checked, passed}
use Rattle.paths.proofs.checks.Goals as goal

pub returns : goal.returns
returns c = λ P Q N K F lawful bounded us o n d. (checked P Q N K F lawful us o n d, passed P Q N K F lawful us o n d)
