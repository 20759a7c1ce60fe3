-- The law over rows of calls.
use Rattle.paths.proofs.Lawly.{the_law}
use Rattle.paths.proofs.the_law.Goals as goal

pub returns : goal.returns
returns c = the_law
