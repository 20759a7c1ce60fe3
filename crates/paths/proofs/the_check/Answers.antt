-- The trail check is exact.
use Rattle.paths.proofs.Stuck.{check_law}
use Rattle.paths.proofs.the_check.Goals as goal

pub returns : goal.returns
returns c = check_law
