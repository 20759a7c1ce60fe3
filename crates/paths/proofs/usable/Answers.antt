-- A caller comes to the law.
use Rattle.paths.proofs.Using.{usage}
use Rattle.paths.proofs.usable.Goals as goal

pub returns : goal.returns
returns c = usage
