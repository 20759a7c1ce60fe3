-- What holds after any list of calls.
use Rattle.paths.proofs.Runs.{kept}
use Rattle.paths.proofs.any_calls.Goals as goal

pub returns : goal.returns
returns c = kept
