use Rattle.paths.proofs.Lawly.{exact_rows}
use Rattle.paths.proofs.exact_rows.Goals as goal

pub returns : goal.returns
returns c = exact_rows
