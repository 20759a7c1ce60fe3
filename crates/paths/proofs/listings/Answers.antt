-- The graph of a lawful program is lawful.
use Rattle.paths.proofs.Listed.{listing}
use Rattle.paths.proofs.listings.Goals as goal

pub returns : goal.returns
returns c = listing
