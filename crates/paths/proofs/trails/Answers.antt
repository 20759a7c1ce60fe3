-- The trail is a path.
use Rattle.paths.specs.Theorem.{Accepted}
use Rattle.paths.proofs.Walk.{trail_path}
use Rattle.paths.proofs.trails.Goals as goal

pub returns : goal.returns
returns c = λ P Q starts N K lawful t justified. trail_path P Q (Accepted starts) N K lawful t justified
