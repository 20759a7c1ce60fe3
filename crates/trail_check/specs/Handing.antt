-- Where a path stands, and what the check answers.
use Rattle.std.specs.Prelude.{◌≡◌, ℕ, List, map, Some, None, Ok, Err, Option, Result}
use Rattle.listing.specs.declared.numbers.Point.{Point}
use Rattle.paths.specs.Check.{Spot, nowhere, at_spot}
pub use Rattle.paths.specs.Does.{handed}
pub use Rattle.paths.specs.Handing.{handed_by}
use Rattle.stack.specs.Stack.{held}
use Rattle.trail_check.specs.declared.fault.Fault.{Fault}
use Rattle.trail_check.specs.declared.rules.Place.{Place}
use Rattle.trail_check.specs.declared.trail.Walk.{Walk}
use Rattle.trail_check.specs.Faults.{number_of, place_of}

-- the number and the place of a no, if there is one
abbrev pub told : Result (Unit {0}) Fault → Option (ℕ × ℕ)
told (Ok _) = None
told (Err f) = Some (number_of f, place_of f)

-- the calls that stand open in the slots
abbrev pub open_in : List Point → ℕ → List ℕ
open_in slots count = map (λ p. p.0) (held slots count)

-- where a path stands: at a place with these open calls, or nowhere yet
abbrev pub spot_at : Option Place → List ℕ → Spot
spot_at None calls = nowhere
spot_at (Some p) calls = at_spot calls p.point.0 p.fact.0

-- where a walk stands
abbrev pub stands : Walk → Spot
stands w = spot_at w.at (open_in w.calls.now w.height)

-- a move led nowhere; or it led to where the walk now stands
abbrev pub Moved : Option Spot → Option Walk → Type 0
Moved next None = next ≡ None
Moved next (Some w) = next ≡ Some (stands w)
