-- Number and place of a fault, and how it is told.
use Rattle.std.specs.Prelude.{ℕ, List}
use Rattle.listing.specs.Refusals.{refused_text}
use Rattle.trail_check.specs.declared.fault.Fault.{Fault}
use Rattle.trail_check.specs.declared.fault.Fault.TheVariants.{Room, Stray}

-- the number of the question that is answered no
abbrev pub number_of : Fault → ℕ
number_of Room = 17
number_of (Stray j) = 18

-- the place that a refusal tells: of a stray word its place, else 0
abbrev pub place_of : Fault → ℕ
place_of Room = 0
place_of (Stray j) = j

-- `refused k at j`
abbrev pub fault_text : Fault → List ℕ
fault_text f = refused_text (number_of f) (place_of f)
