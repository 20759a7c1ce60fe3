-- Number and place of a fault, and how it is told.
use Rattle.std.specs.Prelude.{ℕ, List}
use Rattle.listing.specs.Refusals.{refused_text}
use Rattle.listing.specs.declared.cells.Fault.{Fault}
use Rattle.listing.specs.declared.cells.Fault.TheVariants.{Range}

-- the number of the question that is answered no: are G and L in range?
abbrev pub number_of : Fault → ℕ
number_of Range = 10

-- the place that a refusal tells: 0
abbrev pub place_of : Fault → ℕ
place_of f = 0

-- `refused k at j`
abbrev pub fault_text : Fault → List ℕ
fault_text f = refused_text (number_of f) (place_of f)
