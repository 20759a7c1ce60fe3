-- Number and place of a fault, and how it is told.
use Rattle.std.specs.Prelude.{ℕ, List}
use Rattle.listing.specs.Refusals.{refused_text}
use Rattle.tabled_problem.specs.declared.fault.Fault.{Fault}
use Rattle.tabled_problem.specs.declared.fault.Fault.TheVariants.{Facts}

-- the number of the question that is answered no: are there 1 to 64 facts?
abbrev pub number_of : Fault → ℕ
number_of Facts = 10

-- the place that a refusal tells: 0
abbrev pub place_of : Fault → ℕ
place_of f = 0

-- `refused k at j`
abbrev pub fault_text : Fault → List ℕ
fault_text f = refused_text (number_of f) (place_of f)
