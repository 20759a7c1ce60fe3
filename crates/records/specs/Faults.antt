-- Number and place of a fault, and how it is told.
use Rattle.std.specs.Prelude.{ℕ, List}
use Rattle.listing.specs.Refusals.{refused_text}
use Rattle.listing.specs.declared.refused.Refused.{Refused}
use Rattle.records.specs.declared.fault.Fault.{Fault}
use Rattle.records.specs.declared.fault.Fault.TheVariants.{Memory, Counts, Range, Waiting, Unreached, Unwritten, Full}

-- the number of the question that is answered no
abbrev pub number_of : Fault → ℕ
number_of Memory = 11
number_of Counts = 12
number_of Range = 13
number_of Waiting = 14
number_of Unreached = 15
number_of Unwritten = 16
number_of Full = 17

-- the place that a refusal tells: 0 with each of these
abbrev pub place_of : Fault → ℕ
place_of f = 0

-- both, as a refusal tells them
abbrev pub refused_of : Fault → Refused
refused_of f = record { number = number_of f; place = place_of f }

-- `refused k at j`
abbrev pub fault_text : Fault → List ℕ
fault_text f = refused_text (number_of f) (place_of f)
