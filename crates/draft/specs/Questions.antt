-- The numbers of the questions, and how a refusal is told.
use Rattle.std.specs.Prelude.{ℕ, List}
use Rattle.listing.specs.Refusals.{refused_text}
use Rattle.listing.specs.declared.refused.Refused.{Refused}
use Rattle.draft.specs.declared.question.Question.{Question}
use Rattle.draft.specs.declared.question.Refusal.{Refusal}
use Rattle.draft.specs.declared.question.Question.TheVariants.{Size, Form, Ranges, Length, End, Procedures, Cells, Jumps, Callees}

-- the number of a question, which a refusal tells
abbrev pub number_of : Question → ℕ
number_of Size = 1
number_of Form = 2
number_of Ranges = 3
number_of Length = 4
number_of End = 5
number_of Procedures = 6
number_of Cells = 7
number_of Jumps = 8
number_of Callees = 9

-- number and place, as a refusal tells them
abbrev pub refused_of : Refusal → Refused
refused_of r = record { number = number_of r.question; place = r.place }

-- `refused k at j`
abbrev pub refusal_text : Refusal → List ℕ
refusal_text r = refused_text (number_of r.question) r.place
