-- How a C program is told what comes of a call.
use Rattle.std.specs.Prelude.{◌≡◌}
use Rattle.exports.specs.declared.answer.Answer.{Answer}
use Rattle.exports.specs.declared.answer.Outcome.{Outcome}
use Rattle.exports.specs.declared.answer.Outcome.TheVariants.{Given, Refused, OutOfMemory}

-- what comes of a call, as numbers
abbrev pub answer_of : Outcome → Answer
answer_of (Given n) = record { status = 0; question = 0; place = 0; value = n }
answer_of (Refused r) = record { status = 1; question = r.number; place = r.place; value = 0 }
answer_of OutOfMemory = record { status = 2; question = 0; place = 0; value = 0 }

-- the answer tells an outcome of which this holds
pub record Answers (Comes : Outcome → Type 0) (answer : Answer) : Type 0 where
  pub outcome : Outcome
  pub told : answer ≡ answer_of outcome
  pub comes : Comes outcome
