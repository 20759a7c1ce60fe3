-- What is told of a trail over a listing, byte for byte.
use Rattle.std.specs.Prelude.{ℕ, List, length, Result}
use Rattle.listing.specs.Meaning.{Meaning}
use Rattle.listing.specs.Texts.{cell_text}
use Rattle.draft.specs.declared.question.Refusal.{Refusal}
use Rattle.flow.specs.CellFacts.{facts_in, spoken_in}
pub use Rattle.flow.specs.Choices.{rule_of}
use Rattle.flow.specs.declared.choice.Choice.{Choice}
use Rattle.paths.specs.Does.{handed}
use Rattle.paths.specs.Checked.{check_no}
use Rattle.text.specs.Reading.{reading}
use Rattle.telling.specs.Telling.{told_by}
use Rattle.move_text.specs.Lines.{facts_text}
use Rattle.review.specs.Reviewed.{reviewed}

-- what is told of a trail under a problem about g globals and l locals
abbrev pub told_in : Choice → ℕ → ℕ → Meaning → List ℕ → List ℕ
told_in choice g l m xs = reviewed (facts_text cell_text (spoken_in g l)) xs (check_no (handed m (rule_of choice g l) (facts_in g l)) xs (length xs))

-- the same under a problem about the program's own cells
abbrev pub chosen : Choice → Meaning → List ℕ → List ℕ
chosen choice m xs = told_in choice m.globals m.locals m xs

-- what is told where a listing is read; a refused one gives `refused k at j` alone
abbrev pub over_read : Result Meaning Refusal → Choice → List ℕ → List ℕ
over_read o choice xs = told_by (λ m. chosen choice m xs) o

-- what is told of a trail over a listing, by its bytes
abbrev pub told_of : List ℕ → Choice → List ℕ → List ℕ
told_of t choice xs = over_read (reading t) choice xs
