-- What is told of a listing that is tabulated in portions.
use Rattle.std.specs.Prelude.{ℕ, List, [], Result}
use Rattle.listing.specs.Meaning.{Meaning}
use Rattle.draft.specs.declared.question.Refusal.{Refusal}
use Rattle.flow.specs.Choices.{starts_of}
use Rattle.flow.specs.declared.choice.Choice.{Choice}
pub use Rattle.paths.specs.Handing.{posed}
use Rattle.paths.specs.declared.worklist.End.{End}
use Rattle.text.specs.Reading.{reading}
use Rattle.telling.specs.Telling.{told_by, HoldsBy}
use Rattle.starts.specs.Sown.{latest_first}
use Rattle.progress.specs.Progress.{progress, EndsCounted}

-- what is told of a tabulation under a problem about g globals and l locals
abbrev pub told_in : Choice → ℕ → ℕ → Meaning → ℕ → End → List ℕ
told_in choice g l m k from = progress (posed choice g l m) (starts_of choice g l) k from

-- the same under a problem about the program's own cells
abbrev pub chosen : Choice → Meaning → ℕ → End → List ℕ
chosen choice m k from = told_in choice m.globals m.locals m k from

-- the last line tells how many cells are reached from the default starts, all of them
abbrev pub ChosenCounted : Choice → Meaning → List ℕ → Type 0
ChosenCounted choice m text = EndsCounted (posed choice m.globals m.locals m) (latest_first (starts_of choice m.globals m.locals) []) text

-- what is told where a listing is read; a refused one gives `refused k at j` alone
abbrev pub over_read : Result Meaning Refusal → Choice → ℕ → End → List ℕ
over_read o choice k from = told_by (λ m. chosen choice m k from) o

-- what is told of the tabulation of a listing, by its bytes
abbrev pub told_of : List ℕ → Choice → ℕ → End → List ℕ
told_of t choice k from = over_read (reading t) choice k from

-- where a listing is read, the last line tells how many cells are reached from the default starts in the program that it means
abbrev pub OverCounted : Result Meaning Refusal → Choice → List ℕ → Type 0
OverCounted o choice text = HoldsBy (λ m s. ChosenCounted choice m s) o text

-- the same of a listing, by its bytes
abbrev pub ListingCounted : List ℕ → Choice → List ℕ → Type 0
ListingCounted t choice text = OverCounted (reading t) choice text
