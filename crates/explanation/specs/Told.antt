-- What is told of a pair over a listing.
use Rattle.std.specs.Prelude.{ℕ, List, [], Result}
use Rattle.listing.specs.Meaning.{Meaning}
use Rattle.listing.specs.Texts.{cell_text}
use Rattle.draft.specs.declared.question.Refusal.{Refusal}
use Rattle.flow.specs.CellFacts.{spoken_in}
use Rattle.flow.specs.Choices.{starts_of}
use Rattle.flow.specs.declared.choice.Choice.{Choice}
use Rattle.move_text.specs.Lines.{facts_text}
use Rattle.paths.specs.Handing.{posed}
use Rattle.starts.specs.Sown.{latest_first}
use Rattle.text.specs.Reading.{reading}
use Rattle.telling.specs.Telling.{told_by, HoldsBy}
use Rattle.explanation.specs.Explained.{explained, Explains}

-- what is told of point n and fact d under a problem about g globals and l locals
abbrev pub told_in : Choice → ℕ → ℕ → Meaning → ℕ → ℕ → List ℕ
told_in choice g l m n d = explained (posed choice g l m) (starts_of choice g l) m (facts_text cell_text (spoken_in g l)) n d

-- the same under a problem about the program's own cells
abbrev pub chosen : Choice → Meaning → ℕ → ℕ → List ℕ
chosen choice m n d = told_in choice m.globals m.locals m n d

-- what is told is so of the call-matched paths from the default starts, all of them
abbrev pub ChosenTells : Choice → Meaning → ℕ → ℕ → List ℕ → Type 0
ChosenTells choice m n d text =
    let g = m.globals in
    let l = m.locals in
    Explains (posed choice g l m) (latest_first (starts_of choice g l) []) m (facts_text cell_text (spoken_in g l)) n d text

-- what is told where a listing is read; a refused one gives `refused k at j` alone
abbrev pub over_read : Result Meaning Refusal → Choice → ℕ → ℕ → List ℕ
over_read o choice n d = told_by (λ m. chosen choice m n d) o

-- what is told of point n and fact d of a listing, by its bytes
abbrev pub told_of : List ℕ → Choice → ℕ → ℕ → List ℕ
told_of t choice n d = over_read (reading t) choice n d

-- where a listing is read, what is told is so of the program that it means
abbrev pub OverTells : Result Meaning Refusal → Choice → ℕ → ℕ → List ℕ → Type 0
OverTells o choice n d text = HoldsBy (λ m s. ChosenTells choice m n d s) o text

-- what is told of a listing is so of the program that its bytes mean, if they are read
abbrev pub ListingTells : List ℕ → Choice → ℕ → ℕ → List ℕ → Type 0
ListingTells t choice n d text = OverTells (reading t) choice n d text
