-- What stands beside a move is the listing's own line.
use Rattle.std.specs.Prelude.{◌≡◌, ℕ, ◌+◌, List, [], ◌∷◌, ◌++◌, Ok, Some, Err, Result}
use Rattle.std.specs.List.{slice_get}
use Rattle.listing.specs.Meaning.{Meaning}
use Rattle.listing.specs.declared.numbers.Cell.{Cell}
use Rattle.listing.specs.declared.statement.Statement.{Statement}
use Rattle.draft.specs.declared.question.Refusal.{Refusal}
use Rattle.statement_text.specs.Named.{statement_spelt}
use Rattle.text.specs.Lines.{lines}
use Rattle.text.specs.Reading.{reading}

-- each statement of a program, as it is told, with LF (10), is one of the lines: that of point n is behind n + 1 others
abbrev pub Lined : List (List ℕ) → Meaning → Type 0
Lined ls m = (n : ℕ) (s : Statement Cell) → slice_get m.statements n ≡ Some s → slice_get ls (n + 1) ≡ Some (statement_spelt m.globals s ++ (10 ∷ []))

-- where a listing is read, its statements are lines of it so; nothing of a refused one
abbrev pub LinedBy : List (List ℕ) → Result Meaning Refusal → Type 0
LinedBy ls (Ok m) = Lined ls m
LinedBy ls (Err r) = Unit {0}

-- the statements of a listing that is read are told as its own lines
abbrev pub OwnLines : List ℕ → Type 0
OwnLines t = LinedBy (lines t) (reading t)
