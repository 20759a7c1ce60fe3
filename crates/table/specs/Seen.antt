-- Statements that were read are the program's.
use Rattle.std.specs.Prelude.{◌≡◌, ℕ, Some}
use Rattle.std.specs.List.{slice_get}
use Rattle.listing.specs.declared.numbers.Cell.{Cell}
use Rattle.listing.specs.declared.statement.Statement.{Statement}
use Rattle.listing.specs.Meaning.{Meaning}
use Rattle.table.specs.declared.seen.Seen.{Seen}

-- each is the statement at its point
abbrev pub Recalls : Meaning → Seen → Type 0
Recalls m seen = (n : ℕ) (s : Statement Cell) → slice_get seen.statements.now n ≡ Some (Some s) → slice_get m.statements n ≡ Some s
