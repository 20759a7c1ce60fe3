-- What a record keeps of a move to a cell.
use Rattle.std.specs.Prelude.{ℕ}
use Rattle.moves.specs.declared.moves.Kind.{Kind}
use Rattle.moves.specs.declared.moves.Kind.TheVariants as kind
use Rattle.table.specs.declared.sites.Lead.{Lead}
use Rattle.table.specs.declared.sites.Lead.TheVariants.{Start, Step, Past, Call, Return}

-- the kind of a move
abbrev pub kind_of : Lead → Kind
kind_of Start = kind.Start
kind_of (Step u) = kind.Step
kind_of (Past u) = kind.Past
kind_of (Call u) = kind.Call
kind_of (Return u v) = kind.Return

-- the number of the cell from which it comes, 0 for a start
abbrev pub first_of : Lead → ℕ
first_of Start = 0
first_of (Step u) = u
first_of (Past u) = u
first_of (Call u) = u
first_of (Return u v) = u

-- the number of the callee's exit cell from which a return comes, else 0
abbrev pub second_of : Lead → ℕ
second_of Start = 0
second_of (Step u) = 0
second_of (Past u) = 0
second_of (Call u) = 0
second_of (Return u v) = v
