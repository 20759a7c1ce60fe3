-- The names of the kinds of move.
use Rattle.std.specs.Prelude.{ℕ, List, codes}
use Rattle.moves.specs.declared.moves.Kind.{Kind}
use Rattle.moves.specs.declared.moves.Kind.TheVariants.{Start, Step, Past, Call, Return}

-- the name of a kind of move
abbrev pub kind_text : Kind → List ℕ
kind_text Start = codes "start"
kind_text Step = codes "step"
kind_text Past = codes "past"
kind_text Call = codes "call"
kind_text Return = codes "return"
