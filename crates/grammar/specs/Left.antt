-- What a cursor over the words of a line has left.
use Rattle.std.specs.Prelude.{ℕ, List, [], Some, None, Option}
use Rattle.std.specs.Borrow.{Bor}
use Rattle.grammar.specs.declared.cursor.Words.{Words}
use Rattle.grammar.specs.Words.{words}

-- the words of what is left of a line; none where the line is at its end
abbrev pub left_in : Option (Bor (List ℕ)) → List (List ℕ)
left_in None = []
left_in (Some line) = words line.now

-- the words that a cursor has not read yet
abbrev pub left : Words → List (List ℕ)
left w = left_in w.rest
