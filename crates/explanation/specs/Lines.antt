-- The lines of a trail, with the statements beside them, byte for byte, where `facts` tells in words what each fact
-- stands for.
use Rattle.std.specs.Prelude.{ℕ, List, [], ◌∷◌, ◌++◌, Some, None, codes, Option}
use Rattle.listing.specs.Meaning.{Meaning, statement_at}
use Rattle.listing.specs.declared.numbers.Cell.{Cell}
use Rattle.listing.specs.declared.statement.Statement.{Statement}
use Rattle.moves.specs.declared.moves.Move.{Move}
use Rattle.moves.specs.Words.{decode}
use Rattle.move_text.specs.Lines.{worded, line_text, opened}
use Rattle.statement_text.specs.Named.{statement_spelt}
use Rattle.text.specs.Reading.{collect}
use Rattle.explanation.specs.declared.line.ExplainedLine.{ExplainedLine}

-- the statement that stands beside a move, in a program with g globals
abbrev pub beside : ℕ → Option (Statement Cell) → List ℕ
beside g None = []
beside g (Some s) = codes ": " ++ statement_spelt g s

-- `step point 1 fact 1 cell 0 open 0: set l1`
abbrev pub explained_text : {I : Type 0} → (I → List ℕ) → ExplainedLine I → List ℕ
explained_text text l = line_text text l.line ++ beside l.globals l.statement

module _ (m : Meaning) (facts : ℕ → List ℕ) where
  -- a move after which k calls are open, and beside it the statement at the point where it arrives
  abbrev pub line_at : Move → ℕ → List ℕ
  line_at w k = worded w (facts w.fact.0) k ++ beside m.globals (statement_at m w.point)

  -- its line, with LF (10), k calls being open before it
  abbrev pub move_line : ℕ → Move → List ℕ
  move_line k w = line_at w (opened k w.kind) ++ (10 ∷ [])

  -- the lines of moves, the first of them first, k calls being open before them
  abbrev pub lines_from : ℕ → List Move → List ℕ
  lines_from k [] = []
  lines_from k (w ∷ ws) = move_line k w ++ lines_from (opened k w.kind) ws

  -- the lines of a path
  abbrev pub path_text : List Move → List ℕ
  path_text ws = lines_from 0 ws

-- the moves that words tell
abbrev pub moves_of : List ℕ → List Move
moves_of = collect decode
