-- What is told of a trail, byte for byte, where `facts` tells in words what each fact stands for.
use Rattle.std.specs.Prelude.{ℕ, List, [], ◌∷◌, ◌++◌, length, take, Some, None, codes, decimal, Option}
use Rattle.moves.specs.declared.moves.Move.{Move}
use Rattle.moves.specs.Words.{decode}
pub use Rattle.move_text.specs.Lines.{kind_text, item_text, line_text, opened, move_text}

-- the verdict: a path, or the number and the place of a no
abbrev pub verdict_text : Option (ℕ × ℕ) → List ℕ
verdict_text None = codes "a call-matched path"
verdict_text (Some n) = codes "refused " ++ (decimal n.0 ++ (codes " at " ++ decimal n.1))

-- the line of a move, with LF (10)
abbrev pub move_line : (ℕ → List ℕ) → ℕ → Move → List ℕ
move_line facts k m = move_text facts k m ++ (10 ∷ [])

-- the line of a word's move, k calls being open before it, and then the rest; a word that is no move's has none, nor has what follows it
abbrev pub lines_from : Option Move → (ℕ → List ℕ) → ℕ → (ℕ → List ℕ) → List ℕ
lines_from None facts k rest = []
lines_from (Some m) facts k rest = move_line facts k m ++ rest (opened k m.kind)

-- the lines of words, k calls being open before them
abbrev pub lines_of : (ℕ → List ℕ) → ℕ → List ℕ → List ℕ
lines_of facts k [] = []
lines_of facts k (x ∷ xs) = lines_from (decode x) facts k (λ j. lines_of facts j xs)

-- how many words are lawful moves: all, or those before the place of the no
abbrev pub lawful_words : List ℕ → Option (ℕ × ℕ) → ℕ
lawful_words xs None = length xs
lawful_words xs (Some n) = n.1

-- the lines of the lawful moves, and then the verdict
abbrev pub reviewed : (ℕ → List ℕ) → List ℕ → Option (ℕ × ℕ) → List ℕ
reviewed facts xs told = lines_of facts 0 (take (lawful_words xs told) xs) ++ (verdict_text told ++ (10 ∷ []))
