-- The lines of a text.
use Rattle.std.specs.Prelude.{ℕ, zero, suc, ◌+◌, cond, List, [], ◌∷◌, length, ◌==◌}
use Rattle.grammar.specs.Words.{longer}

-- each line with its LF: LF alone is an empty line, and only the last may lack its LF
abbrev pub lines : List ℕ → List (List ℕ)
lines [] = []
lines (b ∷ bs) = cond (b == 10) ((b ∷ []) ∷ lines bs) (longer b (lines bs))

-- where line n, counted from 0, begins: after the bytes of the lines before it
abbrev pub place : ℕ → List (List ℕ) → ℕ
place zero ls = 0
place (suc n) [] = 0
place (suc n) (l ∷ ls) = length l + place n ls
