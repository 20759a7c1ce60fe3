-- Listings by their lines.
use Rattle.std.specs.Prelude.{ℕ, List, [], ◌∷◌, ◌++◌}

-- lines, each with its LF (10)
abbrev pub listed : List (List ℕ) → List ℕ
listed [] = []
listed (l ∷ ls) = l ++ (10 ∷ listed ls)
