-- The rows of a relation as bytes: 8 for each row, the lowest first.
use Rattle.std.specs.Prelude.{ℕ, zero, suc, ◌+◌, ◌*◌, List, [], ◌∷◌, ◌++◌, length, get_or}
use Rattle.std.specs.Int.{byte_worth, sum_through, div_ceil}

-- the row of a number; bytes beyond the last are 0
abbrev pub row_at : List ℕ → ℕ → ℕ
row_at bytes row = sum_through (λ i. byte_worth i (get_or bytes (row * 8 + i) 0)) 7

-- so many rows, from the first on
abbrev pub first_rows : List ℕ → ℕ → List ℕ
first_rows bytes zero = []
first_rows bytes (suc k) = first_rows bytes k ++ (row_at bytes k ∷ [])

-- the rows that bytes give, the last of them from what bytes are left
abbrev pub rows_of : List ℕ → List ℕ
rows_of bytes = first_rows bytes (div_ceil (length bytes) 8)
