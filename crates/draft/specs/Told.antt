-- A table of what is told at each place, if anything is.
use Rattle.std.specs.Prelude.{ℕ, List, None, Option, slice_index_or}

-- what a table tells at a place; nothing past its end
abbrev pub told : {A : Type 0} → List (Option A) → ℕ → Option A
told table k = slice_index_or table k None
