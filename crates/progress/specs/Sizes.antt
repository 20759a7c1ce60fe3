-- A portion has at least one cell.
use Rattle.std.specs.Prelude.{◌≡◌, ℕ, Some, None, Option}
use Rattle.progress.specs.declared.portion.Portion.{Portion}

-- a portion of k cells; none where k is 0
abbrev pub Sized : ℕ → Option Portion → Type 0
Sized k None = k ≡ 0
Sized k (Some p) = p.size ≡ k
