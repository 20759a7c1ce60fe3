-- How a refusal is told.
use Rattle.std.specs.Prelude.{ℕ, List, ◌++◌, codes, decimal}

-- `refused k at j`
abbrev pub refused_text : ℕ → ℕ → List ℕ
refused_text k j = codes "refused " ++ (decimal k ++ (codes " at " ++ decimal j))
