-- The pairs of a table by their numbers: pair (n, d) has the number n × F + d.
use Rattle.std.specs.Prelude.{ℕ, zero, suc, ◌/◌, ◌%◌, cond, List, [], ◌∷◌, ◌++◌}
use Rattle.paths.specs.Page.{any_found}
use Rattle.paths.specs.Tabled.{Tabled}

-- the pair with the number k
abbrev pub pair : Tabled → ℕ → ℕ × ℕ
pair t k = (k / t.facts, k % t.facts)

-- the pair with the number k, if it has a found cell
abbrev pub pair_if_found : ℕ → Tabled → List (ℕ × ℕ)
pair_if_found k t = cond (any_found t.facts (k / t.facts) (k % t.facts) t) (pair t k ∷ []) []

-- the pairs that have a found cell, of those with a number below k
abbrev pub pairs_before : ℕ → Tabled → List (ℕ × ℕ)
pairs_before zero t = []
pairs_before (suc k) t = pairs_before k t ++ pair_if_found k t
