-- A report's pairs, and the text of its lines and its foot.
use Rattle.std.specs.Prelude.{ℕ, zero, suc, ◌+◌, Bool, true, false, cond, List, [], ◌∷◌, ◌++◌, length, take, drop, codes, decimal}
use Rattle.std.specs.List.{flat_map}
use Rattle.paths.specs.Table.{cell, number_of}
use Rattle.paths.specs.Tabled.{Tabled, is_found}

-- whether one of the cells (n, a, d) with a < k is found
abbrev pub any_found : ℕ → ℕ → ℕ → Tabled → Bool
any_found zero n d t = false
any_found (suc k) n d t = cond (is_found (number_of t.facts (cell n k d)) t) true (any_found k n d t)

-- the pairs of point n that have a found cell and a fact below k, by fact
abbrev pub pairs_at : ℕ → ℕ → Tabled → List (ℕ × ℕ)
pairs_at zero n t = []
pairs_at (suc k) n t = pairs_at k n t ++ cond (any_found t.facts n k t) ((n, k) ∷ []) []

-- the pairs of the points below k that have a found cell, by point and then fact
abbrev pub pairs_below : ℕ → Tabled → List (ℕ × ℕ)
pairs_below zero t = []
pairs_below (suc k) t = pairs_below k t ++ pairs_at t.facts k t

-- all pairs that have a found cell
abbrev pub pairs_of : Tabled → List (ℕ × ℕ)
pairs_of t = pairs_below t.points t

-- point, space, fact, LF
abbrev pub line_text : ℕ × ℕ → List ℕ
line_text x = decimal x.0 ++ (32 ∷ (decimal x.1 ++ (10 ∷ [])))

-- `pairs R cells C`, LF
abbrev pub foot_text : ℕ → ℕ → List ℕ
foot_text R C = codes "pairs " ++ (decimal R ++ (codes " cells " ++ (decimal C ++ (10 ∷ []))))

-- the lines of some pairs, one after the other
abbrev pub lines_text : List (ℕ × ℕ) → List ℕ
lines_text pairs = flat_map line_text pairs

-- the text of a table's report: a line for each pair, then the foot
abbrev pub report_text : Tabled → List ℕ
report_text t = lines_text (pairs_of t) ++ foot_text (length (pairs_of t)) t.settled

-- a memory with some numbers written from a place on; those before and after stay
abbrev pub put_at : ℕ → List ℕ → List ℕ → List ℕ
put_at place new memory = take place memory ++ (new ++ drop (place + length new) memory)
