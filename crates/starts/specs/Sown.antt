-- What sowing some starts makes of a table.
use Rattle.std.specs.Prelude.{ℕ, List, [], ◌∷◌, take, Some, None, Option}
use Rattle.flow.specs.declared.interface.Start.{Start}
use Rattle.paths.specs.Does.{Handed, Open, sow_no, left_by}
use Rattle.paths.specs.Tabled.{Tabled, sow}
use Rattle.paths.specs.Usage.{Standing}

-- the default starts that a problem can give: it counts them in a byte
unfoldable pub given_starts : List Start → List Start
given_starts starts = take 256 starts

-- the question to the sowing of a start that is answered no
abbrev pub start_no : Handed → Start → Tabled → Option ℕ
start_no h s t = sow_no h s.procedure.0 s.fact.0 t

-- one start sown
abbrev pub sown_one : Handed → Start → Tabled → Tabled
sown_one h s t = left_by (start_no h s t) t (sow h.graph h.rule h.points h.facts s.procedure.0 s.fact.0 t)

-- starts sown, one after the other
abbrev pub sown_all : Handed → List Start → Tabled → Tabled
sown_all h [] t = t
sown_all h (s ∷ ss) t = sown_all h ss (sown_one h s t)

-- the accepted starts with one more sown, unless it is refused; the latest first
abbrev pub accepted_by : Option ℕ → Start → List (ℕ × ℕ) → List (ℕ × ℕ)
accepted_by None s before = (s.procedure.0, s.fact.0) ∷ before
accepted_by (Some q) s before = before

-- the accepted starts with all of these sown
abbrev pub accepted_all : Handed → List Start → Tabled → List (ℕ × ℕ) → List (ℕ × ℕ)
accepted_all h [] t before = before
accepted_all h (s ∷ ss) t before = accepted_all h ss (sown_one h s t) (accepted_by (start_no h s t) s before)

-- starts as rows of calls tell them, the latest first
abbrev pub latest_first : List Start → List (ℕ × ℕ) → List (ℕ × ℕ)
latest_first [] before = before
latest_first (s ∷ ss) before = latest_first ss ((s.procedure.0, s.fact.0) ∷ before)

-- where a row of calls led to the table before, one leads to the table after, and has accepted these starts besides
pub record Carries (h : Handed) (ss : List Start) (before after : Tabled) : Type 0 where
  pub row : (first : Tabled) (accepted : List (ℕ × ℕ)) → Standing h first accepted (Open before) → Standing h first (accepted_all h ss before accepted) (Open after)
