-- What is told of a tabulation in portions, byte for byte.
use Rattle.std.specs.Prelude.{◌≡◌, ℕ, zero, suc, ◌+◌, ◌*◌, List, [], ◌∷◌, ◌++◌, replicate, codes, decimal}
use Rattle.flow.specs.declared.interface.Start.{Start}
use Rattle.paths.specs.Does.{Handed}
use Rattle.paths.specs.Memory.{blank}
use Rattle.paths.specs.Paths.{ReachedCell}
use Rattle.paths.specs.Rows.{Number}
use Rattle.paths.specs.Tabled.{Tabled, newly_in, work}
use Rattle.paths.specs.Theorem.{Accepted}
use Rattle.paths.specs.declared.worklist.End.{End}
use Rattle.records.specs.Texts.{tallies_text}
use Rattle.starts.specs.Sown.{given_starts, sown_all, accepted_all}
use Rattle.table.specs.Told.{tallied}

-- a portion of k cells settled
abbrev pub worked_on : Handed → ℕ → End → Tabled → Tabled
worked_on h k end t = work h.graph h.rule h.points h.facts k end t

-- the tallies in a line
abbrev pub tallies_line : Tabled → List ℕ
tallies_line t = tallies_text (tallied t) ++ (10 ∷ [])

-- `rest` where nothing waits, `more` while a cell waits
abbrev pub while_waiting : {X : Type 0} → List ℕ → X → X → X
while_waiting [] rest more = rest
while_waiting (c ∷ cs) rest more = more

-- the tallies after each of at most n portions, while a cell waits
unfoldable pub lines : ℕ → Handed → ℕ → End → Tabled → List ℕ
lines zero h k end t = []
lines (suc n) h k end t = while_waiting t.waiting [] (tallies_line (worked_on h k end t) ++ lines n h k end (worked_on h k end t))

-- the table after those portions
unfoldable pub last : ℕ → Handed → ℕ → End → Tabled → Tabled
last zero h k end t = t
last (suc n) h k end t = while_waiting t.waiting t (last n h k end (worked_on h k end t))

-- a table newly opened in as many records as it has cells
abbrev pub first_of : Handed → Tabled
first_of h = newly_in h.points h.facts (replicate (h.points * h.facts * h.facts) blank)

-- the table with the default starts sown
abbrev pub seeded : Handed → List Start → Tabled
seeded h starts = sown_all h (given_starts starts) (first_of h)

-- one portion more than there are cells is enough
abbrev pub enough : Handed → ℕ
enough h = h.points * h.facts * h.facts + 1

-- `cells C`
abbrev pub cells_line : ℕ → List ℕ
cells_line n = codes "cells " ++ (decimal n ++ (10 ∷ []))

-- the tallies after each portion, and then the number of cells
abbrev pub progress : Handed → List Start → ℕ → End → List ℕ
progress h starts k end = lines (enough h) h k end (seeded h starts) ++ cells_line (last (enough h) h k end (seeded h starts)).settled

-- those of the default starts that are accepted in a table newly opened, the latest first
abbrev pub accepted_of : Handed → List Start → List (ℕ × ℕ)
accepted_of h starts = accepted_all h (given_starts starts) (first_of h) []

-- the last line tells how many cells are reached from these starts
pub record EndsCounted (h : Handed) (starts : List (ℕ × ℕ)) (text : List ℕ) : Type 0 where
  pub before : List ℕ
  pub cells : ℕ
  pub text_is : text ≡ before ++ cells_line cells
  pub counted : Number (λ c. ReachedCell h.graph h.rule (Accepted starts) c.point c.origin c.fact) cells
