-- What a closed table has found, after any row of calls.
use Rattle.std.specs.Prelude.{◌≡◌, ℕ, ◌*◌, ◌<◌, ◌≤◌, T, ◌↔◌, List}
use Rattle.paths.specs.Paths.{ReachedCell}
use Rattle.paths.specs.Table.{cell, number_of}
use Rattle.paths.specs.Theorem.{Accepted}
use Rattle.paths.specs.Rows.{Number}
use Rattle.paths.specs.Tabled.{Tabled, is_found}
use Rattle.paths.specs.Does.{Handed, Closed, Call, Newly, Row}
use Rattle.paths.specs.Law.{accepted, Sound}

-- the cell (n, a, d) is found
abbrev pub Finds : Tabled → ℕ → ℕ → ℕ → Type 0
Finds t n a d = T (is_found (number_of t.facts (cell n a d)) t)

-- the found cells are those reached from the starts; each of them is settled, and is one of N × F × F
pub record Exactly (H : Handed) (starts : List (ℕ × ℕ)) (t : Tabled) : Type 0 where
  pub cells : (n a d : ℕ) → n < H.points → a < H.facts → d < H.facts
      → Finds t n a d ↔ ReachedCell H.graph H.rule (Accepted starts) n a d
  pub within : (n a d : ℕ) → ReachedCell H.graph H.rule (Accepted starts) n a d → (n < H.points) × (a < H.facts) × (d < H.facts)
  pub number : Number (λ c. ReachedCell H.graph H.rule (Accepted starts) c.point c.origin c.fact) t.settled
  pub all_settled : t.found ≡ t.settled
  pub bound : t.settled ≤ H.points * H.facts * H.facts

-- after any row of calls from the table `first` on, with one program and one problem, a closed table has found exactly what is reached
-- from the starts accepted by then
abbrev pub ExactFrom : Handed → Tabled → Type 0
ExactFrom H first = (calls : List Call) (t : Tabled) → Row H first calls (Closed t) → Exactly H (accepted calls) t

-- this holds of every newly opened table, for every lawful program and every relation of its facts
abbrev pub ExactRows : Type 0
ExactRows = (H : Handed) → Sound H → (first : Tabled) → Newly H first → ExactFrom H first
