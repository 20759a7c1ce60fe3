-- What the calls of a table answer and leave, in the words in which rows of calls speak of them.
use Rattle.std.specs.Prelude.{◌≡◌, ℕ, ◌+◌, ◌*◌, ◌<◌, ◌≤◌, Bool, true, false, cond, List, [], ◌++◌, map, length, drop, replicate, Ok, Err, Some, None, vec_items, Option, Result, nat_lt}
use Rattle.std.specs.Global.{Vec}
use Rattle.paths.specs.Does.{Handed, Answer, gives, refuses, State, Open, Closed, open_answer}
use Rattle.paths.specs.Exactly.{ExactFrom}
use Rattle.paths.specs.Law.{LawFrom}
use Rattle.paths.specs.Usage.{Usage}
use Rattle.paths.specs.Machine.{both}
use Rattle.paths.specs.Tabled.{Tabled, newly_in, work, record_at, cell_at}
use Rattle.paths.specs.Words.{least_found}
use Rattle.paths.specs.declared.worklist.End.{End}
use Rattle.records.specs.Faults.{number_of}
use Rattle.records.specs.Blank.{blank}
use Rattle.table.specs.State.{rec, inner, state, OpenTable, ClosedTable}
use Rattle.records.specs.declared.fault.Fault.{Fault}
use Rattle.records.specs.declared.fault.Refusal.{Refusal}
use Rattle.records.specs.declared.record.Record.{Record}
use Rattle.table.specs.declared.state.Core.{Core}
use Rattle.table.specs.declared.arrival.Arrival.{Arrival}
use Rattle.records.specs.declared.tallies.Tallies.{Tallies}

-- the answer of a call that gives 1 for yes and 0 for no: of sow, whether the cell is new; of line, whether one was left
abbrev pub one_if_yes : Result Bool Fault → Answer
one_if_yes (Ok true) = gives 1
one_if_yes (Ok false) = gives 0
one_if_yes (Err f) = refuses (number_of f)

-- the answer of a call that gives a number: of work, how many cells it settled; of trail, how many words it wrote
abbrev pub number_given : Result ℕ Fault → Answer
number_given (Ok k) = gives k
number_given (Err f) = refuses (number_of f)

-- N and F stay the table's
pub record CountsStay (before after : Tabled) : Type 0 where
  pub points : after.points ≡ before.points
  pub facts : after.facts ≡ before.facts

-- work settles k cells, or fewer where none is left
pub record Stops (k settled : ℕ) (waiting : List ℕ) : Type 0 where
  pub most : settled ≤ k
  pub none_left : settled < k → waiting ≡ []

-- k cells are a portion: settling j cells more is settling k + j cells at once
pub record Portions (h : Handed) (k : ℕ) (end : End) (before after : Tabled) : Type 0 where
  pub more : (j : ℕ) → work h.graph h.rule h.points h.facts (k + j) end before ≡ work h.graph h.rule h.points h.facts j end after

-- a memory of records
abbrev pub Memory : Type 0
Memory = Vec Record

-- a table newly made in the memory, whose first records are cleared and whose rest stays. Every row of calls from there on, with this
-- program and this problem, keeps the law; what a caller may carry from call to call leads to it; and once the table is closed, it has
-- found exactly what is reached
pub record NewlyMade (h : Handed) (memory : Memory) (c : Core) : Type 0 where
  pub state_is : inner c ≡ newly_in h.points h.facts (map rec (vec_items memory))
  pub holds : vec_items c.records ≡ replicate (h.points * h.facts * h.facts) blank ++ drop (h.points * h.facts * h.facts) (vec_items memory)
  pub law : LawFrom h (inner c)
  pub usage : Usage h (inner c)
  pub exact : ExactFrom h (inner c)

-- open made a table in the memory
pub record Opened (h : Handed) (memory : Memory) (t : OpenTable) : Type 0 where
  pub answers : open_answer h (map rec (vec_items memory)) ≡ gives 0
  pub made : NewlyMade h memory t.core

-- open refused, and the memory comes back as it was
pub record NotOpened (h : Handed) (memory : Memory) (e : Refusal Memory) : Type 0 where
  pub answers : open_answer h (map rec (vec_items memory)) ≡ refuses (number_of e.fault)
  pub back : e.back ≡ memory

-- what open answers and leaves
abbrev pub Opens : Handed → Memory → Result OpenTable (Refusal Memory) → Type 0
Opens h memory (Ok t) = Opened h memory t
Opens h memory (Err e) = NotOpened h memory e

-- the answer of close
abbrev pub closed : Result ClosedTable (Refusal OpenTable) → Answer
closed (Ok t) = gives 0
closed (Err e) = refuses (number_of e.fault)

-- the state that close leaves
abbrev pub left_closed : Result ClosedTable (Refusal OpenTable) → State
left_closed (Ok t) = Closed (state t)
left_closed (Err e) = Open (state e.back)

-- either way the table is as it was
abbrev pub SameCore : Core → Result ClosedTable (Refusal OpenTable) → Type 0
SameCore c (Ok t) = t.core ≡ c
SameCore c (Err e) = e.back.core ≡ c

-- n < N and d < F
abbrev pub has_pair : Tabled → ℕ → ℕ → Bool
has_pair t n d = both (nat_lt n t.points) (nat_lt d t.facts)

-- the number of the found cell (n, a, d) of least a, if any
abbrev pub least : Tabled → ℕ → ℕ → Option ℕ
least t n d = cond (has_pair t n d) (least_found t.facts n d t) None

-- where the cell with the number c is, and its record
pub record Arrived (t : Tabled) (c : ℕ) (a : Arrival) : Type 0 where
  pub within : c < t.points * t.facts * t.facts
  pub point : a.point.0 ≡ (cell_at t.facts c).point
  pub fact : a.fact.0 ≡ (cell_at t.facts c).fact
  pub record_is : rec a.record ≡ record_at t c

-- the same, or none where the table has no such cell
abbrev pub Arrives : Tabled → ℕ → Option Arrival → Type 0
Arrives t c (Some a) = Arrived t c a
Arrives t c None = t.points * t.facts * t.facts ≤ c

-- the tallies of a table
abbrev pub tallied : Tabled → Tallies
tallied t = record { found = t.found; settled = t.settled; waiting = length t.waiting }
