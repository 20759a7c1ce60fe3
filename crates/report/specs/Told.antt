-- What the calls of a report answer and leave, in the words in which rows of calls speak of them.
use Rattle.std.specs.Prelude.{◌≡◌, ℕ, ◌+◌, ◌*◌, ◌<◌, ◌≤◌, List, [], ◌∷◌, suc, length, take, drop, Ok, Err, Some, None, Option, Result, nat_le}
use Rattle.paths.specs.Does.{Answer, gives, refuses, State, Closed, Begun, Turn, no, writes, fitting, foot_turn, Handed, Newly}
use Rattle.paths.specs.Does as does
use Rattle.paths.specs.Law.{Reported, Sound}
use Rattle.paths.specs.Page.{pairs_of, put_at, foot_text}
use Rattle.paths.specs.Usage.{OnPage, Standing}
use Rattle.paths.specs.Tabled.{Tabled}
use Rattle.records.specs.Faults.{number_of}
use Rattle.records.specs.declared.fault.Fault.{Fault}
use Rattle.table.specs.State.{state}
use Rattle.table.specs.declared.state.Stage.{Ghosts as Stage}
use Rattle.report.specs.Pairs.{pairs_before}
use Rattle.report.specs.declared.pair.Pair.{Pair}
use Rattle.report.specs.declared.state.Report.{Report}
use Rattle.report.specs.declared.state.Footed.{Footed}
use Rattle.records.specs.declared.fault.Refusal.{Refusal}

-- a report, as rows of calls speak of it
abbrev pub reported : {S : Type 0} {stage : Stage S} → Report S stage → does.Report
reported r = record { table = state r.table; place = r.place; lines = r.lines }

-- point and fact of a pair
abbrev pub told : Pair → ℕ × ℕ
told p = (p.point.0, p.fact.0)

-- the first of the pairs that have no line yet
pub record First (r : does.Report) (p : Pair) : Type 0 where
  pub within : p.number < r.table.points * r.table.facts
  pub few : p.number < 64000
  pub fewer : r.lines ≤ p.number
  pub lines : suc r.lines ≡ length (pairs_before (p.number + 1) r.table)
  pub others : List (ℕ × ℕ)
  pub left : drop r.lines (pairs_of r.table) ≡ told p ∷ others

-- the same, or none where each has its line
abbrev pub Next : does.Report → Option Pair → Type 0
Next r (Some p) = First r p
Next r None = (r.lines ≡ length (pairs_of r.table)) × (drop r.lines (pairs_of r.table) ≡ [])

-- the turn that writes a text at a place of a page, where that fits
abbrev pub put_turn : List ℕ → ℕ → List ℕ → Turn
put_turn text place page = fitting (nat_le (place + length text) (length page)) text

-- a turn that writes a text at a place, and how many bytes that took; or that is refused, and the page is as it was
abbrev pub Writing : Turn → List ℕ → ℕ → List ℕ → Result ℕ Fault → List ℕ → Type 0
Writing turn text place page (Ok count) page' =
    (turn ≡ writes text) × (count ≡ length text) × (place + count ≤ length page) × (page' ≡ put_at place text page)
Writing turn text place page (Err f) page' = (turn ≡ no (number_of f)) × (page' ≡ page)

-- writing a text at a place of a page
abbrev pub Puts : List ℕ → ℕ → List ℕ → Result ℕ Fault → List ℕ → Type 0
Puts text place page o page' = Writing (put_turn text place page) text place page o page'

-- writing the foot
abbrev pub Feet : does.Report → List ℕ → Result ℕ Fault → List ℕ → Type 0
Feet r page o page' = Writing (foot_turn r page) (foot_text r.lines r.table.settled) r.place page o page'

module _ {S : Type 0} {stage : Stage S} where
  -- the answer of foot
  abbrev pub footed : Result (Footed S stage) (Refusal (Report S stage)) → Answer
  footed (Ok f) = gives f.end
  footed (Err e) = refuses (number_of e.fault)

  -- the state that foot leaves
  abbrev pub left_footed : Result (Footed S stage) (Refusal (Report S stage)) → State
  left_footed (Ok f) = Closed (state f.table)
  left_footed (Err e) = Begun (reported e.back)

  -- the table, or the report, is as it was
  abbrev pub GivesBack : Report S stage → Result (Footed S stage) (Refusal (Report S stage)) → Type 0
  GivesBack r (Ok f) = f.table ≡ r.table
  GivesBack r (Err e) = e.back ≡ r

-- what a foot promises whoever comes to it by a row of calls, from a newly opened table on, with one program and one problem, on one page
-- that nothing else wrote since the report began: up to the foot's end the page tells the pairs that call-matched paths reach from the
-- accepted starts, and no others, then their number and that of the reached cells; and the row goes on from there
pub record KeepsLaw (r : does.Report) (page : List ℕ) (answer : Answer) (page' : List ℕ) (after : State) : Type 0 where
  pub law : (end : ℕ) → answer ≡ gives end → (H : Handed) → Sound H → (first : Tabled) → Newly H first → (starts : List (ℕ × ℕ))
      → OnPage H first starts r page → Reported H starts (take end page') × Standing H first starts after
