-- What each call answers and leaves, and any row of calls from a newly opened table on.
use Rattle.std.specs.Prelude.{◌≡◌, ℕ, suc, ◌+◌, ◌-◌, ◌*◌, ◌≤◌, Bool, cond, List, [], ◌∷◌, length, drop, Some, None, Option, ◌==◌, nat_le, nat_lt}
use Rattle.listing.specs.Meaning.{Meaning, size, procs}
use Rattle.flow.specs.Relation.{Rule}
use Rattle.paths.specs.Supergraph.{Supergraph, graph_of}
use Rattle.paths.specs.Machine.{both}
use Rattle.paths.specs.declared.worklist.End.{End}
use Rattle.paths.specs.Memory.{Rec}
use Rattle.paths.specs.Tabled.{Tabled, newly_in, is_found, start_cell, sow, work}
use Rattle.paths.specs.Words.{spelt, trail_of, deep_of, least_found}
use Rattle.paths.specs.Page.{pairs_of, line_text, foot_text, put_at}

-- what a call is handed: the graph of a program of so many points and procedures, and the rule of a problem of so many facts
pub record Handed : Type 0 where
  pub graph : Supergraph
  pub rule : Rule
  pub points : ℕ
  pub procs : ℕ
  pub facts : ℕ

-- a program and a problem of f facts
abbrev pub handed : Meaning → Rule → ℕ → Handed
handed m rule f = record { graph = graph_of m; rule = rule; points = size m; procs = procs m; facts = f }

-- a call's answer: a number, or the number of the question whose answer is no
pub data Answer : Type 0 where
  gives : ℕ → Answer
  refuses : ℕ → Answer

-- a report begun: the table, the page's next free place, and how many lines are written
pub record Report : Type 0 where
  pub table : Tabled
  pub place : ℕ
  pub lines : ℕ

-- the state that a call is put to
pub data State : Type 0 where
  Open : Tabled → State
  Closed : Tabled → State
  Begun : Report → State

-- SOW AND WORK

-- 12: are N and F the table's?
abbrev pub counts_fit : Handed → Tabled → Bool
counts_fit h t = both (h.points == t.points) (h.facts == t.facts)

-- the question to sow that is answered no; 13: p < P and d < F?
abbrev pub sow_no : Handed → ℕ → ℕ → Tabled → Option ℕ
sow_no h p d t = cond (counts_fit h t) (cond (both (nat_lt p h.procs) (nat_lt d h.facts)) None (Some 13)) (Some 12)

-- the question to work that is answered no
abbrev pub work_no : Handed → Tabled → Option ℕ
work_no h t = cond (counts_fit h t) None (Some 12)

-- the answer: the number of a no, or what is given where there is none
abbrev pub answer_by : Option ℕ → ℕ → Answer
answer_by None k = gives k
answer_by (Some q) k = refuses q

-- the table that is left: as it was where there is a no
abbrev pub left_by : Option ℕ → Tabled → Tabled → Tabled
left_by None before after = after
left_by (Some q) before after = before

-- 1 where the cell was not found before
abbrev pub one_if_new : Bool → ℕ
one_if_new found = cond found 0 1

-- what sow answers and leaves
pub record Sows (h : Handed) (p d : ℕ) (before : Tabled) (answer : Answer) (after : Tabled) : Type 0 where
  pub answers : answer ≡ answer_by (sow_no h p d before) (one_if_new (is_found (start_cell h.graph h.rule h.points h.facts p d) before))
  pub leaves : after ≡ left_by (sow_no h p d before) before (sow h.graph h.rule h.points h.facts p d before)

-- what work answers and leaves: the number of cells settled
pub record Works (h : Handed) (k : ℕ) (end : End) (before : Tabled) (answer : Answer) (after : Tabled) : Type 0 where
  pub answers : answer ≡ answer_by (work_no h before) (after.settled - before.settled)
  pub leaves : after ≡ left_by (work_no h before) before (work h.graph h.rule h.points h.facts k end before)

-- CLOSE

-- 14: does nothing wait?
abbrev pub close_answer : List ℕ → Answer
close_answer [] = gives 0
close_answer (c ∷ cs) = refuses 14

-- what close leaves
abbrev pub close_after : List ℕ → Tabled → State
close_after [] t = Closed t
close_after (c ∷ cs) t = Open t

-- what close answers and leaves
pub record Closes (before : Tabled) (answer : Answer) (after : State) : Type 0 where
  pub answers : answer ≡ close_answer before.waiting
  pub leaves : after ≡ close_after before.waiting before

-- LINE, FOOT AND TRAIL

-- what such a call comes to: a question answered no, nothing left to write, or numbers to write into the memory that it is lent
pub data Turn : Type 0 where
  no : (question : ℕ) → Turn
  nothing_left : Turn
  writes : (new : List ℕ) → Turn

-- the memory after a turn at a place
abbrev pub memory_by : Turn → ℕ → List ℕ → List ℕ
memory_by (no q) place memory = memory
memory_by nothing_left place memory = memory
memory_by (writes new) place memory = put_at place new memory

-- the turn that writes, where that fits; 17: does it fit?
abbrev pub fitting : Bool → List ℕ → Turn
fitting fits new = cond fits (writes new) (no 17)

-- a report of the table, newly begun
abbrev pub begun : Tabled → Report
begun t = record { table = t; place = 0; lines = 0 }

-- the turn that writes the line of the first of the pairs left
abbrev pub line_turn_by : List (ℕ × ℕ) → ℕ → ℕ → Turn
line_turn_by [] place size = nothing_left
line_turn_by (x ∷ _) place size = fitting (nat_le (place + length (line_text x)) size) (line_text x)

-- the next pair is the first that has no line yet
abbrev pub line_turn : Report → List ℕ → Turn
line_turn r page = line_turn_by (drop r.lines (pairs_of r.table)) r.place (length page)

-- what line answers: how many lines it wrote
abbrev pub line_answer : Turn → Answer
line_answer (no q) = refuses q
line_answer nothing_left = gives 0
line_answer (writes new) = gives 1

-- the report that line leaves
abbrev pub line_after : Turn → Report → Report
line_after (no q) r = r
line_after nothing_left r = r
line_after (writes new) r = record { table = r.table; place = r.place + length new; lines = suc r.lines }

-- what line answers, writes and leaves
pub record Lines (before : Report) (page : List ℕ) (answer : Answer) (page' : List ℕ) (after : Report) : Type 0 where
  pub answers : answer ≡ line_answer (line_turn before page)
  pub holds : page' ≡ memory_by (line_turn before page) before.place page
  pub leaves : after ≡ line_after (line_turn before page) before

-- 16: is every pair written?
abbrev pub foot_turn : Report → List ℕ → Turn
foot_turn r page =
    let text = foot_text r.lines r.table.settled in
    cond (r.lines == length (pairs_of r.table)) (fitting (nat_le (r.place + length text) (length page)) text) (no 16)

-- what foot answers: the place after it
abbrev pub foot_answer : Turn → ℕ → Answer
foot_answer (no q) place = refuses q
foot_answer nothing_left place = gives place
foot_answer (writes new) place = gives (place + length new)

-- what foot leaves
abbrev pub foot_after : Turn → Report → State
foot_after (no q) r = Begun r
foot_after nothing_left r = Begun r
foot_after (writes new) r = Closed r.table

-- what foot answers, writes and leaves
pub record Foots (before : Report) (page : List ℕ) (answer : Answer) (page' : List ℕ) (after : State) : Type 0 where
  pub answers : answer ≡ foot_answer (foot_turn before page) before.place
  pub holds : page' ≡ memory_by (foot_turn before page) before.place page
  pub leaves : after ≡ foot_after (foot_turn before page) before

-- 15: is a cell of the pair found? Of the call memory only the room counts
abbrev pub trail_turn_by : Option ℕ → Tabled → ℕ → ℕ → Turn
trail_turn_by None t size room = no 15
trail_turn_by (Some c) t size room =
    fitting (both (nat_le (length (spelt (trail_of t c))) size) (nat_le (deep_of t c) room)) (spelt (trail_of t c))

-- 13: n < N and d < F?
abbrev pub trail_turn : Tabled → ℕ → ℕ → List ℕ → ℕ → Turn
trail_turn t n d memory room =
    cond (both (nat_lt n t.points) (nat_lt d t.facts)) (trail_turn_by (least_found t.facts n d t) t (length memory) room) (no 13)

-- what trail answers: how many words it wrote
abbrev pub trail_answer : Turn → Answer
trail_answer (no q) = refuses q
trail_answer nothing_left = gives 0
trail_answer (writes new) = gives (length new)

-- what trail answers and writes
pub record Trails (t : Tabled) (n d : ℕ) (memory : List ℕ) (room : ℕ) (answer : Answer) (memory' : List ℕ) : Type 0 where
  pub answers : answer ≡ trail_answer (trail_turn t n d memory room)
  pub holds : memory' ≡ memory_by (trail_turn t n d memory room) 0 memory

-- ROWS

-- a call with its answer, and with the memory that it is lent as it was and as it is left
pub data Call : Type 0 where
  Sow : (h : Handed) (p d : ℕ) (answer : Answer) → Call
  Work : (h : Handed) (k : ℕ) (end : End) (answer : Answer) → Call
  Close : (answer : Answer) → Call
  Reopen Begin Abandon : Call
  Line Foot : (page : List ℕ) (answer : Answer) (page' : List ℕ) → Call
  Trail : (n d : ℕ) (memory : List ℕ) (room : ℕ) (answer : Answer) (memory' : List ℕ) → Call

-- of one program and one problem: what is handed in is H, unless its counts are others, which is refused
abbrev pub One : Handed → Handed → Type 0
One H h = h.points ≡ H.points → h.facts ≡ H.facts → h ≡ H

-- 11: has the memory N × F × F records?
abbrev pub room_for : Handed → List Rec → Bool
room_for h memory = nat_le (h.points * h.facts * h.facts) (length memory)

-- what open answers to a memory
abbrev pub open_answer : Handed → List Rec → Answer
open_answer h memory = cond (nat_le (h.points * h.facts * h.facts) (length memory)) (gives 0) (refuses 11)

-- a table that open has just made over H, in some memory
pub record Newly (H : Handed) (first : Tabled) : Type 0 where
  pub memory : List Rec
  pub room : H.points * H.facts * H.facts ≤ length memory
  pub cleared : first ≡ newly_in H.points H.facts memory

-- `Row H first calls s`: these calls, the latest first, were put one after the other to the open table `first`, and left s
pub data Row (H : Handed) (first : Tabled) : List Call → State → Type 0 where
  not_yet_called : Row H first [] (Open first)
  sown : {calls : List Call} {t t' : Tabled} {h : Handed} {p d : ℕ} {answer : Answer} → Row H first calls (Open t) → One H h
      → Sows h p d t answer t' → Row H first (Sow h p d answer ∷ calls) (Open t')
  worked : {calls : List Call} {t t' : Tabled} {h : Handed} {k : ℕ} {end : End} {answer : Answer} → Row H first calls (Open t) → One H h
      → Works h k end t answer t' → Row H first (Work h k end answer ∷ calls) (Open t')
  closed : {calls : List Call} {t : Tabled} {s : State} {answer : Answer} → Row H first calls (Open t)
      → Closes t answer s → Row H first (Close answer ∷ calls) s
  reopened : {calls : List Call} {t : Tabled} → Row H first calls (Closed t) → Row H first (Reopen ∷ calls) (Open t)
  begun_on : {calls : List Call} {t : Tabled} → Row H first calls (Closed t) → Row H first (Begin ∷ calls) (Begun (begun t))
  lined : {calls : List Call} {r r' : Report} {page page' : List ℕ} {answer : Answer} → Row H first calls (Begun r)
      → Lines r page answer page' r' → Row H first (Line page answer page' ∷ calls) (Begun r')
  footed : {calls : List Call} {r : Report} {s : State} {page page' : List ℕ} {answer : Answer} → Row H first calls (Begun r)
      → Foots r page answer page' s → Row H first (Foot page answer page' ∷ calls) s
  abandoned : {calls : List Call} {r : Report} → Row H first calls (Begun r) → Row H first (Abandon ∷ calls) (Closed r.table)
  trailed : {calls : List Call} {t : Tabled} {n d room : ℕ} {memory memory' : List ℕ} {answer : Answer} → Row H first calls (Closed t)
      → Trails t n d memory room answer memory' → Row H first (Trail n d memory room answer memory' ∷ calls) (Closed t)
