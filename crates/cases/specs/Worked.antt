-- The worked cases: what listings mean or how they are refused, what the tabulation finds on three of them, trails, and the check of words.
use Rattle.std.specs.Prelude.{◌≡◌, ℕ, ◌*◌, ◌-◌, ◌↔◌, List, [], ◌∷◌, map, length, take, replicate, Some, None, Ok, Err, codes, Option, Result}
use Rattle.std.specs.List.{flat_map}
use mathlib.Core.List.{Memᴰ}
use Rattle.listing.specs.Meaning.{Meaning, totals, point, proc}
use Rattle.listing.specs.declared.counts.Counts.{Counts}
use Rattle.listing.specs.declared.numbers.Cell.{Cell}
use Rattle.listing.specs.declared.statement.Statement.{Statement}
use Rattle.listing.specs.declared.statement.Statement.TheVariants.{Set, Add, Read, Send, Goto, Call, Ret, Trim}
use Rattle.draft.specs.Questions.{number_of}
use Rattle.draft.specs.declared.question.Question.{Question}
use Rattle.draft.specs.declared.question.Question.TheVariants.{Size, Form, Ranges, Jumps}
use Rattle.draft.specs.declared.question.Refusal.{Refusal}
use Rattle.text.specs.Cases.{listed}
use Rattle.text.specs.Reading.{meaning_of, reading, refused, answered}
use Rattle.flow.specs.Choices.{starts_of}
use Rattle.flow.specs.declared.choice.Choice.{Choice}
use Rattle.flow.specs.declared.choice.Choice.TheVariants.{Unset, Raw}
use Rattle.flow.specs.declared.interface.Start.{Start}
use Rattle.paths.specs.Checked.{check_no}
use Rattle.paths.specs.Does.{Handed, gives, refuses, no, writes, open_answer, sow_no, close_answer, begun, line_turn, foot_turn, trail_turn}
use Rattle.paths.specs.Handing.{posed}
use Rattle.paths.specs.Law.{Reached}
use Rattle.paths.specs.Machine as machine
use Rattle.paths.specs.Machine.{State}
use Rattle.paths.specs.Memory.{blank}
use Rattle.paths.specs.Page.{pairs_of, report_text}
use Rattle.paths.specs.Rows.{pairs_below}
use Rattle.paths.specs.Table.{cell}
use Rattle.paths.specs.Tabled.{Tabled, newly_in, sow, work}
use Rattle.paths.specs.Trail.{trail}
use Rattle.paths.specs.Words.{spelt}
use Rattle.paths.specs.declared.worklist.End.{End}
use Rattle.paths.specs.declared.worklist.End.TheVariants.{Oldest, Newest}
use Rattle.starts.specs.Sown.{sown_all, latest_first}

-- LISTINGS

-- A: a call gives its result to a global
abbrev pub listing_a : List ℕ
listing_a =
    listed (codes "cells 1 2" ∷ codes "read l0" ∷ codes "call g0 1 l0" ∷ codes "send g0" ∷ codes "ret g0" ∷ codes "trim l1 l0" ∷ codes "ret l1" ∷ [])

-- B: a procedure is called from two points
abbrev pub listing_b : List ℕ
listing_b =
    listed (codes "cells 0 2" ∷ codes "read l0" ∷ codes "set l1" ∷ codes "call l0 1 l0" ∷ codes "call l1 1 l1" ∷ codes "ret l1" ∷ codes "ret l0" ∷ [])

-- C: a cell is the sum of two
abbrev pub listing_c : List ℕ
listing_c = listed (codes "cells 1 1" ∷ codes "add l0 g0 l0" ∷ codes "ret l0" ∷ [])

-- a text without its last byte
abbrev pub cut : List ℕ → List ℕ
cut t = take (length t - 1) t

-- what a reading is refused for: the number of the question, and the place
abbrev pub no_by : Result Meaning Refusal → Option (ℕ × ℕ)
no_by (Ok m) = None
no_by (Err r) = Some (number_of r.question, r.place)

-- what a text is refused for
abbrev pub text_no : List ℕ → Option (ℕ × ℕ)
text_no t = no_by (reading t)

-- what a listing of g globals, l locals and some statements reads as
abbrev pub means : ℕ → ℕ → List (Statement Cell) → Result Meaning Refusal
means g l ss = Ok (record { globals = g; locals = l; statements = ss })

-- the cell that has a number
abbrev pub numbered : ℕ → Cell
numbered k = record { 0 = k }

-- TABLES

-- the program that a text means, and a problem about its cells
abbrev pub handed_of : Choice → List ℕ → Handed
handed_of choice t = posed choice (meaning_of t).globals (meaning_of t).locals (meaning_of t)

-- the default starts
abbrev pub defaults : Choice → List ℕ → List Start
defaults choice t = starts_of choice (meaning_of t).globals (meaning_of t).locals

-- a table newly opened in a memory of just enough records
abbrev pub opened : Handed → Tabled
opened h = newly_in h.points h.facts (replicate (h.points * h.facts * h.facts) blank)

-- the table with the default starts sown
abbrev pub sown : Choice → List ℕ → Tabled
sown choice t = sown_all (handed_of choice t) (defaults choice t) (opened (handed_of choice t))

-- cells settled from an end of the row until none waits: 100 are more than any of these tables has found
abbrev pub run_out : End → Handed → Tabled → Tabled
run_out end h t = work h.graph h.rule h.points h.facts 100 end t

-- the table with the default starts sown, and settled
abbrev pub table_from : End → Choice → List ℕ → Tabled
table_from end choice t = run_out end (handed_of choice t) (sown choice t)

-- the same, the oldest first
abbrev pub table : Choice → List ℕ → Tabled
table choice t = table_from Oldest choice t

-- starts sown one after the other in the machine of which the theorems over paths speak
abbrev pub machine_sown : Handed → List Start → State → State
machine_sown h [] m = m
machine_sown h (s ∷ ss) m = machine_sown h ss (machine.sow h.graph h.rule h.points h.facts s.procedure.0 s.fact.0 m)

-- its run, with the default starts sown
abbrev pub machine_from : End → Choice → List ℕ → State
machine_from end choice t =
    let h = handed_of choice t in machine.work h.graph h.rule h.points h.facts 100 end (machine_sown h (defaults choice t) machine.opened)

-- a call-matched path from one of the default starts ends at point n with fact d
abbrev pub Reaches : Choice → List ℕ → ℕ → ℕ → Type 0
Reaches choice t n d = Reached (handed_of choice t) (latest_first (defaults choice t) []) n d

-- the pairs of the table are exactly those that such paths reach
abbrev pub ListsReached : Choice → List ℕ → Type 0
ListsReached choice t = (n d : ℕ) → Memᴰ (n, d) (pairs_of (table choice t)) ↔ Reaches choice t n d

-- the pairs of a point with some facts
abbrev pub row : ℕ × List ℕ → List (ℕ × ℕ)
row x = map (λ d. (x.0, d)) x.1

-- the pairs of several points, each with its facts
abbrev pub rows : List (ℕ × List ℕ) → List (ℕ × ℕ)
rows xs = flat_map row xs

-- the pairs of A: of each point, its facts
abbrev pub listed_a : List (ℕ × ℕ)
listed_a =
    rows ((0, 0 ∷ 1 ∷ 2 ∷ 3 ∷ []) ∷ (1, 0 ∷ 1 ∷ 3 ∷ []) ∷ (2, 0 ∷ 3 ∷ []) ∷ (3, 0 ∷ 3 ∷ []) ∷ (4, 0 ∷ 1 ∷ 3 ∷ []) ∷ (5, 0 ∷ 1 ∷ []) ∷ [])

-- TRAILS

-- the trail of (3, 1) in B under raw: a start, two steps, a call and a return
abbrev pub words_b : List ℕ
words_b = 0x20000000 ∷ 0x40082000 ∷ 0x40102000 ∷ 0x80282000 ∷ 0xA0182000 ∷ []

-- the same, but that it returns to (4, 2), behind the other call
abbrev pub stray_b : List ℕ
stray_b = 0x20000000 ∷ 0x40082000 ∷ 0x40102000 ∷ 0x80282000 ∷ 0xA0204000 ∷ []

-- THE CASES

-- what listings mean or how they are refused, what is found, reported and reached on A, B and C, and which trails are given and pass
pub record Worked : Type 0 where
  -- texts that are read, and texts that are refused
  pub one_local : reading (listed (codes "cells 0 1" ∷ codes "ret l0" ∷ [])) ≡ means 0 1 (Ret (numbered 0) ∷ [])
  pub no_local : text_no (listed (codes "cells 0 0" ∷ codes "ret l0" ∷ [])) ≡ Some (3, 1)
  pub no_byte : text_no [] ≡ Some (1, 0)
  pub no_last_lf : text_no (cut listing_c) ≡ Some (2, 3)
  pub jump_inside : reading (listed (codes "cells 0 1" ∷ codes "goto 1" ∷ codes "ret l0" ∷ codes "ret l0" ∷ []))
      ≡ means 0 1 (Goto (point 1) ∷ Ret (numbered 0) ∷ Ret (numbered 0) ∷ [])
  pub jump_outside : text_no (listed (codes "cells 0 1" ∷ codes "goto 2" ∷ codes "ret l0" ∷ codes "ret l0" ∷ [])) ≡ Some (8, 2)
  pub means_a : reading listing_a
      ≡ means 1 2 (Read (numbered 1) ∷ Call (numbered 0) (proc 1) (numbered 1) ∷ Send (numbered 0) ∷ Ret (numbered 0) ∷ Trim (numbered 2) (numbered 1) ∷ Ret (numbered 2) ∷ [])
  pub means_b : reading listing_b
      ≡ means 0 2 (Read (numbered 0) ∷ Set (numbered 1) ∷ Call (numbered 0) (proc 1) (numbered 0) ∷ Call (numbered 1) (proc 1) (numbered 1) ∷ Ret (numbered 1) ∷ Ret (numbered 0) ∷ [])
  pub means_c : reading listing_c ≡ means 1 1 (Add (numbered 1) (numbered 0) (numbered 1) ∷ Ret (numbered 1) ∷ [])
  -- A under unset: its pairs and cells, with the oldest settled first and with the newest. A global taken past a call would reach (2, 1)
  pub pairs_a : pairs_of (table Unset listing_a) ≡ listed_a
  pub cells_a : (table Unset listing_a).settled ≡ 16
  pub none_waits_a : close_answer (table Unset listing_a).waiting ≡ gives 0
  pub newest_pairs_a : pairs_of (table_from Newest Unset listing_a) ≡ listed_a
  pub newest_cells_a : (table_from Newest Unset listing_a).settled ≡ 16
  pub machine_pairs_a : pairs_below 4 6 (machine_from Newest Unset listing_a) ≡ listed_a
  pub machine_cells_a : (machine_from Newest Unset listing_a).settled ≡ 16
  pub exact_a : ListsReached Unset listing_a
  pub not_past_a : Reaches Unset listing_a 2 1 → ⊥
  -- B under raw. A return to every caller would reach (4, 2)
  pub pairs_b : length (pairs_of (table Raw listing_b)) ≡ 11
  pub cells_b : (table Raw listing_b).settled ≡ 11
  pub found_b : (table Raw listing_b).found ≡ 11
  pub machine_pairs_b : length (pairs_below 3 6 (machine_from Oldest Raw listing_b)) ≡ 11
  pub machine_cells_b : (machine_from Oldest Raw listing_b).settled ≡ 11
  pub machine_found_b : (machine_from Oldest Raw listing_b).found ≡ 11
  pub machine_trail_b : spelt (trail (handed_of Raw listing_b).graph (machine_from Oldest Raw listing_b).table (cell 3 0 1)) ≡ words_b
  pub none_waits_b : close_answer (table Raw listing_b).waiting ≡ gives 0
  pub exact_b : ListsReached Raw listing_b
  pub reaches_b : Reaches Raw listing_b 3 1
  pub not_returned_b : Reaches Raw listing_b 4 2 → ⊥
  -- its trails, in a memory of so many words and one of so many calls
  pub trail_b : trail_turn (table Raw listing_b) 3 1 (replicate 5 0) 1 ≡ writes words_b
  pub four_words_b : trail_turn (table Raw listing_b) 3 1 (replicate 4 0) 1 ≡ no 17
  pub no_calls_b : trail_turn (table Raw listing_b) 3 1 (replicate 5 0) 0 ≡ no 17
  pub unreached_b : trail_turn (table Raw listing_b) 4 2 (replicate 5 0) 1 ≡ no 15
  pub no_point_b : trail_turn (table Raw listing_b) 6 0 (replicate 5 0) 1 ≡ no 13
  pub no_fact_b : trail_turn (table Raw listing_b) 0 3 (replicate 5 0) 1 ≡ no 13
  -- the check of words, in a memory of five calls
  pub passes_b : check_no (handed_of Raw listing_b) words_b 5 ≡ None
  pub strays_b : check_no (handed_of Raw listing_b) stray_b 5 ≡ Some (18, 4)
  -- C under unset: its records, its starts, and its report with none of them sown and with all. A list by cells would have (1, 2) twice
  pub records_c : open_answer (handed_of Unset listing_c) (replicate 18 blank) ≡ gives 0
  pub few_records_c : open_answer (handed_of Unset listing_c) (replicate 17 blank) ≡ refuses 11
  pub none_sown_c : report_text (run_out Oldest (handed_of Unset listing_c) (opened (handed_of Unset listing_c))) ≡ listed (codes "pairs 0 cells 0" ∷ [])
  pub waits_c : close_answer (sown Unset listing_c).waiting ≡ refuses 14
  pub cells_c : (table Unset listing_c).settled ≡ 7
  pub none_waits_c : close_answer (table Unset listing_c).waiting ≡ gives 0
  pub report_c : report_text (table Unset listing_c)
      ≡ listed (codes "0 0" ∷ codes "0 1" ∷ codes "0 2" ∷ codes "1 0" ∷ codes "1 1" ∷ codes "1 2" ∷ codes "pairs 6 cells 7" ∷ [])
  pub line_c : line_turn (begun (table Unset listing_c)) (replicate 4 0) ≡ writes (listed (codes "0 0" ∷ []))
  pub short_page_c : line_turn (begun (table Unset listing_c)) (replicate 3 0) ≡ no 17
  pub early_foot_c : foot_turn (begun (table Unset listing_c)) (replicate 16 0) ≡ no 16
  pub exact_c : ListsReached Unset listing_c
  -- C under raw
  pub raw_c : report_text (table Raw listing_c) ≡ listed (codes "0 0" ∷ codes "1 0" ∷ codes "pairs 2 cells 2" ∷ [])
  pub exact_raw_c : ListsReached Raw listing_c
  -- starts that are sown again or refused: a procedure and a fact out of range, and a problem of other counts
  pub sown_again_c : sown_all (handed_of Unset listing_c) (defaults Unset listing_c) (sown Unset listing_c) ≡ sown Unset listing_c
  pub sown_twice_c : (let h = handed_of Unset listing_c in sow h.graph h.rule h.points h.facts 0 1 (sown Unset listing_c)) ≡ sown Unset listing_c
  pub no_procedure_c : sow_no (handed_of Unset listing_c) 1 0 (sown Unset listing_c) ≡ Some 13
  pub no_fact_c : sow_no (handed_of Unset listing_c) 0 3 (sown Unset listing_c) ≡ Some 13
  pub others_c : sow_no (handed_of Raw listing_b) 0 0 (sown Unset listing_c) ≡ Some 12

-- THE READER

-- the reader accepts, and tells how many globals, locals, statements and procedures there are
abbrev pub counts : ℕ → ℕ → ℕ → ℕ → Result Counts Refusal
counts g l n p = Ok (record { globals = g; locals = l; points = n; procedures = p })

-- the reader refuses for a question, at a place
abbrev pub refusal : Question → ℕ → Result Counts Refusal
refusal q j = Err (record { question = q; place = j })

-- the first six texts
abbrev pub first_six : List (List ℕ)
first_six =
    [] ∷ listed (codes "cells 0 1" ∷ codes "ret l0" ∷ [])
    ∷ listed (codes "cells 0 0" ∷ codes "ret l0" ∷ [])
    ∷ cut listing_c
    ∷ listed (codes "cells 0 1" ∷ codes "goto 1" ∷ codes "ret l0" ∷ codes "ret l0" ∷ [])
    ∷ listed (codes "cells 0 1" ∷ codes "goto 2" ∷ codes "ret l0" ∷ codes "ret l0" ∷ [])
    ∷ []

-- what the reader answers to a text
abbrev pub answer_to : List ℕ → Result Counts Refusal
answer_to t = answered (refused t) (totals (meaning_of t))

-- what the reader answers to the first six texts
abbrev pub told : List (Result Counts Refusal)
told = refusal Size 0 ∷ counts 0 1 1 1 ∷ refusal Ranges 1 ∷ refusal Form 3 ∷ counts 0 1 3 2 ∷ refusal Jumps 2 ∷ []
