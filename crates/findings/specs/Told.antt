-- What is told of a problem.
use Rattle.std.specs.Prelude.{◌≡◌, ℕ, List, [], ◌∷◌, ◌++◌, length, replicate, Ok, Err, Result, vec_items}
use Rattle.flow.specs.declared.interface.Start.{Start}
use Rattle.page.specs.Writes.{heading}
use Rattle.paths.specs.Does.{Handed, Closed}
use Rattle.paths.specs.Law.{Reported}
use Rattle.paths.specs.Memory.{blank}
use Rattle.paths.specs.Page.{report_text}
use Rattle.records.specs.Faults.{fault_text}
use Rattle.records.specs.declared.fault.Fault.{Fault}
use Rattle.records.specs.declared.fault.Refusal.{Refusal}
use Rattle.table.specs.State.{state, ClosedTable}
use Rattle.table.specs.Told.{Memory}
use Rattle.findings.specs.Outcome.{outcome, accepted}
use Rattle.findings.specs.Report.{Led}
use Rattle.findings.specs.Written.{taken, Returned}
use Rattle.findings.specs.declared.room.Room.{Room}

-- what comes of the report of a problem's default starts
abbrev pub reported : Handed → List Start → Room → Result (List ℕ) Fault
reported h starts room = outcome h starts (replicate room.records blank) room.page

-- the report; or why there is none, in a line
abbrev pub body : Result (List ℕ) Fault → List ℕ
body (Ok text) = text
body (Err f) = fault_text f ++ (10 ∷ [])

-- the problem's number, and then that
abbrev pub problem_text : ℕ → Handed → List Start → Room → List ℕ
problem_text k h starts room = heading k ++ body (reported h starts room)

-- a report, where there is one, tells what call-matched paths reach from the default starts that are accepted, and no more
pub record Tells (h : Handed) (starts : List Start) (room : Room) : Type 0 where
  pub exact : (report : List ℕ) → reported h starts room ≡ Ok report → Reported h (accepted h starts (replicate room.records blank)) report

-- the records of a memory, and so many bytes
abbrev pub room_in : Memory → ℕ → Room
room_in memory most = record { records = length (vec_items memory); page = most }

-- a table in the memory whose report is that of the default starts
pub record Reportable (h : Handed) (starts : List Start) (most : ℕ) (memory : Memory) (t : ClosedTable) : Type 0 where
  pub text : reported h starts (room_in memory most) ≡ Ok (report_text (state t))
  pub led : Led h (accepted h starts (replicate (length (vec_items memory)) blank)) (Closed (state t))
  pub back : Returned (taken h (length (vec_items memory))) memory t.core.records

-- the same, or why there is no report, and the memory comes back
abbrev pub Reports : Handed → List Start → ℕ → Memory → Result ClosedTable (Refusal Memory) → Type 0
Reports h starts most memory (Ok t) = Reportable h starts most memory t
Reports h starts most memory (Err e) = (reported h starts (room_in memory most) ≡ Err e.fault) × Returned (taken h (length (vec_items memory))) memory e.back
