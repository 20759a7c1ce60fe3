-- What comes of a report of the default starts, in a memory of records and on a page.
use Rattle.std.specs.Prelude.{◌≡◌, ℕ, ◌+◌, ◌*◌, true, false, cond, List, [], map, length, take, Ok, Err, Result, nat_le, vec_items}
use Rattle.flow.specs.declared.interface.Start.{Start}
use Rattle.paths.specs.Does.{Handed, Closed, room_for}
use Rattle.paths.specs.Memory.{Rec}
use Rattle.paths.specs.Page.{report_text}
use Rattle.paths.specs.Tabled.{Tabled, newly_in, work}
use Rattle.paths.specs.declared.worklist.End.TheVariants.{Oldest}
use Rattle.records.specs.declared.fault.Fault.{Fault}
use Rattle.records.specs.declared.fault.Fault.TheVariants.{Full, Memory}
use Rattle.records.specs.declared.fault.Refusal.{Refusal}
use Rattle.starts.specs.Sown.{given_starts, sown_all, accepted_all}
use Rattle.table.specs.State.{rec, state, ClosedTable}
use Rattle.table.specs.Told as told
use Rattle.findings.specs.Report.{Led}
use Rattle.findings.specs.Written.{Returned}

-- a table newly opened in a memory
abbrev pub opened : Handed → List Rec → Tabled
opened h memory = newly_in h.points h.facts memory

-- every cell settled, the oldest first: a call of `work` for more cells than the table has
abbrev pub run_out : Handed → Tabled → Tabled
run_out h t = work h.graph h.rule h.points h.facts (h.points * h.facts * h.facts + 1) Oldest t

-- the table with the default starts sown and every cell settled
abbrev pub settled : Handed → List Start → List Rec → Tabled
settled h starts memory = run_out h (sown_all h (given_starts starts) (opened h memory))

-- the default starts that are accepted, the latest first
abbrev pub accepted : Handed → List Start → List Rec → List (ℕ × ℕ)
accepted h starts memory = accepted_all h (given_starts starts) (opened h memory) []

-- a table's report, where it fits a page of so many bytes
abbrev pub on_page : Tabled → ℕ → Result (List ℕ) Fault
on_page t size = cond (nat_le (length (report_text t)) size) (Ok (report_text t)) (Err Full)

-- the report of the default starts, or why there is none: too few records, or too small a page
abbrev pub outcome : Handed → List Start → List Rec → ℕ → Result (List ℕ) Fault
outcome h starts memory size = cond (room_for h memory) (on_page (settled h starts memory) size) (Err Memory)

-- such a table, which a row of calls led to
pub record Settled (h : Handed) (starts : List Start) (memory : List Rec) (t : Tabled) : Type 0 where
  pub room : room_for h memory ≡ true
  pub state_is : t ≡ settled h starts memory
  pub led : Led h (accepted h starts memory) (Closed t)

-- the memory has too few records, and comes back as it was
pub record NotSettled (h : Handed) (memory : told.Memory) (e : Refusal told.Memory) : Type 0 where
  pub few : room_for h (map rec (vec_items memory)) ≡ false
  pub fault : e.fault ≡ Memory
  pub back : e.back ≡ memory

-- a table was made and settled so, in the memory; or the memory has too few records
abbrev pub Settles : Handed → List Start → told.Memory → Result ClosedTable (Refusal told.Memory) → Type 0
Settles h starts memory (Ok t) = Settled h starts (map rec (vec_items memory)) (state t) × Returned (h.points * h.facts * h.facts) memory t.core.records
Settles h starts memory (Err e) = NotSettled h memory e
