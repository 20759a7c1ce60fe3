-- The report of a table at the front of a page.
use Rattle.std.specs.Prelude.{◌≡◌, ℕ, ◌+◌, ◌<◌, List, ◌∷◌, length, drop, Ok, Err, Result}
use Rattle.std.specs.Str.{IsUtf8}
use Rattle.page.specs.Writes.{Put}
use Rattle.paths.specs.Does.{Handed, Report, State}
use Rattle.paths.specs.Law.{Reported}
use Rattle.paths.specs.Page.{pairs_of, line_text, report_text}
use Rattle.paths.specs.Tabled.{Tabled}
use Rattle.paths.specs.Usage.{Usage, Standing, OnPage}
use Rattle.records.specs.declared.fault.Fault.{Fault}
use Rattle.records.specs.declared.fault.Fault.TheVariants.{Full}
use Rattle.records.specs.declared.fault.Refusal.{Refusal}
use Rattle.table.specs.State.{state, ClosedTable}
use Rattle.table.specs.Told.{Memory}
use Rattle.findings.specs.declared.written.Written.{Written}

-- some row of calls from a newly opened table on, which accepted the starts, led here
pub record Led (h : Handed) (starts : List (ℕ × ℕ)) (s : State) : Type 0 where
  pub first : Tabled
  pub usage : Usage h first
  pub stands : Standing h first starts s

-- such a row led to the report, whose lines are all on this page
pub record Underway (h : Handed) (starts : List (ℕ × ℕ)) (r : Report) (page : List ℕ) : Type 0 where
  pub first : Tabled
  pub usage : Usage h first
  pub on : OnPage h first starts r page

-- line after line is written, until none is left or the next does not fit; what stands behind them stays
pub record Lined (h : Handed) (starts : List (ℕ × ℕ)) (r : Report) (page : List ℕ) (r' : Report) (page' : List ℕ) : Type 0 where
  pub table : r'.table ≡ r.table
  pub size : length page' ≡ length page
  pub rest : drop r'.place page' ≡ drop r'.place page
  pub carries : Underway h starts r page → Underway h starts r' page'

-- the next line does not fit
pub record Late (f : Fault) (r : Report) (page : List ℕ) : Type 0 where
  pub fault : f ≡ Full
  pub pair : ℕ × ℕ
  pub others : List (ℕ × ℕ)
  pub next : drop r.lines (pairs_of r.table) ≡ pair ∷ others
  pub full : length page < r.place + length (line_text pair)

-- every pair has its line on the page; or lines were written until one does not fit
abbrev pub Lines : Handed → List (ℕ × ℕ) → Report → List ℕ → Result (Unit {0}) Fault → Report → List ℕ → Type 0
Lines h starts r page (Ok u) r' page' = Lined h starts r page r' page' × (r'.lines ≡ length (pairs_of r'.table))
Lines h starts r page (Err f) r' page' = Lined h starts r page r' page' × Late f r' page'

-- the report of the table stands at the front of the page, and what stood behind it stays; it tells what is reached from the starts
pub record Whole (h : Handed) (starts : List (ℕ × ℕ)) (t : Tabled) (page : List ℕ) (count : ℕ) (page' : List ℕ) : Type 0 where
  pub put : Put (report_text t) page count page'
  pub utf8 : IsUtf8 (report_text t)
  pub tells : Reported h starts (report_text t)

-- the report does not fit
pub record Short (t : Tabled) (f : Fault) (page : List ℕ) : Type 0 where
  pub fault : f ≡ Full
  pub full : length page < length (report_text t)

-- the report is whole, or it does not fit; the memory of the table comes back
abbrev pub Finished : Handed → List (ℕ × ℕ) → Tabled → Memory → List ℕ → Result Written (Refusal Memory) → List ℕ → Type 0
Finished h starts t memory page (Ok w) page' = Whole h starts t page w.count page' × (w.memory ≡ memory)
Finished h starts t memory page (Err e) page' = Short t e.fault page × (e.back ≡ memory)

-- the same, and a page that is too short is as it was
abbrev pub Filled : Handed → List (ℕ × ℕ) → ClosedTable → List ℕ → Result Written (Refusal Memory) → List ℕ → Type 0
Filled h starts t page (Ok w) page' = Finished h starts (state t) t.core.records page (Ok w) page'
Filled h starts t page (Err e) page' = Finished h starts (state t) t.core.records page (Err e) page' × (page' ≡ page)
