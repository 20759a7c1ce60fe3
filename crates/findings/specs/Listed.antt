-- What the reports of a listing tell.
use Rattle.std.specs.Prelude.{◌≡◌, ℕ, List, [], ◌++◌, Ok, Err, Result}
use Rattle.flow.specs.Choices.{number, starts_of}
use Rattle.flow.specs.declared.choice.Choice.{Choice}
use Rattle.flow.specs.declared.choice.Choice.TheVariants.{Unset, Raw}
use Rattle.draft.specs.declared.question.Refusal.{Refusal}
use Rattle.listing.specs.Meaning.{Meaning}
use Rattle.paths.specs.Handing.{posed}
use Rattle.paths.specs.Law.{Reported}
use Rattle.records.specs.declared.fault.Fault.{Fault}
use Rattle.starts.specs.Sown.{latest_first}
use Rattle.text.specs.Reading.{reading}
use Rattle.telling.specs.Telling.{told_by, HoldsBy}
use Rattle.findings.specs.Told.{reported, problem_text}
use Rattle.findings.specs.Written.{taken}
use Rattle.findings.specs.declared.room.Room.{Room}

-- what is told of a problem about g globals and l locals
abbrev pub told_in : Choice → ℕ → ℕ → Meaning → Room → List ℕ
told_in choice g l m room = problem_text (number choice) (posed choice g l m) (starts_of choice g l) room

-- what comes of the report of a problem about a program's cells, from its default starts
abbrev pub outcome_of : Choice → Meaning → Room → Result (List ℕ) Fault
outcome_of choice m room = reported (posed choice m.globals m.locals m) (starts_of choice m.globals m.locals) room

-- both problems of a program, one after the other
abbrev pub both_told : Meaning → Room → List ℕ
both_told m room = told_in Unset m.globals m.locals m room ++ told_in Raw m.globals m.locals m room

-- a report that there is tells exactly the pairs that call-matched paths reach from the default starts, and how many cells are reached
abbrev pub Exact : Choice → Meaning → Room → Type 0
Exact choice m room = (report : List ℕ) → outcome_of choice m room ≡ Ok report
    → Reported (posed choice m.globals m.locals m) (latest_first (starts_of choice m.globals m.locals) []) report

-- the text is what is told of both problems, and each report in it is exact
pub record Told (room : Room) (m : Meaning) (text : List ℕ) : Type 0 where
  pub parts : text ≡ both_told m room
  pub exact : (choice : Choice) → Exact choice m room

-- of a listing that is read; a refused one gives `refused k at j` alone
abbrev pub told_of : List ℕ → Room → List ℕ
told_of t room = told_by (λ m. both_told m room) (reading t)

-- what is told of a listing that is read is so of the program that its bytes mean
abbrev pub ListingTold : List ℕ → Room → List ℕ → Type 0
ListingTold t room text = HoldsBy (λ m s. Told room m s) (reading t) text

-- how many of k records a program's tables take, one after the other: the problems about its cells have the same facts
abbrev pub taken_of : Meaning → ℕ → ℕ
taken_of m k = taken (posed Unset m.globals m.locals m) k

-- the same of what a reading answers; none where it refuses
abbrev pub taken_by : ℕ → Result Meaning Refusal → ℕ
taken_by k (Ok m) = taken_of m k
taken_by k (Err r) = 0

-- how many of k records the tables of a listing take
abbrev pub records_taken : List ℕ → ℕ → ℕ
records_taken t k = taken_by k (reading t)
