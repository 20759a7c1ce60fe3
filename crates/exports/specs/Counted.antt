-- How many cells are settled.
use Rattle.std.specs.Prelude.{◌≡◌, ℕ, ◌*◌, Bool, true, false, List, Ok, Err, Result, replicate}
use Rattle.draft.specs.Questions.{refused_of}
use Rattle.draft.specs.declared.question.Refusal.{Refusal}
use Rattle.flow.specs.CellFacts.{from_each}
use Rattle.flow.specs.Choices.{starts_of}
use Rattle.flow.specs.declared.choice.Choice.TheVariants.{Unset}
use Rattle.flow.specs.declared.interface.Start.{Start}
use Rattle.listing.specs.Meaning.{Meaning}
use Rattle.paths.specs.Does.{Handed, handed}
use Rattle.paths.specs.Handing.{posed}
use Rattle.paths.specs.Memory.{Rec, blank}
use Rattle.text.specs.Reading.{reading}
use Rattle.findings.specs.Outcome.{settled}
use Rattle.tabled_problem.specs.Rows.{tabled}
use Rattle.given_problem.specs.Given.{fits}
use Rattle.given_problem.specs.Rows.{rows_of}
use Rattle.exports.specs.declared.answer.Outcome.{Outcome}
use Rattle.exports.specs.declared.answer.Outcome.TheVariants.{Given, Refused, OutOfMemory}

-- a memory with a record for each cell, each of a cell that is not found
abbrev pub blanks : Handed → List Rec
blanks h = replicate (h.points * h.facts * h.facts) blank

-- how many cells are settled in the end, where these starts are sown
abbrev pub cells_settled : Handed → List Start → ℕ
cells_settled h starts = (settled h starts (blanks h)).settled

-- over the relation of f facts that the rows give, from procedure 0 with every fact
abbrev pub settled_by_rows : Meaning → List ℕ → ℕ → ℕ
settled_by_rows m rows f = cells_settled (handed m (tabled rows f) f) (from_each 0 f)

-- of the problem unset, from its default starts
abbrev pub settled_of_unset : Meaning → ℕ
settled_of_unset m = cells_settled (posed Unset m.globals m.locals m) (starts_of Unset m.globals m.locals)

-- the number is given, or memory is wanting
abbrev pub Gives : ℕ → Outcome → Type 0
Gives n (Given k) = k ≡ n
Gives n (Refused r) = ⊥
Gives n OutOfMemory = Unit {0}

-- what comes of a listing: its refusal, or what comes of the program that it means
abbrev pub Of : (Meaning → Outcome → Type 0) → Result Meaning Refusal → Outcome → Type 0
Of Comes (Ok m) o = Comes m o
Of Comes (Err e) o = o ≡ Refused (refused_of e)

-- where a relation fits, that; one that does not fit is refused, 10 at 0
abbrev pub WhereFits : Bool → (Outcome → Type 0) → Outcome → Type 0
WhereFits true Comes o = Comes o
WhereFits false Comes o = o ≡ Refused (record { number = 10; place = 0 })

-- how many cells a listing settles under the problem unset
abbrev pub CountOfUnset : List ℕ → Outcome → Type 0
CountOfUnset listing = Of (λ m. Gives (settled_of_unset m)) (reading listing)

-- how many over the relation of f facts that bytes give, from procedure 0 with every fact
abbrev pub CountOfAll : List ℕ → List ℕ → ℕ → Outcome → Type 0
CountOfAll listing bytes f = Of (λ m. WhereFits (fits m bytes f) (Gives (settled_by_rows m (rows_of bytes) f))) (reading listing)
