-- The questions about statements, and the first no to them.
use Rattle.std.specs.Prelude.{◌≡◌, ℕ, ◌+◌, ◌-◌, Bool, false, cond, List, [], ◌∷◌, length, Some, None, Ok, Err, Option, Result, nat_le}
use Rattle.std.specs.List.{slice_get}
use Rattle.listing.specs.declared.control.Control.{Control}
use Rattle.listing.specs.declared.numbers.Point.{Point}
use Rattle.listing.specs.Statements.{is_ret}
use Rattle.listing.specs.Procedures.{rets, exit, ends_in_ret}
use Rattle.listing.specs.Lawful.{stays, exists}
use Rattle.listing.specs.Meaning.{point}
use Rattle.draft.specs.declared.question.Question.{Question}
use Rattle.draft.specs.declared.question.Question.TheVariants as question
use Rattle.draft.specs.declared.question.Breach.{Breach}

-- the least place whose element fails a test, where the first has the place n
abbrev pub failing : {A : Type 0} → (ℕ → A → Bool) → ℕ → List A → Option ℕ
failing test n [] = None
failing test n (x ∷ xs) = cond (test n x) (failing test (n + 1) xs) (Some n)

-- what the calls of a test answer at each statement is what a rule says of it
abbrev pub Judges : (Point → Control → Bool → Type 0) → List Control → (ℕ → Control → Bool) → Type 0
Judges answers cs rule = (n : Point) (c : Control) (kept : Bool) → slice_get cs n.0 ≡ Some c → answers n c kept → kept ≡ rule n.0 c

-- no at k, unless a test says yes
abbrev pub unless : Bool → ℕ → Option ℕ
unless passed k = cond passed None (Some k)

-- the last point, where its statement is no `ret`
unfoldable pub unended : List Control → Option ℕ
unended cs = unless (ends_in_ret cs) (length cs - 1)

-- the 61st `ret`
unfoldable pub crowded : List Control → Option ℕ
crowded cs = unless (nat_le (rets cs) 60) (exit cs 60)

-- the first statement with a cell that is not the program's
unfoldable pub foreign : List Control → (ℕ → Bool) → Option ℕ
foreign cs owned = failing (λ n c. owned n) 0 cs

-- the first jump out of its procedure
unfoldable pub astray : List Control → Option ℕ
astray cs = failing (stays cs) 0 cs

-- the first call of a procedure that does not exist
unfoldable pub missing : List Control → Option ℕ
missing cs = failing (exists (rets cs)) 0 cs

-- a no to a question, or what comes after it
abbrev pub or_else : Question → Option ℕ → Option Breach → Option Breach
or_else q None later = later
or_else q (Some n) later = Some (record { question = q; point = point n })

-- the first no, each question being put to every statement before the next
abbrev pub breach : List Control → (ℕ → Bool) → Option Breach
breach cs owned =
    or_else question.End (unended cs)
    (or_else question.Procedures (crowded cs)
    (or_else question.Cells (foreign cs owned)
    (or_else question.Jumps (astray cs)
    (or_else question.Callees (missing cs) None))))

-- there is a `ret`
abbrev pub has_ret : Option Control → Bool
has_ret None = false
has_ret (Some c) = is_ret c

-- what a question answers, by the point of its no
abbrev pub asked : Question → Option Point → Result (Unit {0}) Breach
asked q None = Ok tt
asked q (Some n) = Err (record { question = q; point = n })
