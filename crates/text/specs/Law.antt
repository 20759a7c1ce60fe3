-- The law of reading, in the words of the questions.
use Rattle.std.specs.Prelude.{◌≡◌, ℕ, zero, suc, ◌<◌, Bool, true, false, cond, not, ◌&&◌, List, length, is_some, Ok, Err, Result, ◌==◌}
use Rattle.std.specs.List.{slice_get}
use Rattle.listing.specs.Lawful.{cells_in_range, points_in_range, stays, exists}
use Rattle.listing.specs.Procedures.{rets, procedure, ends_in_ret}
use Rattle.listing.specs.Statements.{is_ret}
use Rattle.listing.specs.declared.control.Control.{Control}
use Rattle.draft.specs.Questions.{number_of}
use Rattle.draft.specs.declared.question.Question.{Question}
use Rattle.draft.specs.declared.question.Question.TheVariants.{Size, Form, Ranges, Length, End, Procedures, Cells, Jumps, Callees}
use Rattle.draft.specs.declared.question.Refusal.{Refusal}
use Rattle.text.specs.Lines.{lines}
use Rattle.text.specs.Reading.{counted, written, flow_of, renumbered, sized, formed, or_true}

-- a test that is put at place k alone
abbrev pub only_at : ℕ → Bool → ℕ → Bool
only_at k test j = cond (j == k) test true

-- a test of each line with its number from 1
abbrev pub of_line : (ℕ → List ℕ → Bool) → List (List ℕ) → ℕ → Bool
of_line test ls zero = true
of_line test ls (suc j) = or_true (test (suc j)) (slice_get ls j)

-- a test of each statement with its point n, which is line n + 2
abbrev pub of_statement : {A : Type 0} → (ℕ → A → Bool) → List A → ℕ → Bool
of_statement test xs zero = true
of_statement test xs (suc zero) = true
of_statement test xs (suc (suc n)) = or_true (test n) (slice_get xs n)

-- the statement at point n is not the 61st `ret`
abbrev pub few_before : List Control → ℕ → Control → Bool
few_before cs n c = not (is_ret c && procedure cs n == 60)

-- whether a question is answered yes at a place: place 0 is the whole text, place j its line j
abbrev pub holds : Question → List ℕ → ℕ → Bool
holds Size t = only_at 0 (sized t)
holds Form t = of_line formed (lines t)
holds Ranges t = only_at 1 (cells_in_range (counted t).globals (counted t).locals)
holds Length t = only_at 0 (points_in_range (length (written t)))
holds End t = only_at (length (lines t)) (ends_in_ret (flow_of t))
holds Procedures t = of_statement (few_before (flow_of t)) (flow_of t)
holds Cells t = of_statement (λ n s. is_some (renumbered t s)) (written t)
holds Jumps t = of_statement (stays (flow_of t)) (flow_of t)
holds Callees t = of_statement (exists (rets (flow_of t))) (flow_of t)

-- a question is answered yes on the whole text
abbrev pub Yes : List ℕ → Question → Type 0
Yes t q = (j : ℕ) → holds q t j ≡ true

-- the place that is given is the least that fails, and every earlier question is answered yes on the whole text
pub record FirstNo (t : List ℕ) (r : Refusal) : Type 0 where
  pub fails : holds r.question t r.place ≡ false
  pub least : (j : ℕ) → j < r.place → holds r.question t j ≡ true
  pub earlier : (q : Question) → number_of q < number_of r.question → Yes t q

-- what is read has a yes to every question, and what is refused is refused for its first no
abbrev pub ReadsByLaw : {A : Type 0} → List ℕ → Result A Refusal → Type 0
ReadsByLaw t (Ok x) = (q : Question) → Yes t q
ReadsByLaw t (Err r) = FirstNo t r
