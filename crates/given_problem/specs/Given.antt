-- Whether bytes give a relation over a program.
use Rattle.std.specs.Prelude.{◌≡◌, ℕ, ◌*◌, Bool, true, false, ◌&&◌, List, length, Ok, Err, Result, ◌==◌}
use Rattle.listing.specs.Meaning.{Meaning, size}
use Rattle.tabled_problem.specs.Rows.{count_in_range}
use Rattle.tabled_problem.specs.declared.problem.TabledProblem.{TabledProblem}
use Rattle.given_problem.specs.Rows.{rows_of}
use Rattle.given_problem.specs.declared.given.Fault.{Fault}
use Rattle.given_problem.specs.declared.given.Fault.TheVariants.{Range, Memory}

-- there may be f facts, and the bytes are as many as a relation of f facts takes: 8 for each row, and a row for each point, kind and fact
abbrev pub fits : Meaning → List ℕ → ℕ → Bool
fits m bytes f = count_in_range f && (length bytes == size m * 4 * f * 8)

-- the problem of f facts that the rows in the bytes give
pub record Made (m : Meaning) (bytes : List ℕ) (f : ℕ) (q : TabledProblem) : Type 0 where
  pub fitting : fits m bytes f ≡ true
  pub rows : q.rows.items ≡ rows_of bytes
  pub facts : q.facts ≡ f

-- such a problem is made; or the bytes do not fit; or memory is wanting for bytes that fit
abbrev pub Makes : Meaning → List ℕ → ℕ → Result TabledProblem Fault → Type 0
Makes m bytes f (Ok q) = Made m bytes f q
Makes m bytes f (Err Range) = fits m bytes f ≡ false
Makes m bytes f (Err Memory) = fits m bytes f ≡ true
