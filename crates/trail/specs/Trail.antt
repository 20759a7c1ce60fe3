-- The law of a trail.
use Rattle.std.specs.Prelude.{ℕ, List}
use Rattle.paths.specs.Does.{Handed, Answer, Closed, Newly}
use Rattle.paths.specs.Law.{Sound, Told}
use Rattle.paths.specs.Tabled.{Tabled}
use Rattle.paths.specs.Usage.{Standing}

-- what a trail told is so of every program and problem over whose table, newly opened, a row of calls led here: a given one is that of a
-- path from a start which those calls accepted, and a refusal has its reason
pub record ToldSo (t : Tabled) (n d : ℕ) (memory : List ℕ) (room : ℕ) (answer : Answer) (memory' : List ℕ) : Type 0 where
  pub so : (H : Handed) → Sound H → (first : Tabled) → Newly H first → (starts : List (ℕ × ℕ)) → Standing H first starts (Closed t)
      → Told H starts n d answer memory room memory'
