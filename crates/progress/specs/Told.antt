-- What working a table off tells and leaves.
use Rattle.std.specs.Prelude.{◌≡◌, ℕ, List, []}
use Rattle.paths.specs.Does.{Handed, Open}
use Rattle.paths.specs.Tabled.{Tabled}
use Rattle.paths.specs.Usage.{Standing}
use Rattle.paths.specs.declared.worklist.End.{End}
use Rattle.flow.specs.declared.interface.Start.{Start}
use Rattle.paths.specs.Exactly.{ExactFrom}
use Rattle.progress.specs.Progress.{lines, last, first_of, accepted_of, seeded}

-- the default starts are sown, and a row of calls led there from a newly opened table
pub record Seeded (h : Handed) (starts : List Start) (t : Tabled) : Type 0 where
  pub state_is : t ≡ seeded h starts
  pub points : t.points ≡ h.points
  pub facts : t.facts ≡ h.facts
  pub stands : Standing h (first_of h) (accepted_of h starts) (Open t)
  pub exact : ExactFrom h (first_of h)

-- a table was worked off in at most n portions: the text tells the tallies after each, nothing waits, and a row of calls that led to the
-- table goes on
pub record WorkedOff (h : Handed) (k : ℕ) (end : End) (n : ℕ) (before : Tabled) (text : List ℕ) (after : Tabled) : Type 0 where
  pub told : text ≡ lines n h k end before
  pub leaves : after ≡ last n h k end before
  pub done : after.waiting ≡ []
  pub row : (first : Tabled) (accepted : List (ℕ × ℕ)) → Standing h first accepted (Open before) → Standing h first accepted (Open after)
