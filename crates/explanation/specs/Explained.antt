-- What is told of a pair, and what it says of paths, where `facts` tells in words what each fact stands for.
use Rattle.std.specs.Prelude.{◌≡◌, ℕ, ◌*◌, ◌<◌, List, [], ◌∷◌, ◌++◌, replicate, reverse}
use Rattle.listing.specs.Meaning.{Meaning}
use Rattle.listing.specs.Refusals.{refused_text}
use Rattle.flow.specs.declared.interface.Start.{Start}
use Rattle.moves.specs.declared.moves.Move.{Move}
use Rattle.paths.specs.Does.{Handed, Turn, no, nothing_left, writes, trail_turn}
use Rattle.paths.specs.Law.{Reached, Unfit}
use Rattle.paths.specs.Memory.{Rec, blank}
use Rattle.paths.specs.Tabled.{Tabled}
use Rattle.paths.specs.Theorem.{Accepted}
use Rattle.paths.specs.Trail.{PathTo}
use Rattle.findings.specs.Outcome as outcome
use Rattle.explanation.specs.Lines.{path_text, moves_of}

-- a record for each cell
abbrev pub records_of : Handed → List Rec
records_of h = replicate (h.points * h.facts * h.facts) blank

-- the table with the default starts sown and every cell settled, the oldest first
abbrev pub settled_of : Handed → List Start → Tabled
settled_of h starts = outcome.settled h starts (records_of h)

-- the default starts that are accepted, the latest first
abbrev pub accepted_of : Handed → List Start → List (ℕ × ℕ)
accepted_of h starts = outcome.accepted h starts (records_of h)

-- how many words a trail may have, and how many calls its walk may keep
abbrev pub room : ℕ
room = 4096

-- so many words
unfoldable pub memory_of : ℕ → List ℕ
memory_of k = replicate k 0

-- `refused k at 0`, with LF (10)
abbrev pub refused_line : ℕ → List ℕ
refused_line k = refused_text k 0 ++ (10 ∷ [])

-- what is told of a turn of the machine: the lines of the moves whose words it writes, or its no
abbrev pub turn_text : Meaning → (ℕ → List ℕ) → Turn → List ℕ
turn_text m facts (no q) = refused_line q
turn_text m facts nothing_left = []
turn_text m facts (writes words) = path_text m facts (moves_of words)

-- what is told of the pair of point n and fact d: the trail of the pair over the settled table
abbrev pub explained : Handed → List Start → Meaning → (ℕ → List ℕ) → ℕ → ℕ → List ℕ
explained h starts m facts n d = turn_text m facts (trail_turn (settled_of h starts) n d (memory_of room) room)

-- what is told of a pair is so: the lines are those of the moves of a call-matched path from an accepted start to the pair, the start first;
-- or it is 13 where there is no such pair, 15 where there is no such path, and 17 where there is one which does not fit
pub data Tells (H : Handed) (starts : List (ℕ × ℕ)) (m : Meaning) (facts : ℕ → List ℕ) (n d : ℕ) (text : List ℕ) : Type 0 where
  of_path : (moves : List Move) → PathTo H.graph H.rule (Accepted starts) moves n d → text ≡ path_text m facts (reverse moves)
      → Tells H starts m facts n d text
  out_of_range : (n < H.points → d < H.facts → ⊥) → text ≡ refused_line 13 → Tells H starts m facts n d text
  not_reached : (Reached H starts n d → ⊥) → text ≡ refused_line 15 → Tells H starts m facts n d text
  no_fit : Unfit H starts n d (memory_of room) room → text ≡ refused_line 17 → Tells H starts m facts n d text

-- what is told is so, and 15 is told only where there is no such path
pub record Explains (H : Handed) (starts : List (ℕ × ℕ)) (m : Meaning) (facts : ℕ → List ℕ) (n d : ℕ) (text : List ℕ) : Type 0 where
  pub tells : Tells H starts m facts n d text
  pub unreached : text ≡ refused_line 15 → Reached H starts n d → ⊥
