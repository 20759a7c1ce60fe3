-- The trail check over words, and its law.
use Rattle.std.specs.Prelude.{◌≡◌, ℕ, suc, ◌<◌, ◌≤◌, cond, ◌⊎◌, List, [], ◌∷◌, length, take, Some, None, Option, nat_le}
use Rattle.moves.specs.declared.moves.Move.{Move}
use Rattle.paths.specs.Check.{Spot, nowhere, move, PathAlong}
use Rattle.paths.specs.Words.{spelt}
use Rattle.moves.specs.Words.{decode}
use Rattle.paths.specs.Does.{Handed}
use Rattle.paths.specs.Law.{Sound}

-- one place later
abbrev pub one_more : Option ℕ → Option ℕ
one_more None = None
one_more (Some k) = Some (suc k)

-- the place, if any, where the words are stuck, from where the first of them leads
abbrev pub stuck_by : Option Spot → (Spot → Option ℕ) → Option ℕ
stuck_by None rest = Some 0
stuck_by (Some z) rest = one_more (rest z)

-- 18, at the place of the first word that is no lawful move
abbrev pub at_18 : Option ℕ → Option (ℕ × ℕ)
at_18 None = None
at_18 (Some j) = Some (18, j)

module _ (H : Handed) where
  -- where the move of a word leads from a spot, if there is one and it is lawful there
  abbrev pub lead_by : Spot → Option Move → Option Spot
  lead_by z None = None
  lead_by z (Some w) = move H.graph H.rule H.points H.facts z w

  -- where a word leads from a spot, if anywhere
  abbrev pub lead : Spot → ℕ → Option Spot
  lead z x = lead_by z (decode x)

  -- the place of the first word that leads nowhere
  abbrev pub stuck : List ℕ → Spot → Option ℕ
  stuck [] z = None
  stuck (x ∷ xs) z = stuck_by (lead z x) (stuck xs)

  -- the same from before the first move; no words are stuck at once
  abbrev pub first_stuck : List ℕ → Option ℕ
  first_stuck [] = Some 0
  first_stuck (x ∷ xs) = stuck (x ∷ xs) nowhere

  -- the question that is answered no, and its place
  abbrev pub check_no : List ℕ → ℕ → Option (ℕ × ℕ)
  check_no words room = cond (nat_le (length words) room) (at_18 (first_stuck words)) (Some (17, 0))

  -- the words are those of a call-matched path from some start
  pub record Spells (words : List ℕ) : Type 0 where
    pub moves : List Move
    pub open_calls : List ℕ
    pub point : ℕ
    pub fact : ℕ
    pub path : PathAlong H.graph H.rule H.procs H.facts moves open_calls point fact
    pub words_are : words ≡ spelt moves

  -- the words before place j are a path's, or none; with the word at j they are no path's, and nor are all
  pub record StuckAt (words : List ℕ) (j : ℕ) : Type 0 where
    pub before : (j ≡ 0) ⊎ Spells (take j words)
    pub not_on : Spells (take (suc j) words) → ⊥
    pub no_path : Spells words → ⊥
    pub place : ((words ≡ []) × (j ≡ 0)) ⊎ (j < length words)

  -- why the check refuses the words
  pub data RefusedCheck (words : List ℕ) (room : ℕ) : ℕ → ℕ → Type 0 where
    no_room : room < length words → RefusedCheck words room 17 0
    no_move : {j : ℕ} → length words ≤ room → StuckAt words j → RefusedCheck words room 18 j

  -- what the verdict says of the words
  abbrev pub Verdict : List ℕ → ℕ → Option (ℕ × ℕ) → Type 0
  Verdict words room None = (length words ≤ room) × Spells words
  Verdict words room (Some n) = RefusedCheck words room n.0 n.1

-- the check passes the words of call-matched paths that fit, and tells of all others where they fail
abbrev pub TheCheck : Type 0
TheCheck = (H : Handed) → Sound H → (words : List ℕ) (room : ℕ) → Verdict H words room (check_no H words room)
