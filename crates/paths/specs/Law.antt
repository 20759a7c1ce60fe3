-- The law over rows of calls.
use Rattle.std.specs.Prelude.{◌≡◌, ℕ, zero, suc, ◌+◌, ◌*◌, ◌<◌, ◌≤◌, ◌⊎◌, ◌↔◌, List, [], ◌∷◌, ◌++◌, map, reverse, length, take, drop, Some}
use mathlib.Core.List.{Memᴰ}
use Rattle.flow.specs.Relation.{Within}
use Rattle.moves.specs.declared.moves.Move.{Move}
use Rattle.paths.specs.Supergraph.{Lawful}
use Rattle.paths.specs.Paths.{ReachedPair, ReachedCell}
use Rattle.paths.specs.Theorem.{Accepted}
use Rattle.paths.specs.Trail.{PathTo}
use Rattle.paths.specs.Rows.{Ascending, Number}
use Rattle.paths.specs.Tabled.{Tabled}
use Rattle.paths.specs.Words.{spelt, nested}
use Rattle.moves.specs.Words.{decode}
use Rattle.paths.specs.Page.{lines_text, foot_text}
use Rattle.paths.specs.Does.{Handed, Answer, gives, refuses, State, Open, Closed, Begun, Call, Sow, Work, Close, Reopen, Begin, Abandon, Line, Foot, Trail, Newly, Row}

-- the starts that the calls accepted
abbrev pub accepted : List Call → List (ℕ × ℕ)
accepted [] = []
accepted (Sow h p d (gives k) ∷ calls) = (p, d) ∷ accepted calls
accepted (Sow h p d (refuses q) ∷ calls) = accepted calls
accepted (Work h k end answer ∷ calls) = accepted calls
accepted (Close answer ∷ calls) = accepted calls
accepted (Reopen ∷ calls) = accepted calls
accepted (Begin ∷ calls) = accepted calls
accepted (Abandon ∷ calls) = accepted calls
accepted (Line page answer page' ∷ calls) = accepted calls
accepted (Foot page answer page' ∷ calls) = accepted calls
accepted (Trail n d memory room answer memory' ∷ calls) = accepted calls

-- `OnePage calls page`: since the latest begin, each line that was written was lent the page as the one before it had left it, and
-- the last of them left it as `page`. What a refused call was lent does not matter: it wrote nothing
abbrev pub OnePage : List Call → List ℕ → Type 0
OnePage [] now = ⊥
OnePage (Sow h p d answer ∷ calls) now = ⊥
OnePage (Work h k end answer ∷ calls) now = ⊥
OnePage (Close answer ∷ calls) now = ⊥
OnePage (Reopen ∷ calls) now = ⊥
OnePage (Begin ∷ calls) now = Unit {0}
OnePage (Abandon ∷ calls) now = ⊥
OnePage (Line page (gives zero) page' ∷ calls) now = OnePage calls now
OnePage (Line page (gives (suc k)) page' ∷ calls) now = (page' ≡ now) × OnePage calls page
OnePage (Line page (refuses q) page' ∷ calls) now = OnePage calls now
OnePage (Foot page (gives k) page' ∷ calls) now = ⊥
OnePage (Foot page (refuses q) page' ∷ calls) now = OnePage calls now
OnePage (Trail n d memory room answer memory' ∷ calls) now = ⊥

module _ (H : Handed) (starts : List (ℕ × ℕ)) where
  -- a path from an accepted start ends at (n, d)
  abbrev pub Reached : ℕ → ℕ → Type 0
  Reached n d = ReachedPair H.graph H.rule (Accepted starts) n d

  -- the text is the lines of the reached pairs, by point and then fact, then the foot with their number and the number of the
  -- reached cells
  pub record Reported (text : List ℕ) : Type 0 where
    pub pairs : List (ℕ × ℕ)
    pub cells : ℕ
    pub tells : text ≡ lines_text pairs ++ foot_text (length pairs) cells
    pub ascending : Ascending pairs
    pub exact : (n d : ℕ) → Memᴰ (n, d) pairs ↔ Reached n d
    pub counted : Number (λ c. ReachedCell H.graph H.rule (Accepted starts) c.point c.origin c.fact) cells
    pub bounded : cells ≤ H.points * H.facts * H.facts

  -- k words were written, which are those of a call-matched path from an accepted start to (n, d), the start first, and fit, as the calls
  -- that it closes do; the words after them stay
  pub record Shown (n d k : ℕ) (memory : List ℕ) (room : ℕ) (memory' : List ℕ) : Type 0 where
    pub moves : List Move
    pub path : PathTo H.graph H.rule (Accepted starts) moves n d
    pub count : length moves ≡ k
    pub words : memory' ≡ spelt moves ++ drop k memory
    pub read_back : map decode (take k memory') ≡ map Some (reverse moves)
    pub fits : k ≤ length memory
    pub calls_fit : nested moves 0 ≤ room

  -- 17: a path ends at the pair, and it or the calls that it closes do not fit
  pub record Unfit (n d : ℕ) (memory : List ℕ) (room : ℕ) : Type 0 where
    pub moves : List Move
    pub path : PathTo H.graph H.rule (Accepted starts) moves n d
    pub too_long : (length memory < length moves) ⊎ (room < nested moves 0)

  -- why a trail may be refused
  pub data Refusal (n d : ℕ) (memory : List ℕ) (room : ℕ) : ℕ → Type 0 where
    out_of_range : (n < H.points → d < H.facts → ⊥) → Refusal n d memory room 13
    not_reached : (Reached n d → ⊥) → Refusal n d memory room 15
    no_fit : Unfit n d memory room → Refusal n d memory room 17

  -- what a trail told is so, given or refused
  abbrev pub Told : ℕ → ℕ → Answer → List ℕ → ℕ → List ℕ → Type 0
  Told n d (gives k) memory room memory' = Shown n d k memory room memory'
  Told n d (refuses q) memory room memory' = Refusal n d memory room q × (memory' ≡ memory)

-- the table of a state
abbrev pub table_in : State → Tabled
table_in (Open t) = t
table_in (Closed t) = t
table_in (Begun r) = r.table

-- the law of a row: of each foot in it that was given, up to whose end the page is such a text, and of each trail
pub record Law (H : Handed) (calls : List Call) (s : State) : Type 0 where
  pub tally : (table_in s).found ≡ (table_in s).settled + length (table_in s).waiting
  pub reports : (later earlier : List Call) (end : ℕ) (page page' : List ℕ) → calls ≡ later ++ (Foot page (gives end) page' ∷ earlier)
      → OnePage earlier page → Reported H (accepted earlier) (take end page')
  pub trails : (later earlier : List Call) (n d room : ℕ) (answer : Answer) (memory memory' : List ℕ)
      → calls ≡ later ++ (Trail n d memory room answer memory' ∷ earlier) → Told H (accepted earlier) n d answer memory room memory'

-- what is asked of the program and the problem
pub record Sound (H : Handed) : Type 0 where
  pub lawful : Lawful H.graph H.points H.procs
  pub bounded : Within H.facts H.rule
  pub few_points : H.points ≤ 1000
  pub few_facts : H.facts ≤ 64

-- every row from a newly opened table on keeps the law
abbrev pub TheLaw : Type 0
TheLaw = (H : Handed) → Sound H → (first : Tabled) → Newly H first → (calls : List Call) (s : State) → Row H first calls s → Law H calls s

-- what open promises of the table that it has just made: the law of every row from there on
abbrev pub LawFrom : Handed → Tabled → Type 0
LawFrom H first = (calls : List Call) (s : State) → Row H first calls s → Law H calls s
