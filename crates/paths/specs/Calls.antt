-- Any row of calls as a list: what each call makes of the table, refused calls included, and what holds after the last.
use Rattle.std.specs.Prelude.{◌≡◌, ℕ, zero, suc, Bool, true, false, cond, List, [], ◌∷◌, length, Some, None, Option, ◌==◌, nat_lt}
use Rattle.flow.specs.Relation.{Rule, Within}
use Rattle.paths.specs.Supergraph.{Supergraph, Lawful}
use Rattle.paths.specs.Paths.{ReachedPair}
use Rattle.paths.specs.Table.{TableCell, cell}
use Rattle.paths.specs.Theorem.{Accepted}
use Rattle.paths.specs.Trail.{trail, PathTo}
use Rattle.paths.specs.Machine.{both, State, opened, sow, work, is_found}
use Rattle.paths.specs.declared.worklist.End.{End}
use Rattle.paths.specs.Rows.{Mode, Open, Closed, Report, pairs_below, After}

-- a call; of a line or a foot it is said whether it fits the page that it is lent
pub data Asks : Type 0 where
  Sow : (p d : ℕ) → Asks
  Work : (k : ℕ) (end : End) → Asks
  Close Reopen Begin Abandon : Asks
  Line Foot : (fits : Bool) → Asks
  Trail : (n d : ℕ) → Asks

-- the table between two calls, with the starts accepted so far
pub record Whole : Type 0 where
  pub mode : Mode
  pub state : State
  pub starts : List (ℕ × ℕ)

-- a newly opened table
abbrev pub newly : Whole
newly = record { mode = Open; state = opened; starts = [] }

-- the same table in another mode
abbrev pub in_mode : Mode → Whole → Whole
in_mode m w = record { mode = m; state = w.state; starts = w.starts }

-- whether nothing waits
abbrev pub is_empty : List TableCell → Bool
is_empty [] = true
is_empty (c ∷ cs) = false

-- a where it is found, unless a smaller one was
abbrev pub later : Bool → ℕ → Option ℕ → Option ℕ
later true a None = Some a
later false a None = None
later true a (Some b) = Some b
later false a (Some b) = Some b

-- the least a < k at which (n, a, d) is found, if any
abbrev pub least : ℕ → ℕ → ℕ → State → Option ℕ
least zero n d st = None
least (suc k) n d st = later (is_found (cell n k d) st) k (least k n d st)

module _ (P : Supergraph) (Q : Rule) (N K F : ℕ) where
  -- what a call makes of an open table; one that is refused, or is not put to it, leaves all as it is
  abbrev pub on_open : Asks → Whole → Whole
  on_open (Sow p d) w = cond (both (nat_lt p K) (nat_lt d F)) (record { mode = Open; state = sow P Q N F p d w.state; starts = (p, d) ∷ w.starts }) w
  on_open (Work k end) w = record { mode = Open; state = work P Q N F k end w.state; starts = w.starts }
  on_open Close w = cond (is_empty w.state.waiting) (in_mode Closed w) w
  on_open Reopen w = w
  on_open Begin w = w
  on_open Abandon w = w
  on_open (Line fits) w = w
  on_open (Foot fits) w = w
  on_open (Trail n d) w = w

  -- the same of a closed table
  abbrev pub on_closed : Asks → Whole → Whole
  on_closed (Sow p d) w = w
  on_closed (Work k end) w = w
  on_closed Close w = w
  on_closed Reopen w = in_mode Open w
  on_closed Begin w = in_mode (Report 0) w
  on_closed Abandon w = w
  on_closed (Line fits) w = w
  on_closed (Foot fits) w = w
  on_closed (Trail n d) w = w

  -- the same of a table with a report begun, of which i lines are written
  abbrev pub on_report : ℕ → Asks → Whole → Whole
  on_report i (Sow p d) w = w
  on_report i (Work k end) w = w
  on_report i Close w = w
  on_report i Reopen w = w
  on_report i Begin w = w
  on_report i Abandon w = in_mode Closed w
  on_report i (Line fits) w = cond (both fits (nat_lt i (length (pairs_below F N w.state)))) (in_mode (Report (suc i)) w) w
  on_report i (Foot fits) w = cond (both fits (i == length (pairs_below F N w.state))) (in_mode Closed w) w
  on_report i (Trail n d) w = w

  -- the call a in mode m
  abbrev pub by_mode : Mode → Asks → Whole → Whole
  by_mode Open a w = on_open a w
  by_mode Closed a w = on_closed a w
  by_mode (Report i) a w = on_report i a w

  -- the call a in the mode that the table is in
  abbrev pub answer : Asks → Whole → Whole
  answer a w = by_mode w.mode a w

  -- the calls one after the other, the latest first
  abbrev pub run : List Asks → Whole
  run [] = newly
  run (a ∷ before) = answer a (run before)

  -- what a trail to (n, d) then finds: a call-matched path from an accepted start, or that there is none
  abbrev pub Led : Option ℕ → Whole → ℕ → ℕ → Type 0
  Led None w n d = ReachedPair P Q (Accepted w.starts) n d → ⊥
  Led (Some a) w n d = PathTo P Q (Accepted w.starts) (trail P w.state.table (cell n a d)) n d

-- what holds after calls that led to w
pub record Kept (P : Supergraph) (Q : Rule) (N K F : ℕ) (w : Whole) : Type 0 where
  pub after : After P Q N F w.mode w.state w.starts
  pub trail_to : w.mode ≡ Closed → (n d : ℕ) → Led P Q N K F (least F n d w.state) w n d

-- all this holds after any list of calls
abbrev pub AnyCalls : Type 0
AnyCalls = (P : Supergraph) (Q : Rule) (N K F : ℕ) → Lawful P N K → Within F Q → (calls : List Asks) → Kept P Q N K F (run P Q N K F calls)
