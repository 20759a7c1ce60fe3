-- The state of a table, as its calls' definitions speak of it.
use Rattle.std.specs.Prelude.{true, false, ◌≡◌, ℕ, ◌+◌, ◌*◌, ◌-◌, ◌<◌, List, map, take, drop, Some, None, vec_items, Option}
use Rattle.moves.specs.declared.moves.Kind.{Kind}
use Rattle.moves.specs.Words.{code}
use Rattle.paths.specs.Does.{Handed}
use Rattle.paths.specs.Table.{TableCell, cell}
use Rattle.paths.specs.Memory.{Rec}
use Rattle.paths.specs.Tabled.{Tabled}
use Rattle.table.specs.Records.{at}
use Rattle.table.specs.declared.sites.Lead.{Lead}
use Rattle.table.specs.declared.sites.Lead.TheVariants.{Start, Step, Past, Call, Return}
use Rattle.records.specs.declared.record.Record.{Record}
use Rattle.table.specs.declared.sites.Spot.{Spot}
use Rattle.table.specs.declared.state.Core.{Core}
use Rattle.table.specs.declared.state.Staged.{Staged}
use Rattle.table.specs.declared.state.Stage.{Ghosts as Stage}
use Rattle.table.specs.declared.state.Open.{Open}
use Rattle.table.specs.declared.state.Closed.{Closed}

-- the number of a kind, 0 where there is none
abbrev pub code_in : Option Kind → ℕ
code_in None = 0
code_in (Some k) = code k

-- a record without the table's own fields
abbrev pub rec : Record → Rec
rec r = record { rank = r.rank; kind = code_in r.kind; first = r.first; second = r.second }

-- the numbers in the slots from head to tail: the row of the cells that wait
abbrev pub row : List Record → ℕ → ℕ → List ℕ
row rs head tail = map (λ r. r.slot) (take (tail - head) (drop head rs))

-- the state of a table with these records, N, F, number found, and ends of the row
abbrev pub state_of : List Record → ℕ → ℕ → ℕ → ℕ → ℕ → Tabled
state_of rs points facts found head tail = record {
  points = points;
  facts = facts;
  records = map rec rs;
  found = found;
  settled = found - (tail - head);
  waiting = row rs head tail;
}

-- the state of a table, whatever its stage
abbrev pub inner : Core → Tabled
inner t = state_of (vec_items t.records) t.points t.facts t.found t.head t.tail

-- the stage of a table that is open
abbrev pub is_open : Stage Open
is_open = record { closed = false }

-- the stage of a table that is closed
abbrev pub is_closed : Stage Closed
is_closed = record { closed = true }

-- an open table
abbrev pub OpenTable : Type 0
OpenTable = Staged Open is_open

-- a closed table
abbrev pub ClosedTable : Type 0
ClosedTable = Staged Closed is_closed

-- the state of a table
abbrev pub state : {S : Type 0} {stage : Stage S} → Staged S stage → Tabled
state t = inner t.core

-- the memory behind the records of the cells
abbrev pub spare : Core → List Record
spare t = drop t.size (vec_items t.records)

-- the cell that a spot stands for
abbrev pub cell_of : Spot → TableCell
cell_of s = cell s.point.0 s.origin.0 s.fact.0

-- the block of the cells (n, a, 0) to (n, a, F - 1): with fact d it makes the cell's number
abbrev pub block_of : ℕ → ℕ → ℕ → ℕ
block_of F n a = n * F + a

-- the spot is one of the table's cells
pub record Inside (t : Core) (s : Spot) : Type 0 where
  pub point : s.point.0 < t.points
  pub origin : s.origin.0 < t.facts
  pub fact : s.fact.0 < t.facts

-- the cell is one of the table's, and found
pub record Found (t : Core) (c : ℕ) : Type 0 where
  pub within : c < t.size
  pub ranked : 0 < (at (vec_items t.records) c).rank

-- the cells that a move comes from are found
abbrev pub Led : Core → Lead → Type 0
Led t Start = Unit {0}
Led t (Step u) = Found t u
Led t (Past u) = Found t u
Led t (Call u) = Found t u
Led t (Return u v) = Found t u × Found t v

-- what finding keeps: the counts, the number settled, the memory behind the cells, and that what is found stays found
pub record Kept (s t : Core) : Type 0 where
  pub points : t.points ≡ s.points
  pub facts : t.facts ≡ s.facts
  pub size : t.size ≡ s.size
  pub settled : (inner t).settled ≡ (inner s).settled
  pub spare : spare t ≡ spare s
  pub stays : (c : ℕ) → 0 < (at (vec_items s.records) c).rank → 0 < (at (vec_items t.records) c).rank

-- only the row's ends moved
pub record Moved (s t : Core) : Type 0 where
  pub records : t.records ≡ s.records
  pub points : t.points ≡ s.points
  pub facts : t.facts ≡ s.facts
  pub size : t.size ≡ s.size

-- the table has the points and the facts that are handed in
pub record Serves (h : Handed) (t : Core) : Type 0 where
  pub points : t.points ≡ h.points
  pub facts : t.facts ≡ h.facts
