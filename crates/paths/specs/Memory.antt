-- A table in memory: a record for each cell, by the cell's number.
use Rattle.std.specs.Prelude.{◌≡◌, ℕ, zero, suc, ◌*◌, ◌<◌, ◌≤◌, List, length, slice_index_or, slice_set}
use Rattle.moves.specs.Words.{code}
use Rattle.paths.specs.Table.{TableCell, number_of, Entry, Table}
use Rattle.paths.specs.Machine.{put}

-- a record as memory holds it, with the numbers of its kind and its cells
pub record Rec : Type 0 where
  pub rank : ℕ
  pub kind : ℕ
  pub first : ℕ
  pub second : ℕ

-- a cleared record
abbrev pub blank : Rec
blank = record { rank = 0; kind = 0; first = 0; second = 0 }

-- the record of an entry whose rank is r: cleared where the cell is not found
abbrev pub written_at : ℕ → ℕ → Entry → Rec
written_at F zero e = blank
written_at F (suc r) e = record { rank = suc r; kind = code e.kind; first = number_of F e.first; second = number_of F e.second }

-- the record of an entry
abbrev pub written : ℕ → Entry → Rec
written F e = written_at F e.rank e

-- the cell is one of N points and F facts
abbrev pub InRange : ℕ → ℕ → TableCell → Type 0
InRange N F c = (c.point < N) × (c.origin < F) × (c.fact < F)

-- memory has room for each cell, and holds its record
pub record Holds (N F : ℕ) (mem : List Rec) (t : Table) : Type 0 where
  pub room : N * F * F ≤ length mem
  pub each_cell : (c : TableCell) → InRange N F c → slice_index_or mem (number_of F c) blank ≡ written F (t c)

-- writing the record of a cell in range is `put`, and touches nothing else
abbrev pub Writes : Type 0
Writes = (N F : ℕ) (mem : List Rec) (t : Table) (c : TableCell) (e : Entry) → Holds N F mem t → InRange N F c
    → Holds N F (slice_set mem (number_of F c) (written F e)) (put t c e)
