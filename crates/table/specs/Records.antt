-- What a record holds, and what writing one does to a memory of records.
use Rattle.std.specs.Prelude.{ℕ, ◌+◌, Bool, true, false, cond, List, [], ◌∷◌, set, Some, None, Option, ◌==◌, slice_index_or, slice_set}
use Rattle.moves.specs.declared.moves.Kind.{Kind}
use Rattle.moves.specs.declared.moves.Kind.TheVariants as kind
use Rattle.fact_set.specs.declared.FactSet.{FactSet}
use Rattle.records.specs.Blank.{blank}
use Rattle.records.specs.declared.record.Record.{Record}

-- the record with the number c
abbrev pub at : List Record → ℕ → Record
at rs c = slice_index_or rs c blank

-- 1 for a record of rank k
abbrev pub has_rank : ℕ → Record → ℕ
has_rank k r = cond (r.rank == k) 1 0

-- how many of the records have rank k
abbrev pub holders : ℕ → List Record → ℕ
holders k [] = 0
holders k (r ∷ rs) = has_rank k r + holders k rs

-- a cell that was found so was found from the cell `first`
abbrev pub leans_first : Option Kind → Bool
leans_first None = false
leans_first (Some kind.Start) = false
leans_first (Some kind.Step) = true
leans_first (Some kind.Past) = true
leans_first (Some kind.Call) = true
leans_first (Some kind.Return) = true

-- and from the cell `second`
abbrev pub leans_second : Option Kind → Bool
leans_second None = false
leans_second (Some kind.Start) = false
leans_second (Some kind.Step) = false
leans_second (Some kind.Past) = false
leans_second (Some kind.Call) = false
leans_second (Some kind.Return) = true

-- the same record with another number in the table's own slot
abbrev pub slotted : Record → ℕ → Record
slotted r k = record { rank = r.rank; kind = r.kind; first = r.first; second = r.second; slot = k; found = r.found }

-- the record of a found cell, whose own fields stay
abbrev pub written : Record → ℕ → Kind → ℕ → ℕ → Record
written r rank kind first second = record { rank = rank; kind = Some kind; first = first; second = second; slot = r.slot; found = r.found }

-- the same record with another set of found facts
abbrev pub noted : Record → FactSet → Record
noted r s = record { rank = r.rank; kind = r.kind; first = r.first; second = r.second; slot = r.slot; found = s }

-- the memory with another set of found facts in record b
abbrev pub marked : List Record → ℕ → FactSet → List Record
marked rs b s = slice_set rs b (noted (at rs b) s)

-- the memory after a cell is written and its number put into the slot at `tail`
abbrev pub entered : List Record → ℕ → ℕ → Kind → ℕ → ℕ → ℕ → List Record
entered rs cell rank kind first second tail =
    let ws = set rs cell (written (at rs cell) rank kind first second) in
    slice_set ws tail (slotted (at ws tail) cell)
