-- Problems about cells: F = G + L + 1, and fact c + 1 speaks of cell c.
use Rattle.std.specs.Prelude.{ℕ, zero, suc, ◌+◌, ◌-◌, cond, List, [], ◌∷◌, Some, None, Option, ◌==◌, nat_lt}
use Rattle.listing.specs.declared.numbers.Cell.{Cell}
use Rattle.listing.specs.Meaning.{proc}
use Rattle.listing.specs.declared.cells.CellCounts.{CellCounts}
use Rattle.flow.specs.declared.interface.Start.{Start}

-- F: zero, and one fact for each of g globals and l locals
abbrev pub facts_in : ℕ → ℕ → ℕ
facts_in g l = g + l + 1

-- F for a program's counts of cells
abbrev pub facts_of : CellCounts → ℕ
facts_of c = facts_in c.globals c.locals

-- the cell that a fact speaks of, however many facts there are; zero speaks of none
abbrev pub spoken_of : ℕ → Option Cell
spoken_of d = cond (d == 0) None (Some (record { 0 = d - 1 }))

-- the cell that a fact speaks of, of g globals and l locals; zero and facts from F on speak of none
abbrev pub spoken_in : ℕ → ℕ → ℕ → Option Cell
spoken_in g l d = cond (d == 0) None (cond (nat_lt d (facts_in g l)) (Some (record { 0 = d - 1 })) None)

-- the cell that a fact speaks of, of a program's cells
abbrev pub spoken : CellCounts → ℕ → Option Cell
spoken c = spoken_in c.globals c.locals

-- procedure 0 with a fact
abbrev pub from_first : ℕ → Start
from_first d = record { procedure = proc 0; fact = record { 0 = d } }

-- procedure 0 with each of k facts, from d on
abbrev pub from_each : ℕ → ℕ → List Start
from_each d zero = []
from_each d (suc k) = from_first d ∷ from_each (d + 1) k
