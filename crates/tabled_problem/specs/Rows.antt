-- A relation as a table of bits: for each point from 0 on, for each of the kinds step, past, call and return, a row for each of F facts.
-- A row is a number of 64 bits: bit e of row d says that fact e follows from fact d. Rows beyond the last are 0.
use Rattle.std.specs.Prelude.{ℕ, ◌+◌, ◌*◌, Bool, cond, ◌&&◌, ◌==◌, List, get_or, nat_lt, nat_le, Option, Some, None}
use Rattle.std.specs.Int.{bit_at}
use Rattle.listing.specs.declared.numbers.Fact.{Fact}
use Rattle.listing.specs.declared.numbers.Point.{Point}
use Rattle.flow.specs.Relation.{exists, Rule}
use Rattle.flow.specs.declared.edge.Edge.{Edge}
use Rattle.flow.specs.declared.edge.Edge.TheVariants.{Step, Past, Call, Return}

-- the point that an edge leaves; for a return, the call
abbrev pub point_left : Edge → Point
point_left (Step n s) = n
point_left (Past n s) = n
point_left (Call n s) = n
point_left (Return n s v) = n

-- the place of an edge's kind among the kinds of a point
abbrev pub place_of_kind : Edge → ℕ
place_of_kind (Step n s) = 0
place_of_kind (Past n s) = 1
place_of_kind (Call n s) = 2
place_of_kind (Return n s v) = 3

-- the row of a fact over an edge, counted from the first
abbrev pub row_number : ℕ → Edge → ℕ → ℕ
row_number f x d = ((point_left x).0 * 4 + place_of_kind x) * f + d

-- a bit of a row
abbrev pub bit_in : List ℕ → ℕ → ℕ → Bool
bit_in rows row bit = bit_at (get_or rows row 0) bit == 1

-- the relation of F facts that the rows give: facts from F on, and an edge that the statement lacks, are answered by no
abbrev pub tabled : List ℕ → ℕ → Rule
tabled rows f x d e = exists x && (nat_lt d f && (nat_lt e f && bit_in rows (row_number f x d) e))

-- so many facts may be given
abbrev pub count_in_range : ℕ → Bool
count_in_range f = nat_le 1 f && nat_le f 64

-- a fact below F stands for itself
abbrev pub itself : ℕ → ℕ → Option Fact
itself f d = cond (nat_lt d f) (Some (record { 0 = d })) None
