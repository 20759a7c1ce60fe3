-- A table of found cells: when each is justified, and when nothing is left to find.
use Rattle.std.specs.Prelude.{◌≡◌, ℕ, ◌+◌, ◌*◌, ◌<◌, T, Some}
use Rattle.listing.specs.declared.numbers.Cell.{Cell}
use Rattle.listing.specs.declared.numbers.Proc.{Proc}
use Rattle.listing.specs.declared.statement.Statement.{Statement}
use Rattle.listing.specs.declared.statement.Statement.TheVariants.{Call, Ret}
use Rattle.flow.specs.Relation.{Rule}
use Rattle.moves.specs.declared.moves.Kind.{Kind}
use Rattle.moves.specs.declared.moves.Kind.TheVariants as kind
use Rattle.paths.specs.Supergraph.{Supergraph, Follows, by_step, by_past, by_call, by_return}

-- cell (n, a, d): point, fact at the procedure's entry, fact
pub record TableCell : Type 0 where
  pub point : ℕ
  pub origin : ℕ
  pub fact : ℕ

-- the cell (n, a, d)
abbrev pub cell : ℕ → ℕ → ℕ → TableCell
cell n a d = record { point = n; origin = a; fact = d }

-- the number of a cell, where there are F facts
abbrev pub number_of : ℕ → TableCell → ℕ
number_of F c = (c.point * F + c.origin) * F + c.fact

-- a record of the table: rank 0 is not found
pub record Entry : Type 0 where
  pub rank : ℕ
  pub kind : Kind
  pub first : TableCell
  pub second : TableCell

-- a record for each cell
abbrev pub Table : Type 0
Table = TableCell → Entry

-- the cell (n, a, d) is found
abbrev pub Found : Table → ℕ → ℕ → ℕ → Type 0
Found t n a d = 0 < (t (cell n a d)).rank

-- found, and before the cell of rank r was
abbrev pub Before : Table → ℕ → ℕ → ℕ → ℕ → Type 0
Before t r n a d = (0 < (t (cell n a d)).rank) × ((t (cell n a d)).rank < r)

module _ (P : Supergraph) (Q : Rule) (Start : ℕ → ℕ → Type 0) where
  -- `Why t r k first second n a d`: the cell (n, a, d) follows by a move of kind k from first, and for a return from second too,
  -- which were found before rank r
  pub data Why (t : Table) (r : ℕ) : Kind → TableCell → TableCell → ℕ → ℕ → ℕ → Type 0 where
    as_start : {p d : ℕ} → P.proc (P.entry p) ≡ p → Start p d
        → Why t r kind.Start (cell 0 0 0) (cell 0 0 0) (P.entry p) d d
    as_step : {n a d m e : ℕ} (s : Statement Cell) → Before t r n a d
        → P.at n ≡ Some s → Follows n s m → T (by_step Q n s d e)
        → Why t r kind.Step (cell n a d) (cell 0 0 0) m a e
    as_past : {n a d e : ℕ} (D : Cell) (q : Proc) (S : Cell) → Before t r n a d
        → P.at n ≡ Some (Call D q S) → T (by_past Q n (Call D q S) d e)
        → Why t r kind.Past (cell n a d) (cell 0 0 0) (n + 1) a e
    as_call : {n a d e : ℕ} (D : Cell) (q : Proc) (S : Cell) → Before t r n a d
        → P.at n ≡ Some (Call D q S) → T (by_call Q n (Call D q S) d e)
        → Why t r kind.Call (cell n a d) (cell 0 0 0) (P.entry q.0) e e
    as_return : {c b f e z y : ℕ} (D : Cell) (q : Proc) (S V : Cell) → Before t r c b f → Before t r (P.exit q.0) e z
        → P.at c ≡ Some (Call D q S) → P.at (P.exit q.0) ≡ Some (Ret V)
        → T (by_call Q c (Call D q S) f e) → T (by_return Q c (Call D q S) V z y)
        → Why t r kind.Return (cell c b f) (cell (P.exit q.0) e z) (c + 1) b y

  -- each found cell is justified by its record
  abbrev pub Justified : Table → Type 0
  Justified t = (n a d : ℕ) → Found t n a d
      → Why t (t (cell n a d)).rank (t (cell n a d)).kind (t (cell n a d)).first (t (cell n a d)).second n a d

  -- accepted starts are found, and what follows from found cells by the rules of settling is found
  pub record Closed (t : Table) : Type 0 where
    pub starts : (p d : ℕ) → Start p d → Found t (P.entry p) d d
    pub steps : (n a d m e : ℕ) (s : Statement Cell) → Found t n a d
        → P.at n ≡ Some s → Follows n s m → T (by_step Q n s d e) → Found t m a e
    pub pasts : (n a d e : ℕ) (D : Cell) (q : Proc) (S : Cell) → Found t n a d
        → P.at n ≡ Some (Call D q S) → T (by_past Q n (Call D q S) d e) → Found t (n + 1) a e
    pub calls : (n a d e : ℕ) (D : Cell) (q : Proc) (S : Cell) → Found t n a d
        → P.at n ≡ Some (Call D q S) → T (by_call Q n (Call D q S) d e) → Found t (P.entry q.0) e e
    pub returns : (c b f e z y : ℕ) (D : Cell) (q : Proc) (S V : Cell) → Found t c b f → Found t (P.exit q.0) e z
        → P.at c ≡ Some (Call D q S) → P.at (P.exit q.0) ≡ Some (Ret V)
        → T (by_call Q c (Call D q S) f e) → T (by_return Q c (Call D q S) V z y) → Found t (c + 1) b y
