-- The table's state, and what finding, sowing and settling make of it.
use Rattle.std.specs.Prelude.{ℕ, zero, suc, ◌+◌, Bool, true, false, cond, List, [], ◌∷◌, ◌++◌, Some, None, Option, ◌==◌, nat_lt}
use Rattle.listing.specs.declared.numbers.Cell.{Cell}
use Rattle.listing.specs.declared.numbers.Proc.{Proc}
use Rattle.listing.specs.declared.statement.Statement.{Statement}
use Rattle.listing.specs.declared.statement.Statement.TheVariants.{Set, Move, Add, Read, Send, Goto, Test, Call, Ret, Trim}
use Rattle.flow.specs.Relation.{Rule}
use Rattle.moves.specs.declared.moves.Kind.{Kind}
use Rattle.moves.specs.declared.moves.Kind.TheVariants as kind
pub use Rattle.paths.specs.declared.worklist.End.{End}
pub use Rattle.paths.specs.declared.worklist.End.TheVariants.{Oldest, Newest}
use Rattle.paths.specs.Supergraph.{successors, Supergraph, by_step, by_past, by_call, by_return}
use Rattle.paths.specs.Table.{TableCell, cell, Entry, Table}

-- both tests say yes
abbrev pub both : Bool → Bool → Bool
both true b = b
both false b = false

-- the cells agree in point, origin and fact
abbrev pub same_cell : TableCell → TableCell → Bool
same_cell c x = both (c.point == x.point) (both (c.origin == x.origin) (c.fact == x.fact))

-- the table with the record of one cell written
abbrev pub put : Table → TableCell → Entry → Table
put t c e x = cond (same_cell c x) e (t x)

-- the table, how many cells are found, those that wait, the oldest first, and how many are settled
pub record State : Type 0 where
  pub table : Table
  pub found : ℕ
  pub waiting : List TableCell
  pub settled : ℕ

-- a cell number that is not named
abbrev pub no_cell : TableCell
no_cell = cell 0 0 0

-- a newly opened table: nothing is found
abbrev pub opened : State
opened = record { table = λ c. record { rank = 0; kind = kind.Start; first = no_cell; second = no_cell }; found = 0; waiting = []; settled = 0 }

-- finding a cell whose rank is r: where that is 0 the number found rises and is its rank, and it waits last
abbrev pub find_at : ℕ → Kind → TableCell → TableCell → TableCell → State → State
find_at zero k u v c st = record {
  table = put st.table c (record { rank = suc st.found; kind = k; first = u; second = v });
  found = suc st.found;
  waiting = st.waiting ++ (c ∷ []);
  settled = st.settled;
}
find_at (suc r) k u v c st = st

-- finding the cell c by kind k from u and v
abbrev pub find : Kind → TableCell → TableCell → TableCell → State → State
find k u v c st = find_at (st.table c).rank k u v c st

-- a loop over the numbers below k, ascending
abbrev pub each : ℕ → (ℕ → State → State) → State → State
each zero f st = st
each (suc k) f st = f k (each k f st)

-- a loop over a list, in its order
abbrev pub each_of : List ℕ → (ℕ → State → State) → State → State
each_of [] f st = st
each_of (m ∷ ms) f st = each_of ms f (f m st)

-- a step that is taken where a test says yes
abbrev pub where_yes : Bool → (State → State) → State → State
where_yes true f st = f st
where_yes false f st = st

-- whether a cell is found
abbrev pub is_found : TableCell → State → Bool
is_found c st = nat_lt 0 (st.table c).rank

-- the newest cell of the row whose oldest is c, and the row without it
abbrev pub newest_of : TableCell → List TableCell → TableCell × List TableCell
newest_of c [] = (c, [])
newest_of c (x ∷ xs) = ((newest_of x xs).0, c ∷ (newest_of x xs).1)

-- what is taken from the row with the oldest cell c, and what is left
abbrev pub taken : End → TableCell → List TableCell → TableCell × List TableCell
taken Oldest c cs = (c, cs)
taken Newest c cs = newest_of c cs

-- what settling asks of a statement
pub data Shape : Type 0 where
  straight : Statement Cell → Shape
  calling : (D : Cell) (p : Proc) (S : Cell) → Shape
  returning : (V : Cell) → Shape
  nothing : Shape

-- the shape of what stands at a point
abbrev pub shape : Option (Statement Cell) → Shape
shape None = nothing
shape (Some (Set D)) = straight (Set D)
shape (Some (Move D S)) = straight (Move D S)
shape (Some (Add D S T)) = straight (Add D S T)
shape (Some (Read D)) = straight (Read D)
shape (Some (Send S)) = straight (Send S)
shape (Some (Goto K)) = straight (Goto K)
shape (Some (Test S K)) = straight (Test S K)
shape (Some (Call D p S)) = calling D p S
shape (Some (Ret V)) = returning V
shape (Some (Trim D S)) = straight (Trim D S)

module _ (P : Supergraph) (Q : Rule) (N F : ℕ) where
  -- from the cell c of statement s: what each step finds
  abbrev pub step_each : Statement Cell → TableCell → State → State
  step_each s c = each_of (successors c.point s) (λ m.
      each F (λ e. where_yes (by_step Q c.point s c.fact e) (find kind.Step c no_cell (cell m c.origin e))))

  -- what is found past the call s at the cell c
  abbrev pub past_each : Statement Cell → TableCell → State → State
  past_each s c = each F (λ e. where_yes (by_past Q c.point s c.fact e) (find kind.Past c no_cell (cell (c.point + 1) c.origin e)))

  -- a call cell u of statement s with an exit cell x of the callee, whose `ret` cell is V: what returns
  abbrev pub return_each : Statement Cell → Cell → TableCell → TableCell → State → State
  return_each s V u x = each F (λ y. where_yes (by_return Q u.point s V x.fact y) (find kind.Return u x (cell (u.point + 1) u.origin y)))

  -- the same, by the shape of what stands at the exit
  abbrev pub return_by : Shape → Statement Cell → TableCell → TableCell → State → State
  return_by (straight _) s u x st = st
  return_by (calling _ _ _) s u x st = st
  return_by (returning V) s u x st = return_each s V u x st
  return_by nothing s u x st = st

  -- the exit cells (exit of q, e, z) that are found
  abbrev pub exit_each : Statement Cell → Proc → TableCell → ℕ → State → State
  exit_each s q c e = each F (λ z st.
      where_yes (is_found (cell (P.exit q.0) e z) st) (return_by (shape (P.at (P.exit q.0))) s c (cell (P.exit q.0) e z)) st)

  -- what is found in the callee q of s, and then what returns from where the callee has got already
  abbrev pub call_each : Statement Cell → Proc → TableCell → State → State
  call_each s q c = each F (λ e. where_yes (by_call Q c.point s c.fact e)
      (λ st. exit_each s q c e (find kind.Call c no_cell (cell (P.entry q.0) e e) st)))

  -- the cells (c, b, f) of the point c, where that is a call of x's procedure: each that is found, and from whose fact x's origin follows
  abbrev pub caller_by : Shape → Cell → ℕ → TableCell → State → State
  caller_by (straight _) V c x st = st
  caller_by (calling D p S) V c x st = where_yes (p.0 == P.proc x.point)
      (each F (λ b. each F (λ f st'. where_yes (both (is_found (cell c b f) st') (by_call Q c (Call D p S) f x.origin))
      (return_each (Call D p S) V (cell c b f) x) st'))) st
  caller_by (returning _) V c x st = st
  caller_by nothing V c x st = st

  -- what the exit cell x, whose `ret` cell is V, returns to each point
  abbrev pub caller_each : Cell → TableCell → State → State
  caller_each V x = each N (λ c. caller_by (shape (P.at c)) V c x)

  -- settling the cell c
  abbrev pub settle_by : Shape → TableCell → State → State
  settle_by (straight s) c st = step_each s c st
  settle_by (calling D q S) c st = call_each (Call D q S) q c (past_each (Call D q S) c st)
  settle_by (returning V) c st = caller_each V c st
  settle_by nothing c st = st

  -- settling the cell c, by what stands at its point
  abbrev pub settle : TableCell → State → State
  settle c st = settle_by (shape (P.at c.point)) c st

  -- sowing procedure p with fact d
  abbrev pub sow : ℕ → ℕ → State → State
  sow p d st = find kind.Start no_cell no_cell (cell (P.entry p) d d) st

  -- settling the cell that is taken out of the row
  abbrev pub take_out : TableCell × List TableCell → State → State
  take_out r st = settle r.0 (record { table = st.table; found = st.found; waiting = r.1; settled = suc st.settled })

  -- settling one cell of the row, if any waits
  abbrev pub work_one : End → List TableCell → State → State
  work_one end [] st = st
  work_one end (c ∷ cs) st = take_out (taken end c cs) st

  -- work: at most k cells
  abbrev pub work : ℕ → End → State → State
  work zero end st = st
  work (suc k) end st = work k end (work_one end st.waiting st)
