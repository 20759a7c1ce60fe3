-- The table as memory holds it, and what finding, sowing and settling make of it. Cells are their numbers.
use Rattle.std.specs.Prelude.{ℕ, zero, suc, ◌+◌, ◌*◌, ◌/◌, ◌%◌, Bool, true, false, List, [], ◌∷◌, ◌++◌, drop, replicate, ◌==◌, nat_lt, slice_index_or, slice_set}
use Rattle.listing.specs.declared.numbers.Cell.{Cell}
use Rattle.listing.specs.declared.numbers.Proc.{Proc}
use Rattle.listing.specs.declared.statement.Statement.{Statement}
use Rattle.listing.specs.declared.statement.Statement.TheVariants.{Call}
use Rattle.flow.specs.Relation.{Rule}
use Rattle.moves.specs.declared.moves.Kind.{Kind}
use Rattle.moves.specs.declared.moves.Kind.TheVariants as kind
use Rattle.moves.specs.Words.{code}
use Rattle.paths.specs.Supergraph.{successors, Supergraph, by_step, by_past, by_call, by_return}
use Rattle.paths.specs.Table.{TableCell, cell, number_of}
use Rattle.paths.specs.Machine.{both, Shape, straight, calling, returning, nothing, shape}
use Rattle.paths.specs.declared.worklist.End.{End}
use Rattle.paths.specs.declared.worklist.End.TheVariants.{Oldest, Newest}
use Rattle.paths.specs.Memory.{Rec, blank}

-- a table: N, F, the records by number, how many cells are found and settled, and the numbers of those that wait, the oldest first
pub record Tabled : Type 0 where
  pub points : ℕ
  pub facts : ℕ
  pub records : List Rec
  pub found : ℕ
  pub settled : ℕ
  pub waiting : List ℕ

-- the cell that has the number c
abbrev pub cell_at : ℕ → ℕ → TableCell
cell_at F c = cell (c / F / F) (c / F % F) (c % F)

-- the record of the cell that has the number c
abbrev pub record_at : Tabled → ℕ → Rec
record_at t c = slice_index_or t.records c blank

-- a table newly opened in a memory: as many records as there are cells are cleared, and the rest stay
abbrev pub newly_in : ℕ → ℕ → List Rec → Tabled
newly_in N F memory = record {
  points = N;
  facts = F;
  records = replicate (N * F * F) blank ++ drop (N * F * F) memory;
  found = 0;
  settled = 0;
  waiting = [];
}

-- finding the cell c, whose rank is r, by kind k from the cells u and v
abbrev pub find_at : ℕ → Kind → ℕ → ℕ → ℕ → Tabled → Tabled
find_at zero k u v c t = record {
  points = t.points;
  facts = t.facts;
  records = slice_set t.records c (record { rank = suc t.found; kind = code k; first = u; second = v });
  found = suc t.found;
  settled = t.settled;
  waiting = t.waiting ++ (c ∷ []);
}
find_at (suc r) k u v c t = t

-- finding the cell c by kind k from the cells u and v
abbrev pub find : Kind → ℕ → ℕ → ℕ → Tabled → Tabled
find k u v c t = find_at (record_at t c).rank k u v c t

-- whether the cell c is found
abbrev pub is_found : ℕ → Tabled → Bool
is_found c t = nat_lt 0 (record_at t c).rank

-- a loop over the numbers below k, ascending
abbrev pub each : ℕ → (ℕ → Tabled → Tabled) → Tabled → Tabled
each zero f t = t
each (suc k) f t = f k (each k f t)

-- a loop over a list, in its order
abbrev pub each_of : List ℕ → (ℕ → Tabled → Tabled) → Tabled → Tabled
each_of [] f t = t
each_of (m ∷ ms) f t = each_of ms f (f m t)

-- a step that is taken where a test says yes
abbrev pub where_yes : Bool → (Tabled → Tabled) → Tabled → Tabled
where_yes true f t = f t
where_yes false f t = t

-- the newest cell of the row whose oldest is c, and the row without it
abbrev pub newest_of : ℕ → List ℕ → ℕ × List ℕ
newest_of c [] = (c, [])
newest_of c (x ∷ xs) = ((newest_of x xs).0, c ∷ (newest_of x xs).1)

-- what is taken from the row with the oldest cell c, and what is left
abbrev pub taken : End → ℕ → List ℕ → ℕ × List ℕ
taken Oldest c cs = (c, cs)
taken Newest c cs = newest_of c cs

module _ (P : Supergraph) (Q : Rule) (N F : ℕ) where
  -- the number of a cell
  abbrev pub № : TableCell → ℕ
  № = number_of F

  -- from the cell c of statement s: what each step finds
  abbrev pub step_each : Statement Cell → TableCell → Tabled → Tabled
  step_each s c = each_of (successors c.point s) (λ m.
      each F (λ e. where_yes (by_step Q c.point s c.fact e) (find kind.Step (№ c) 0 (№ (cell m c.origin e)))))

  -- what is found past the call s at the cell c
  abbrev pub past_each : Statement Cell → TableCell → Tabled → Tabled
  past_each s c = each F (λ e. where_yes (by_past Q c.point s c.fact e) (find kind.Past (№ c) 0 (№ (cell (c.point + 1) c.origin e))))

  -- a call cell u of statement s with an exit cell x of the callee, whose `ret` cell is V: what returns
  abbrev pub return_each : Statement Cell → Cell → TableCell → TableCell → Tabled → Tabled
  return_each s V u x = each F (λ y. where_yes (by_return Q u.point s V x.fact y)
      (find kind.Return (№ u) (№ x) (№ (cell (u.point + 1) u.origin y))))

  -- the same, by the shape of what stands at the exit
  abbrev pub return_by : Shape → Statement Cell → TableCell → TableCell → Tabled → Tabled
  return_by (straight _) s u x t = t
  return_by (calling _ _ _) s u x t = t
  return_by (returning V) s u x t = return_each s V u x t
  return_by nothing s u x t = t

  -- the exit cells (exit of q, e, z) that are found
  abbrev pub exit_each : Statement Cell → Proc → TableCell → ℕ → Tabled → Tabled
  exit_each s q c e = each F (λ z t.
      where_yes (is_found (№ (cell (P.exit q.0) e z)) t) (return_by (shape (P.at (P.exit q.0))) s c (cell (P.exit q.0) e z)) t)

  -- what is found in the callee q of s, and then what returns from where the callee has got already
  abbrev pub call_each : Statement Cell → Proc → TableCell → Tabled → Tabled
  call_each s q c = each F (λ e. where_yes (by_call Q c.point s c.fact e)
      (λ t. exit_each s q c e (find kind.Call (№ c) 0 (№ (cell (P.entry q.0) e e)) t)))

  -- the cells (c, b, f) of the point c, where that is a call of x's procedure: each that is found, and from whose fact x's origin follows
  abbrev pub caller_by : Shape → Cell → ℕ → TableCell → Tabled → Tabled
  caller_by (straight _) V c x t = t
  caller_by (calling D p S) V c x t = where_yes (p.0 == P.proc x.point)
      (each F (λ b. each F (λ f t'. where_yes (both (is_found (№ (cell c b f)) t') (by_call Q c (Call D p S) f x.origin))
      (return_each (Call D p S) V (cell c b f) x) t'))) t
  caller_by (returning _) V c x t = t
  caller_by nothing V c x t = t

  -- what the exit cell x, whose `ret` cell is V, returns to each point
  abbrev pub caller_each : Cell → TableCell → Tabled → Tabled
  caller_each V x = each N (λ c. caller_by (shape (P.at c)) V c x)

  -- settling the cell c
  abbrev pub settle_by : Shape → TableCell → Tabled → Tabled
  settle_by (straight s) c t = step_each s c t
  settle_by (calling D q S) c t = call_each (Call D q S) q c (past_each (Call D q S) c t)
  settle_by (returning V) c t = caller_each V c t
  settle_by nothing c t = t

  -- settling the cell c, by what stands at its point
  abbrev pub settle : TableCell → Tabled → Tabled
  settle c t = settle_by (shape (P.at c.point)) c t

  -- the number of the cell that a start finds
  abbrev pub start_cell : ℕ → ℕ → ℕ
  start_cell p d = № (cell (P.entry p) d d)

  -- sowing procedure p with fact d
  abbrev pub sow : ℕ → ℕ → Tabled → Tabled
  sow p d t = find kind.Start 0 0 (start_cell p d) t

  -- settling the cell that is taken out of the row
  abbrev pub take_out : ℕ × List ℕ → Tabled → Tabled
  take_out r t = settle (cell_at F r.0) (record {
    points = t.points;
    facts = t.facts;
    records = t.records;
    found = t.found;
    settled = suc t.settled;
    waiting = r.1;
  })

  -- settling one cell of the row, if any waits
  abbrev pub work_one : End → List ℕ → Tabled → Tabled
  work_one end [] t = t
  work_one end (c ∷ cs) t = take_out (taken end c cs) t

  -- work: at most k cells
  abbrev pub work : ℕ → End → Tabled → Tabled
  work zero end t = t
  work (suc k) end t = work k end (work_one end t.waiting t)
