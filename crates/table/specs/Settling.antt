-- What settling finds, in the parts in which it is done.
use Rattle.std.specs.Prelude.{◌≡◌, ℕ, ◌+◌, ◌*◌, ◌<◌, ◌≤◌, true, Some, None, Option}
use Rattle.fact_set.specs.Sets.{has}
use Rattle.fact_set.specs.declared.FactSet.{FactSet}
use Rattle.listing.specs.Meaning.{Meaning, flow, size, procs, statement_at}
use Rattle.listing.specs.Procedures.{entry, exit}
use Rattle.listing.specs.declared.numbers.Point.{Point}
use Rattle.listing.specs.declared.numbers.Proc.{Proc}
use Rattle.listing.specs.declared.statement.Statement.TheVariants.{Ret}
use Rattle.listing.specs.declared.numbers.Cell.{Cell}
use Rattle.listing.specs.declared.statement.Statement.{Statement}
use Rattle.flow.specs.declared.edge.Edge.{Edge}
use Rattle.flow.specs.declared.edge.Edge.TheVariants as edge
use Rattle.flow.specs.Relation.{Rule}
use Rattle.moves.specs.declared.moves.Kind.TheVariants as kind
use Rattle.paths.specs.Machine.{both}
use Rattle.paths.specs.Supergraph.{successors, Follows}
use Rattle.paths.specs.Table.{cell, number_of}
use Rattle.paths.specs.Tabled.{Tabled, find, is_found, each, each_of, where_yes}
use Rattle.table.specs.Leads.{kind_of, first_of, second_of}
use Rattle.table.specs.State.{inner, cell_of, block_of, Inside, Found}
use Rattle.table.specs.declared.sites.Callee.{Callee}
use Rattle.table.specs.declared.sites.CallSite.{CallSite}
use Rattle.table.specs.declared.sites.Lead.{Lead}
use Rattle.table.specs.declared.sites.Lead.TheVariants as lead
use Rattle.table.specs.declared.sites.ReturnSite.{ReturnSite}
use Rattle.table.specs.declared.sites.Site.{Site}
use Rattle.table.specs.declared.state.Core.{Core}

-- a site stands in the table: its cell is the table's, has that number, and is found
pub record Stands (t : Core) (x : Site) : Type 0 where
  pub inside : Inside t x.spot
  pub number : x.cell ≡ number_of t.facts (cell_of x.spot)
  pub found : Found t x.cell

-- the successors of the statement s at point n are points below N
pub record Onward (N n : ℕ) (s : Statement Cell) : Type 0 where
  pub below : (m : ℕ) → Follows n s m → m < N

-- the callee is entered and left at points below N
pub record Callable (N : ℕ) (q : Callee) : Type 0 where
  pub entry : q.entry.0 < N
  pub exit : q.exit.0 < N

-- the entry of procedure p is a point of the program
pub record Entered (m : Meaning) (p : Proc) (n : Point) : Type 0 where
  pub below : p.0 < procs m
  pub entry : n.0 ≡ entry (flow m) p.0
  pub within : n.0 < size m

-- a procedure of the program is entered so; there is no other
abbrev pub Enters : Meaning → Proc → Option Point → Type 0
Enters m p None = procs m ≤ p.0
Enters m p (Some n) = Entered m p n

-- the callee is what procedure p of the program is
pub record Called (m : Meaning) (p : Proc) (q : Callee) : Type 0 where
  pub below : p.0 < procs m
  pub entry : q.entry.0 ≡ entry (flow m) p.0
  pub exit : q.exit.0 ≡ exit (flow m) p.0
  pub result : statement_at m q.exit ≡ Some (Ret q.result)

-- a procedure of the program is called so; there is no other
abbrev pub Calls : Meaning → Proc → Option Callee → Type 0
Calls m p None = procs m ≤ p.0
Calls m p (Some q) = Called m p q

-- a call stands in the table: so does its site, a point follows it, and its callee is of the table
pub record CallStands (t : Core) (x : CallSite) : Type 0 where
  pub site : Stands t x.site
  pub next : x.site.spot.point.0 + 1 < t.points
  pub callee : Callable t.points x.callee

-- and its callee is entered with a fact of the table
pub record EntryStands (t : Core) (x : CallSite) (e : ℕ) : Type 0 where
  pub call : CallStands t x
  pub fact : e < t.facts

-- an exit and a call stand in the table: so does the exit's site, and a point follows the call
pub record ReturnStands (t : Core) (x : ReturnSite) : Type 0 where
  pub exit : Stands t x.exit
  pub next : x.caller.at.0 + 1 < t.points

-- the cell of the callee's entry with the fact e is found from the call x
abbrev pub finds_entry : ℕ → CallSite → ℕ → Tabled → Tabled
finds_entry F x e = find kind.Call x.site.cell 0 (number_of F (cell x.callee.entry.0 e e))

-- the cell of block b with the fact e is found, where e is in the set s
abbrev pub finds_one : ℕ → FactSet → Lead → ℕ → ℕ → Tabled → Tabled
finds_one F s by b e = where_yes (has s e) (find (kind_of by) (first_of by) (second_of by) (b * F + e))

-- the cells of block b with the facts of a set are found, in ascending order
abbrev pub finds : ℕ → FactSet → Lead → ℕ → Tabled → Tabled
finds F s by b = each F (finds_one F s by b)

-- every fact of the set has its cell of block b found
abbrev pub AllFound : FactSet → ℕ → Core → Type 0
AllFound s b t = (e : ℕ) → e < t.facts → has s e ≡ true → is_found (b * t.facts + e) (inner t) ≡ true

-- every fact of the set has its cell of point n found, under every origin
abbrev pub HasAll : FactSet → ℕ → Core → Type 0
HasAll s n t = (b : ℕ) → b < t.facts → AllFound s (block_of t.facts n b) t

-- back from an exit cell, with the facts of the set y, to the cell of a call under the origin b with the fact f, where that is found and
-- f is in the set x
abbrev pub returns_one : ℕ → FactSet → FactSet → ReturnSite → ℕ → ℕ → Tabled → Tabled
returns_one F x y s b f t = where_yes (both (is_found (number_of F (cell s.caller.at.0 b f)) t) (has x f))
    (finds F y (lead.Return (number_of F (cell s.caller.at.0 b f)) s.exit.cell) (block_of F (s.caller.at.0 + 1) b)) t

-- back to the cells of a call under the origin b, with every fact of x
abbrev pub returns_block : ℕ → FactSet → FactSet → ReturnSite → ℕ → Tabled → Tabled
returns_block F x y s b = each F (returns_one F x y s b)

-- back to the cells of a call, under every origin
abbrev pub returns : ℕ → FactSet → FactSet → ReturnSite → Tabled → Tabled
returns F x y s = each F (returns_block F x y s)

-- over the edge x from fact d, every fact that follows has its cell of point m under the origin a found
abbrev pub AllSpread : Rule → Edge → ℕ → ℕ → ℕ → Core → Type 0
AllSpread Q x d m a t = (e : ℕ) → e < t.facts → Q x d e ≡ true → is_found (number_of t.facts (cell m a e)) (inner t) ≡ true

-- to the call all has come back that its callee could give from the fact z
abbrev pub IsBack : Rule → CallSite → ℕ → Core → Type 0
IsBack Q x z t = AllSpread Q (edge.Return x.site.spot.point x.site.statement x.callee.result) z (x.site.spot.point.0 + 1) x.site.spot.origin.0 t

-- to the call all has come back that its callee could give from the facts of a set
abbrev pub AreBack : Rule → CallSite → FactSet → Core → Type 0
AreBack Q x s t = (z : ℕ) → has s z ≡ true → IsBack Q x z t

module _ (Q : Rule) (F : ℕ) where
  -- over the edge x from fact d: the cell of point m and fact e, under the origin a, where e follows
  abbrev pub spread_fact : Edge → ℕ → Lead → ℕ → ℕ → ℕ → Tabled → Tabled
  spread_fact x d by m a e = where_yes (Q x d e) (find (kind_of by) (first_of by) (second_of by) (number_of F (cell m a e)))

  -- the cells of every fact that follows
  abbrev pub spread : Edge → ℕ → Lead → ℕ → ℕ → Tabled → Tabled
  spread x d by m a = each F (spread_fact x d by m a)

  -- from a site to one of its successors
  abbrev pub step_to : Site → ℕ → Tabled → Tabled
  step_to x m = spread (edge.Step x.spot.point x.statement) x.spot.fact.0 (lead.Step x.cell) m x.spot.origin.0

  -- from a site to each of its successors
  abbrev pub steps : Site → Tabled → Tabled
  steps x = each_of (successors x.spot.point.0 x.statement) (step_to x)

  -- past a call
  abbrev pub passes : CallSite → Tabled → Tabled
  passes x = spread (edge.Past x.site.spot.point x.site.statement) x.site.spot.fact.0 (lead.Past x.site.cell) (x.site.spot.point.0 + 1) x.site.spot.origin.0

  -- back to a call from the cell (exit, e, z) of its callee, where that is found
  abbrev pub comes_back : CallSite → ℕ → ℕ → Tabled → Tabled
  comes_back x e z t = where_yes (is_found (number_of F (cell x.callee.exit.0 e z)) t)
      (spread (edge.Return x.site.spot.point x.site.statement x.callee.result) z (lead.Return x.site.cell (number_of F (cell x.callee.exit.0 e z))) (x.site.spot.point.0 + 1) x.site.spot.origin.0) t

  -- back to a call from every found cell of its callee's exit under the origin e
  abbrev pub all_come_back : CallSite → ℕ → Tabled → Tabled
  all_come_back x e = each F (comes_back x e)

  -- into the callee with the fact e, and at once back from where the callee has got with it
  abbrev pub enters_at : CallSite → ℕ → Tabled → Tabled
  enters_at x e t = all_come_back x e (finds_entry F x e t)

  -- the same where the fact follows
  abbrev pub enters : CallSite → ℕ → Tabled → Tabled
  enters x e = where_yes (Q (edge.Call x.site.spot.point x.site.statement) x.site.spot.fact.0 e) (enters_at x e)

  -- into the callee with every fact that follows
  abbrev pub all_enter : CallSite → Tabled → Tabled
  all_enter x = each F (enters x)

  -- from an exit cell to a call: to its cell (at, b, f), where that is found and the exit's origin follows from f
  abbrev pub answers_cell : ReturnSite → ℕ → ℕ → Tabled → Tabled
  answers_cell x b f t = where_yes (both (is_found (number_of F (cell x.caller.at.0 b f)) t) (Q (edge.Call x.caller.at x.caller.statement) f x.exit.spot.origin.0))
      (spread (edge.Return x.caller.at x.caller.statement x.caller.result) x.exit.spot.fact.0 (lead.Return (number_of F (cell x.caller.at.0 b f)) x.exit.cell) (x.caller.at.0 + 1) b) t

  -- from an exit cell to the cells of a call under the origin b
  abbrev pub answers_row : ReturnSite → ℕ → Tabled → Tabled
  answers_row x b = each F (answers_cell x b)

  -- from an exit cell to the cells of a call, under every origin
  abbrev pub answers : ReturnSite → Tabled → Tabled
  answers x = each F (answers_row x)
