-- Where the facts of cells come from, over each kind of edge.
use Rattle.std.specs.Prelude.{ℕ, ◌+◌, Bool, false, cond, not, ◌&&◌, ◌||◌, Some, None, Option, ◌==◌, nat_le, nat_lt}
use Rattle.listing.specs.declared.cells.CellCounts.{CellCounts}
use Rattle.listing.specs.declared.numbers.Cell.{Cell}
use Rattle.listing.specs.declared.statement.Statement.{Statement}
use Rattle.listing.specs.declared.statement.Statement.TheVariants.{Set, Move, Add, Read, Send, Goto, Test, Call, Ret, Trim}
use Rattle.flow.specs.CellFacts.{facts_in}
use Rattle.flow.specs.Relation.{Rule, guarded}
use Rattle.flow.specs.declared.edge.Edge.{Edge}
use Rattle.flow.specs.declared.edge.Edge.TheVariants as edge
use Rattle.flow.specs.declared.origin.Origin.{Origin}
use Rattle.flow.specs.declared.origin.Origin.TheVariants.{Nothing, Zero, One, Two}
use Rattle.flow.specs.declared.origin.Transfer.{Transfer}

-- fact e speaks of cell c
abbrev pub speaks : ℕ → Cell → Bool
speaks e c = e == c.0 + 1

-- whether a fact of this origin follows from d
abbrev pub comes : Origin → ℕ → Bool
comes Nothing d = false
comes Zero d = d == 0
comes (One a) d = speaks d a
comes (Two a b) d = speaks d a || speaks d b

-- over a step: the fact of the cell that has a transfer follows from its origin, every other from itself alone
abbrev pub carried : Option Transfer → ℕ → ℕ → Bool
carried None d e = d == e
carried (Some w) d e = cond (speaks e w.to) (comes w.from d) (d == e)

-- the cells of a call: the one that gets the result, and the argument
pub record Site : Type 0 where
  pub to : Cell
  pub argument : Cell

-- the cells of a statement that is a call; another has none
abbrev pub site : Statement Cell → Option Site
site (Set d) = None
site (Move d s) = None
site (Add d s t) = None
site (Read d) = None
site (Send s) = None
site (Goto k) = None
site (Test s k) = None
site (Call d p s) = Some (record { to = d; argument = s })
site (Ret s) = None
site (Trim d s) = None

-- a test of the cells of a call; no where there is no call
abbrev pub at_call : Option Site → (Site → Bool) → Bool
at_call None test = false
at_call (Some c) test = test c

-- past a call: a local other than D keeps its own; D and the globals follow from nothing
abbrev pub passed : ℕ → Statement Cell → ℕ → ℕ → Bool
passed g s d e = at_call (site s) (λ c. not (speaks e c.to) && (nat_lt g e && d == e))

-- into the callee: a global's follows from itself, local 0's from the argument's, another local's as its origin says
abbrev pub entered : ℕ → Origin → Statement Cell → ℕ → ℕ → Bool
entered g local s d e = at_call (site s) (λ c. cond (nat_le e g) (d == e) (cond (e == g + 1) (speaks d c.argument) (comes local d)))

-- back from the callee, which returns v: D's follows from v's; a global other than D keeps its own; every other local's follows from nothing
abbrev pub returned : ℕ → Statement Cell → Cell → ℕ → ℕ → Bool
returned g s v d e = at_call (site s) (λ c. cond (speaks e c.to) (speaks d v) (nat_le e g && d == e))

-- nonzero e, over an edge, where it has this transfer, and a callee's locals but the first have this origin
abbrev pub over : ℕ → Option Transfer → Origin → Edge → ℕ → ℕ → Bool
over g transfer local (edge.Step n s) d e = carried transfer d e
over g transfer local (edge.Past n s) d e = passed g s d e
over g transfer local (edge.Call n s) d e = entered g local s d e
over g transfer local (edge.Return n s v) d e = returned g s v d e

-- a relation between the facts of g globals and l locals, by the transfers of edges and the origin of a callee's locals but the first
abbrev pub ruled_in : ℕ → ℕ → (Edge → Option Transfer) → Origin → Rule
ruled_in g l transfers local = guarded (facts_in g l) (λ x. over g (transfers x) local x)

-- the same over a program's counts of cells
abbrev pub ruled : CellCounts → (Edge → Option Transfer) → Origin → Rule
ruled c transfers local = ruled_in c.globals c.locals transfers local
