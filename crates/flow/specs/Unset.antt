-- Which cells may be unset.
use Rattle.std.specs.Prelude.{ℕ, Some, None, Option}
use Rattle.listing.specs.declared.numbers.Cell.{Cell}
use Rattle.listing.specs.declared.statement.Statement.{Statement}
use Rattle.listing.specs.declared.statement.Statement.TheVariants as statement
use Rattle.listing.specs.declared.cells.CellCounts.{CellCounts}
use Rattle.flow.specs.declared.origin.Origin.TheVariants.{Nothing, Zero, One, Two}
use Rattle.flow.specs.declared.origin.Transfer.{Transfer}
use Rattle.flow.specs.declared.edge.Edge.{Edge}
use Rattle.flow.specs.declared.edge.Edge.TheVariants.{Step, Past, Call, Return}
use Rattle.flow.specs.Origins.{ruled_in}
use Rattle.flow.specs.Relation.{Rule}

-- over a statement's step: the cell that it writes, and where its fact comes from
abbrev pub unset_step : Statement Cell → Option Transfer
unset_step (statement.Set d) = Some (record { to = d; from = Nothing })
unset_step (statement.Move d s) = Some (record { to = d; from = One s })
unset_step (statement.Add d s t) = Some (record { to = d; from = Two s t })
unset_step (statement.Read d) = Some (record { to = d; from = Nothing })
unset_step (statement.Send s) = None
unset_step (statement.Goto k) = None
unset_step (statement.Test s k) = None
unset_step (statement.Call d p s) = None
unset_step (statement.Ret s) = None
unset_step (statement.Trim d s) = Some (record { to = d; from = (One s) })

-- over an edge: the cell whose fact does not stay its own, and where it comes from; only a step has one
abbrev pub unset_transfer : Edge → Option Transfer
unset_transfer (Step n s) = unset_step s
unset_transfer (Past n s) = None
unset_transfer (Call n s) = None
unset_transfer (Return n s v) = None

-- which cells may be unset, of g globals and l locals: of the callee's locals, all but the first follow from zero
abbrev pub unset_in : ℕ → ℕ → Rule
unset_in g l = ruled_in g l unset_transfer Zero

-- the same over a program's counts of cells
abbrev pub unset : CellCounts → Rule
unset c = unset_in c.globals c.locals
