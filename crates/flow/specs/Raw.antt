-- Which cells may hold a raw reading.
use Rattle.std.specs.Prelude.{ℕ, Some, None, Option}
use Rattle.listing.specs.declared.numbers.Cell.{Cell}
use Rattle.listing.specs.declared.statement.Statement.{Statement}
use Rattle.listing.specs.declared.statement.Statement.TheVariants as statement
use Rattle.listing.specs.declared.cells.CellCounts.{CellCounts}
use Rattle.flow.specs.declared.origin.Origin.TheVariants.{Nothing, Zero, One, Two}
use Rattle.flow.specs.declared.origin.Transfer.{Transfer}
use Rattle.flow.specs.declared.edge.Edge.{Edge}
use Rattle.flow.specs.declared.edge.Edge.TheVariants.{Step, Past, Call, Return}
use Rattle.flow.specs.Origins.{ruled_in}
use Rattle.flow.specs.Relation.{Rule}

-- over a statement's step: the cell that it writes, and where its fact comes from
abbrev pub raw_step : Statement Cell → Option Transfer
raw_step (statement.Set d) = Some (record { to = d; from = Nothing })
raw_step (statement.Move d s) = Some (record { to = d; from = One s })
raw_step (statement.Add d s t) = Some (record { to = d; from = Two s t })
raw_step (statement.Read d) = Some (record { to = d; from = Zero })
raw_step (statement.Send s) = None
raw_step (statement.Goto k) = None
raw_step (statement.Test s k) = None
raw_step (statement.Call d p s) = None
raw_step (statement.Ret s) = None
raw_step (statement.Trim d s) = Some (record { to = d; from = Nothing })

-- over an edge: the cell whose fact does not stay its own, and where it comes from; only a step has one
abbrev pub raw_transfer : Edge → Option Transfer
raw_transfer (Step n s) = raw_step s
raw_transfer (Past n s) = None
raw_transfer (Call n s) = None
raw_transfer (Return n s v) = None

-- which cells may hold a raw reading, of g globals and l locals: of the callee's locals, all but the first follow from nothing
abbrev pub raw_in : ℕ → ℕ → Rule
raw_in g l = ruled_in g l raw_transfer Nothing

-- the same over a program's counts of cells
abbrev pub raw : CellCounts → Rule
raw c = raw_in c.globals c.locals
