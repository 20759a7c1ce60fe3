-- What stands at a point of a program.
use Rattle.std.specs.Prelude.{Some, None, Option}
use Rattle.listing.specs.declared.numbers.Cell.{Cell}
use Rattle.listing.specs.declared.numbers.Proc.{Proc}
use Rattle.listing.specs.declared.statement.Statement.{Statement}
use Rattle.listing.specs.declared.statement.Statement.TheVariants.{Call}
use Rattle.paths.specs.Machine.{Shape, straight, calling, returning, nothing, shape}

-- a call and its callee, by the shape of what stands at a point
abbrev pub called_by : Shape → Option (Statement Cell × Proc)
called_by (straight s) = None
called_by (calling D q S) = Some (Call D q S, q)
called_by (returning V) = None
called_by nothing = None

-- the call at a point and its callee, if one stands there
abbrev pub called : Option (Statement Cell) → Option (Statement Cell × Proc)
called s = called_by (shape s)

-- the cell of a `ret`, by the shape of what stands at a point
abbrev pub returned_by : Shape → Option Cell
returned_by (straight s) = None
returned_by (calling D q S) = None
returned_by (returning V) = Some V
returned_by nothing = None

-- the cell of the `ret` at a point, if one stands there
abbrev pub returned : Option (Statement Cell) → Option Cell
returned s = returned_by (shape s)
