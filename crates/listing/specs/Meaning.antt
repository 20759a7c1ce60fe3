-- What a program means: its counts of cells and its list of statements.
use Rattle.std.specs.Prelude.{ℕ, cond, List, map, length, Some, None, Option, nat_lt}
use Rattle.std.specs.List.{slice_get}
use Rattle.listing.specs.declared.numbers.Cell.{Cell}
use Rattle.listing.specs.declared.numbers.Point.{Point}
use Rattle.listing.specs.declared.numbers.Proc.{Proc}
use Rattle.listing.specs.declared.control.Control.{Control}
use Rattle.listing.specs.declared.counts.Counts.{Counts}
use Rattle.listing.specs.declared.statement.Statement.{Statement}
use Rattle.listing.specs.Statements.{controlled}
use Rattle.listing.specs.Procedures.{rets, procedure, entry, exit}

-- a meaning: G, L, and the statements over numbered cells
pub record Meaning : Type 0 where
  pub globals : ℕ
  pub locals : ℕ
  pub statements : List (Statement Cell)

-- the flow of control, point by point
abbrev pub flow : Meaning → List Control
flow m = map controlled m.statements

-- N
abbrev pub size : Meaning → ℕ
size m = length m.statements

-- P
abbrev pub procs : Meaning → ℕ
procs m = rets (flow m)

-- G, L, N and P
abbrev pub totals : Meaning → Counts
totals m = record { globals = m.globals; locals = m.locals; points = size m; procedures = procs m }

-- the point with a number
abbrev pub point : ℕ → Point
point n = record { 0 = n }

-- the procedure with a number
abbrev pub proc : ℕ → Proc
proc p = record { 0 = p }

-- x where k is below n, else none
abbrev pub below : {A : Type 0} → ℕ → ℕ → A → Option A
below k n x = cond (nat_lt k n) (Some x) None

-- the statement at a point; none from N on
abbrev pub statement_at : Meaning → Point → Option (Statement Cell)
statement_at m n = slice_get m.statements n.0

-- the procedure of a point; none from N on
abbrev pub procedure_at : Meaning → Point → Option Proc
procedure_at m n = below n.0 (size m) (proc (procedure (flow m) n.0))

-- the entry of a procedure; none from P on
abbrev pub entry_of : Meaning → Proc → Option Point
entry_of m p = below p.0 (procs m) (point (entry (flow m) p.0))

-- the exit of a procedure; none from P on
abbrev pub exit_of : Meaning → Proc → Option Point
exit_of m p = below p.0 (procs m) (point (exit (flow m) p.0))
