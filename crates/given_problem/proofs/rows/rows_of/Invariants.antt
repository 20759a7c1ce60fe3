use Rattle.std.proofs.Common.{◌≡◌}
use Rattle.given_problem.specs.Rows.{first_rows}
use Rattle.given_problem.proofs.rows.rows_of.Given as goal

-- the rows so far
abbrev pub invariant-loop-row : goal.invariant-loop-row
invariant-loop-row l = l.rows.items ≡ first_rows l.bytes l.row
