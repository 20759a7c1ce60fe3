use Rattle.table.specs.State.{state}
use Rattle.report.proofs.Lengths.{Counted}
use Rattle.report.proofs.length.report_len.Given as goal

abbrev pub invariant-loop-number : goal.invariant-loop-number
invariant-loop-number g l = Counted (state l.table) l.number l.pairs l.bytes
