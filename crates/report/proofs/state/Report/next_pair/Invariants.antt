use Rattle.std.proofs.Common.{◌≡◌, ◌≤◌}
use Rattle.table.specs.State.{state}
use Rattle.report.specs.Pairs.{pairs_before}
use Rattle.report.proofs.state.Report.next_pair.Given as goal

-- no pair from the first on has a found cell
abbrev pub invariant-loop-number : goal.invariant-loop-number
invariant-loop-number g l =
    (l.self.next ≤ l.number) × (pairs_before l.number (state l.self.table) ≡ pairs_before l.self.next (state l.self.table))
