use Rattle.std.proofs.Common.{◌≡◌, List, ℕ, length, drop}
use Rattle.paths.specs.Does.{Handed}
use Rattle.paths.specs.Page.{pairs_of}
use Rattle.table.specs.State.{state}
use Rattle.report.specs.Told.{reported}
use Rattle.findings.specs.Report.{Lined}
use Rattle.findings.proofs.lines.write_lines.Given as goal

abbrev pub invariant-loop : goal.invariant-loop
invariant-loop g l =
    record {
      lined : (h : Handed) (starts : List (ℕ × ℕ)) → Lined h starts (reported l.initial.report) l.initial.page (reported l.report) l.page;
      table : l.report.table ≡ l.initial.report.table;
    }

-- the pairs that are left
abbrev pub decreases-loop : goal.decreases-loop
decreases-loop g l = length (drop l.report.lines (pairs_of (state l.report.table)))
