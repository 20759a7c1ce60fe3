use Rattle.std.proofs.Common.{sym, ◌∙◌}
use Rattle.table.specs.State.{state}
use Rattle.trail.proofs.Spelt.{least_stands}
use Rattle.trail.proofs.spell.Goals as goal

pub measure-requires : goal.measure-requires
measure-requires c =
    least_stands (state c.args.table.now) c.args.point.0 c.args.fact.0 c.in_ok-cell.cell (sym c.least.ensures ∙ c.in_ok-cell.ensures.ok_part)

pub write-requires-clause-found : goal.write-requires-clause-found
write-requires-clause-found c =
    least_stands (state c.args.table.now) c.args.point.0 c.args.fact.0 c.in_ok-cell.cell (sym c.least.ensures ∙ c.in_ok-cell.ensures.ok_part)
