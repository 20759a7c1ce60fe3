use Rattle.std.proofs.Common.{length, arith}
use Rattle.trail.proofs.Walking.{measure_on, measure_all, measure_stuck}
use Rattle.trail.proofs.passes.measure.Goals as goal

pub returns-in_default : goal.returns-in_default
returns-in_default c =
    measure_stuck c.args.table.now.core (length c.args.calls.now) c.args.cell c.loop-count.count c.loop-count.walk c.loop-count.calls c.loop-count.invariant
    c.args.room c.in_default.ensures

pub returns-in_default-before : goal.returns-in_default-before
returns-in_default-before c =
    measure_all c.args.table.now.core (length c.args.calls.now) c.args.cell c.loop-count.count c.loop-count.walk c.loop-count.calls c.loop-count.invariant
    c.in-Ok.stride c.back.new.calls c.in-Ok.ensures c.args.room c.in_default-before.is c.loop-count-test.true

pub loop-count-preserved : goal.loop-count-preserved
loop-count-preserved c =
    measure_on c.args.table.now.core (length c.args.calls.now) c.args.cell c.loop-count.count c.loop-count.walk c.loop-count.calls c.loop-count.invariant
    c.in-Ok.stride c.back.new.calls c.in-Ok.ensures c.in-Some.before c.in-Some.is (omega arith)
