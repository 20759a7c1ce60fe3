use Rattle.std.proofs.Common.{arith}
use Rattle.table.proofs.Kept.{return_still}
use Rattle.table.proofs.Turns.{no_turn, next_turn, all_turns}
use Rattle.table.proofs.state.Core.return_blocks.Goals as goal

pub loop-b-init : goal.loop-b-init
loop-b-init c = no_turn _ _

pub return_block-requires : goal.return_block-requires
return_block-requires c =
    let k = c.loop-b.invariant.kept in
    record { stands = return_still _ _ _ k c.requires; origin = omega (arith, k.facts, c.loop-b-test.true) }

pub loop-b-preserved : goal.loop-b-preserved
loop-b-preserved c = next_turn _ _ _ _ _ c.loop-b.invariant c.return_block.ensures.kept c.return_block.ensures.after

pub returns : goal.returns
returns c = record {
  kept = c.loop-b.invariant.kept;
  after = all_turns _ _ _ _ c.loop-b.invariant (omega (arith, c.loop-b-test.false)) (omega (arith, c.loop-b.auto.b-end));
}
