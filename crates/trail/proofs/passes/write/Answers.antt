use Rattle.std.proofs.Common.{length, arith}
use Rattle.trail.proofs.Walking.{write_ok, write_word, write_step}
use Rattle.trail.proofs.passes.write.Goals as goal

pub unwrap-stride-requires : goal.unwrap-stride-requires
unwrap-stride-requires c =
    write_ok c.args.table.now.core (length c.args.calls.now) c.args.cell c.loop-place.place c.loop-place.left c.unwrap.result c.loop-place.calls _
    c.loop-place.words c.loop-place.invariant c.unwrap.ensures c.back.result c.back.ensures

pub word_of-requires : goal.word_of-requires
word_of-requires c =
    write_word c.args.table.now.core (length c.args.calls.now) c.args.cell c.loop-place.place c.loop-place.left c.unwrap.result c.loop-place.calls _
    c.loop-place.words c.loop-place.invariant c.unwrap.ensures c.back.result c.back.ensures _ c.unwrap-stride.ensures

pub loop-place-preserved : goal.loop-place-preserved
loop-place-preserved c =
    write_step c.args.table.now.core (length c.args.calls.now) c.args.cell c.loop-place.place c.loop-place.left c.unwrap.result c.loop-place.calls _
    c.loop-place.words c.loop-place.invariant c.unwrap.ensures c.back.result c.back.ensures _ c.unwrap-stride.ensures
    c.word_of.result c.loop-place-test.true (omega arith) c.word_of.ensures (omega arith)
