use Rattle.std.proofs.Common.{◌∙◌, string_bytes, arith}
use Rattle.std.proofs.Math.Nat.{min-eq_left}
use Rattle.move_text.specs.Lines.{facts_text}
use Rattle.review.proofs.Written.{read_as, one_more, opened_le}
use Rattle.review.proofs.trail.move_lines.Goals as goal

pub loop-word-preserved : goal.loop-word-preserved
loop-word-preserved g c =
    let k = c.loop-word.height in
    let m = c.in-Ok.arriving in
    let opens = c.open_after-height.ensures ∙ min-eq_left (omega (arith, opened_le k m.kind, c.loop-word.invariant.0)) in (
      rw opens (omega (arith, opened_le k m.kind, c.loop-word.invariant.0)),
      rw (c.in_ok-writeln.ensures.bytes, opens, c.item.ensures)
          (one_more (facts_text g.Q.Item.Worded.text (g.Q.Problem.stands c.args.problem.now)) c.args.words.now c.loop-word.word-index k (string_bytes c.loop-word.out) c.loop-word.invariant.1 (omega arith) m
          (read_as _ _ m c.in-Ok.ensures.value)),
    )
