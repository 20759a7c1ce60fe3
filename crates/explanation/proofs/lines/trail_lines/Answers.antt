use Rattle.std.proofs.Common.{◌∙◌, string_bytes, arith}
use Rattle.std.proofs.Math.Nat.{min-eq_left}
use Rattle.move_text.specs.Lines.{facts_text}
use Rattle.explanation.proofs.Written.{read_as, one_more, opened_le}
use Rattle.explanation.proofs.lines.trail_lines.Goals as goal

pub loop-word-preserved : goal.loop-word-preserved
loop-word-preserved g c =
    let m = g.P.Program.meaning c.args.on.now.program.now in
    let facts = facts_text g.Q.Item.Worded.text (g.Q.Problem.stands c.args.on.now.problem.now) in
    let k = c.loop-word.height in
    let w = c.in-Ok.arriving in
    let opens = c.open_after-height.ensures ∙ min-eq_left (omega (arith, opened_le k w.kind, c.loop-word.invariant.0)) in (
      rw opens (omega (arith, opened_le k w.kind, c.loop-word.invariant.0)),
      rw (c.in_ok-writeln.ensures.bytes, c.of-line.ensures, opens)
          (one_more m facts c.args.words.now c.loop-word.word-index k (string_bytes c.loop-word.out) c.loop-word.invariant.1 (omega arith) w
          (read_as _ _ w c.in-Ok.ensures.value)),
    )
