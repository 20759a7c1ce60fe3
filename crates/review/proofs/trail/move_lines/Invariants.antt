use Rattle.std.proofs.Common.{◌≡◌, ◌≤◌, ◌++◌, drop, string_bytes}
use Rattle.move_text.specs.Lines.{facts_text}
use Rattle.review.specs.Reviewed.{lines_of}
use Rattle.review.proofs.trail.move_lines.Given as goal

-- the words that are left give the lines that are still to be written
abbrev pub invariant-loop-word : goal.invariant-loop-word
invariant-loop-word g l =
    let facts = facts_text g.Q.Item.Worded.text (g.Q.Problem.stands l.problem) in
    (l.height ≤ l.word-index)
    × (string_bytes l.out ++ lines_of facts l.height (drop l.word-index l.words) ≡ lines_of facts 0 l.words)
