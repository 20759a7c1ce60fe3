use Rattle.std.proofs.Common.{◌≡◌, ◌≤◌, ◌++◌, drop, string_bytes}
use Rattle.move_text.specs.Lines.{facts_text}
use Rattle.explanation.specs.Lines.{lines_from, path_text, moves_of}
use Rattle.explanation.proofs.lines.trail_lines.Given as goal

-- the words that are left give the lines that are still to be written
abbrev pub invariant-loop-word : goal.invariant-loop-word
invariant-loop-word g l =
    let m = g.P.Program.meaning l.on.program.now in
    let facts = facts_text g.Q.Item.Worded.text (g.Q.Problem.stands l.on.problem.now) in
    (l.height ≤ l.word-index)
    × (string_bytes l.out ++ lines_from m facts l.height (moves_of (drop l.word-index l.words)) ≡ path_text m facts (moves_of l.words))
