use Rattle.std.proofs.Common.{drop, sym, ap, ◌∙◌, arith}
use Rattle.std.specs.List.{position}
use Rattle.std.proofs.lemmas.List.{take_rest, length-drop}
use Rattle.text.proofs.Scans.{ends, line_found, line_last}
use Rattle.text.proofs.scan.line_at.Goals as goal

pub returns-in-Some : goal.returns-in-Some
returns-in-Some c =
    let rest = take_rest c.args.bytes.now c.args.at in
    let at = ap (position ends) (sym rest) ∙ (sym c.line_end.ensures ∙ c.in-Some.is) in
    simp (take_rest) (line_found (drop c.args.at c.args.bytes.now) c.in-Some.end at)

pub returns-in-None : goal.returns-in-None
returns-in-None c =
    let rest = take_rest c.args.bytes.now c.args.at in
    let at = ap (position ends) (sym rest) ∙ (sym c.line_end.ensures ∙ c.in-None.is) in
    simp (take_rest) (line_last (drop c.args.at c.args.bytes.now) (omega (arith, c.requires, length-drop c.args.at c.args.bytes.now)) at)
