use Rattle.std.proofs.Common.{[], ◌∷◌, ◌++◌, string_bytes, ap, ◌∙◌, arith}
use Rattle.listing.specs.Meaning.{totals}
use Rattle.overview.specs.Outlined.{heading_text}
use Rattle.overview.proofs.Sections.{line_more, some_line}
use Rattle.overview.proofs.outline.outline_of.Goals as goal
use Rattle.overview.proofs.outline.outline_of.Goals.{in-Some+in_ok-writeln, in_default}

pub loop-procedure-preserved : goal.loop-procedure-preserved
loop-procedure-preserved g c =
    let m = g.P.Program.meaning c.args.program.now in
    let p = c.loop-procedure.procedure in
    elim c.match-section_of.branch [
      | in-Some+in_ok-writeln w ↦
          line_more m p w.in-Some.section (heading_text (totals m) ++ (10 ∷ [])) (string_bytes c.loop-procedure.out) (string_bytes c.match-section_of.out)
          w.in-Some.ensures (ap string_bytes w.out-is ∙ w.in_ok-writeln.ensures.bytes) c.loop-procedure.invariant
      | in_default w ↦ absurd (some_line m p (omega (arith, c.loop-procedure-test.true, ap (λ t. t.procedures) c.counts-counts.ensures)) w.in_default.ensures)
    ]
