use Rattle.std.proofs.Common.{◌≡◌, [], ◌∷◌, ◌++◌, string_bytes}
use Rattle.listing.specs.Meaning.{totals}
use Rattle.overview.specs.Outlined.{heading_text, sections}
use Rattle.overview.proofs.outline.outline_of.Given as goal

abbrev pub invariant-loop-procedure : goal.invariant-loop-procedure
invariant-loop-procedure g l =
    let m = g.P.Program.meaning l.program in
    string_bytes l.out ≡ (heading_text (totals m) ++ (10 ∷ [])) ++ sections m l.procedure
