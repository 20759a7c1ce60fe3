use Rattle.std.proofs.Common.{arith}
use Rattle.listing.proofs.Parts.{parts}
use Rattle.overview.proofs.Sections.{exit_within_size}
use Rattle.overview.proofs.section.section_of.Goals as goal

pub overflow_add-points : goal.overflow_add-points
overflow_add-points g c =
    let m = g.P.Program.meaning c.args.program.now in
    omega (arith, exit_within_size m c.args.procedure c.in_ok-exit.exit c.in_ok-exit.ensures, (parts m (g.P.Program.lawful c.args.program.now)).few_points)
