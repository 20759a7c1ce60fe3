use Rattle.std.proofs.Common.{refl, arith}
use Rattle.table.proofs.Kept.{stands_still}
use Rattle.table.proofs.Onward.{first_below, second_below}
use Rattle.table.proofs.state.Core.settle_plain.Goals as goal

pub step_to-requires : goal.step_to-requires
step_to-requires g c =
    let x = c.args.site in
    record { stands = c.requires.stands; point = first_below x.spot.point.0 x.statement _ c.in-Next.ensures c.args.self.now.points c.requires.onward _ _ refl }

pub step_to-requires-in-Goto : goal.step_to-requires-in-Goto
step_to-requires-in-Goto g c =
    let x = c.args.site in
    record { stands = c.requires.stands; point = first_below x.spot.point.0 x.statement _ c.in-Goto.ensures c.args.self.now.points c.requires.onward _ _ refl }

pub step_to-requires-in-Test : goal.step_to-requires-in-Test
step_to-requires-in-Test g c =
    let x = c.args.site in
    record { stands = c.requires.stands; point = first_below x.spot.point.0 x.statement _ c.in-Test.ensures c.args.self.now.points c.requires.onward _ _ refl }

pub step_to-requires-in-Test-2 : goal.step_to-requires-in-Test-2
step_to-requires-in-Test-2 g c =
    let x = c.args.site in
    let k = c.step_to-in-Test.ensures.kept in
    let b = second_below x.spot.point.0 x.statement _ c.in-Test.ensures c.args.self.now.points c.requires.onward _ _ _ refl in
    record { stands = stands_still _ _ _ k c.requires.stands; point = omega (arith, k.points) }
