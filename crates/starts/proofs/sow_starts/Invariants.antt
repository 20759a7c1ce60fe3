use Rattle.std.proofs.Common.{◌≡◌, drop}
use Rattle.paths.specs.Handing.{handed_by}
use Rattle.table.specs.State.{state, spare}
use Rattle.starts.proofs.Sowing.{Sowing}
use Rattle.starts.specs.Sown.{given_starts}
use Rattle.starts.proofs.sow_starts.Given as goal

-- the starts that are left, and the memory behind the cells
abbrev pub invariant-loop-i : goal.invariant-loop-i
invariant-loop-i g l =
    let ss = given_starts (g.Q.Problem.starts l.on.problem.now) in
    Sowing (handed_by g.P.Program g.Q.Problem l.on) ss (state l.initial.table) (state l.table) (drop l.i ss)
    × (spare l.table.core ≡ spare l.initial.table.core)
