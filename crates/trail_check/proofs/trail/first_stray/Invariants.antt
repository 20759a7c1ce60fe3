use Rattle.std.proofs.Common.{◌≡◌, ◌≤◌, length, drop}
use Rattle.paths.specs.Checked.{stuck, first_stuck}
use Rattle.paths.specs.Handing.{handed_by}
use Rattle.trail_check.specs.Handing.{stands}
use Rattle.trail_check.proofs.Strays.{further}
use Rattle.trail_check.proofs.trail.first_stray.Given as goal

-- the words that are left give the place
abbrev pub invariant-loop-place : goal.invariant-loop-place
invariant-loop-place g l =
    let H = handed_by g.P.Program g.Q.Problem l.on in
    (l.walk.height ≤ l.place)
    × (length l.walk.calls.now ≡ length l.fn.calls)
    × (first_stuck H l.words ≡ further l.place (stuck H (drop l.place l.words) (stands l.walk)))
