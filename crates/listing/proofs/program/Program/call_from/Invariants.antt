use Rattle.std.proofs.Common.{◌≡◌}
use Rattle.listing.specs.Meaning.{flow}
use Rattle.listing.specs.Callers.{call_from}
use Rattle.listing.proofs.program.Program.call_from.Given as goal

-- no call stands at the points that were passed
abbrev pub invariant-loop-n : goal.invariant-loop-n
invariant-loop-n g l = call_from (flow (g.Self.Program.meaning l.self)) l.p.0 l.fn.least.0 ≡ call_from (flow (g.Self.Program.meaning l.self)) l.p.0 l.n
