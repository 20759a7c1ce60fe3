use Rattle.std.proofs.Common.{ℕ}
use Rattle.table.specs.Settling.{returns_block}
use Rattle.table.proofs.Turns.{Turned}
use Rattle.table.proofs.state.Core.return_blocks.Given as goal

abbrev pub invariant-loop-b : goal.invariant-loop-b
invariant-loop-b l = Turned (λ (F : ℕ). returns_block F l.from l.with l.site) l.initial.self l.self l.b
