-- The default starts by number.
use Rattle.std.proofs.Common.{◌≡◌, ℕ, zero, suc, ◌+◌, nat_lt, arith}
use Rattle.std.proofs.lemmas.Grind.{common_steps}
use Rattle.std.specs.Bool.{then_some}
use Rattle.std.specs.List.{slice_get}
use Rattle.flow.specs.CellFacts.{from_first, from_each}

from : (d k i : ℕ) → slice_get (from_each d k) i ≡ then_some (nat_lt i k) (from_first (d + i))
from d zero i = grind (arith, common_steps)
from d (suc k) zero = grind (arith, common_steps)
from d (suc k) (suc i) = let h = from (d + 1) k i in grind (arith, common_steps)

pub start_at : (k i : ℕ) → slice_get (from_each 0 k) i ≡ then_some (nat_lt i k) (from_first i)
start_at k i = let h = from 0 k i in grind (arith, common_steps)
