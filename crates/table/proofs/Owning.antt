-- The own fields of a table's records.
use Rattle.std.proofs.Common.{ℕ, suc, ◌+◌, ◌*◌, ◌<◌, ◌≤◌, ◌&&◌, nat_lt, vec_items, sym, ap, ◌∙◌, arith}
use Rattle.std.proofs.Math.Nat.{mul-le-mul_right}
use Rattle.table.proofs.Finds.{rank_of}
use Rattle.table.specs.Own.{OwnFields}
use Rattle.table.specs.State.{inner, block_of}
use Rattle.table.specs.declared.state.Core.{Core}

-- the block of a point under an origin is the table's
block_within : (N F n a : ℕ) → n < N → a < F → block_of F n a < N * F
block_within N F n a h k = let z : suc n * F ≤ N * F = mul-le-mul_right F h in omega arith

-- a table's type says what its own fields are
pub own_fields : (c : Core) → OwnFields (inner c) (vec_items c.records)
own_fields c = record {
  slots = λ k h. (let s = c.slots k (omega (arith, c.product)) in omega (arith, c.product));
  sets = λ n a d h k.
      c.blocks (block_of c.facts n a) d (block_within c.points c.facts n a h k)
      ∙ ap (λ (r : ℕ). nat_lt d c.facts && nat_lt 0 r) (sym (rank_of (vec_items c.records) c.points c.facts c.found c.head c.tail (block_of c.facts n a * c.facts + d)));
}
