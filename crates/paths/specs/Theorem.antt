-- The theorem of the tabulation.
use Rattle.std.specs.Prelude.{ℕ, ◌↔◌, List}
use mathlib.Core.List.{Memᴰ}
use Rattle.flow.specs.Relation.{Rule}
use Rattle.paths.specs.Supergraph.{Supergraph, Lawful}
use Rattle.paths.specs.Paths.{ReachedPair, ReachedCell}
use Rattle.paths.specs.Table.{Table, Found, Justified, Closed}

-- the accepted starts: procedures with facts
abbrev pub Accepted : List (ℕ × ℕ) → ℕ → ℕ → Type 0
Accepted starts p d = Memᴰ (p, d) starts

-- the found cells of a table are the reached cells, and the pairs of its found cells are the reached pairs
pub record Exact (P : Supergraph) (Q : Rule) (Start : ℕ → ℕ → Type 0) (t : Table) : Type 0 where
  pub cells : (n a d : ℕ) → Found t n a d ↔ ReachedCell P Q Start n a d
  pub pairs : (n d : ℕ) → ((a : ℕ) × Found t n a d) ↔ ReachedPair P Q Start n d

-- a table whose found cells are justified, and in which nothing is left to find, has found the reached cells and no others; and a pair
-- has a found cell if and only if a call-matched path from an accepted start ends there
abbrev pub Tabulates : Type 0
Tabulates = (P : Supergraph) (Q : Rule) (starts : List (ℕ × ℕ)) → (N K : ℕ) → Lawful P N K → (t : Table)
    → Justified P Q (Accepted starts) t → Closed P Q (Accepted starts) t → Exact P Q (Accepted starts) t
