-- A guarded rule keeps to its facts and edges, and keeps zero.
use Rattle.std.specs.Prelude.{ℕ, ◌≤◌}
use Rattle.std.proofs.Common.{arith}
use Rattle.std.proofs.lemmas.Grind.{common_steps}
use Rattle.flow.specs.Relation.{Rule, Within, KeepsZero, guarded}

module _ (f : ℕ) (body : Rule) where
  pub guarded_within : Within f (guarded f body)
  guarded_within = record {
    from = λ x d e h. grind (arith, common_steps);
    to = λ x d e h. grind (arith, common_steps);
    lacks = λ x d e h. grind (arith, common_steps);
  }

  pub guarded_zero : 1 ≤ f → KeepsZero (guarded f body)
  guarded_zero h x d e = grind (arith, common_steps)
