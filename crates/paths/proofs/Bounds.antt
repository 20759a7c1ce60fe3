-- What a rule that keeps to F facts says of each kind of move.
use Rattle.std.proofs.Common.{◌≡◌, ℕ, ◌<◌, Bool, true, false, T, refl}
use Rattle.listing.specs.declared.numbers.Cell.{Cell}
use Rattle.listing.specs.declared.statement.Statement.{Statement}
use Rattle.listing.specs.Meaning.{point}
use Rattle.flow.specs.declared.edge.Edge.TheVariants as edge
use Rattle.flow.specs.Relation.{Rule, Within}
use Rattle.paths.specs.Supergraph.{by_step, by_past, by_call, by_return}

is_true : (b : Bool) → T b → b ≡ true
is_true true t = refl
is_true false t = absurd t

module _ {F : ℕ} {Q : Rule} (within : Within F Q) where
  pub step_bound : (n : ℕ) (s : Statement Cell) (d e : ℕ) → T (by_step Q n s d e) → e < F
  step_bound n s d e t = within.to (edge.Step (point n) s) d e (is_true (by_step Q n s d e) t)

  pub past_bound : (n : ℕ) (s : Statement Cell) (d e : ℕ) → T (by_past Q n s d e) → e < F
  past_bound n s d e t = within.to (edge.Past (point n) s) d e (is_true (by_past Q n s d e) t)

  pub call_bound : (n : ℕ) (s : Statement Cell) (d e : ℕ) → T (by_call Q n s d e) → e < F
  call_bound n s d e t = within.to (edge.Call (point n) s) d e (is_true (by_call Q n s d e) t)

  pub return_bound : (c : ℕ) (s : Statement Cell) (V : Cell) (d e : ℕ) → T (by_return Q c s V d e) → e < F
  return_bound c s V d e t = within.to (edge.Return (point c) s V) d e (is_true (by_return Q c s V d e) t)
