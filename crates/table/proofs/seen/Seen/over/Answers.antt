use Rattle.std.proofs.Common.{◌≡◌, ℕ, zero, suc, length, replicate, Some, None, sym, ap, ◌∙◌, arith}
use Rattle.std.specs.List.{slice_get}
use Rattle.table.proofs.seen.Seen.over.Goals as goal

no_entry : {A : Type 0} (k n : ℕ) (x : A) → slice_get (replicate k None) n ≡ Some (Some x) → ⊥
no_entry zero n x e = let z : ◌≡◌ {A = ℕ} 0 1 = cc in omega arith
no_entry (suc k) zero x e = let z : ◌≡◌ {A = ℕ} 0 1 = cc in omega arith
no_entry (suc k) (suc n) x e = no_entry k n x e

pub returns : goal.returns
returns c m n s e = absurd (no_entry (length c.args.statements.now) n s (ap (λ xs. slice_get xs n) (sym c.requires) ∙ e))
