-- What the check answers, and its law.
use Rattle.std.proofs.Common.{◌≡◌, ℕ, List, Option, sym, subst}
use Rattle.paths.proofs.Stuck.{check_law}
use Rattle.paths.specs.Checked.{check_no, Verdict}
use Rattle.paths.specs.Does.{Handed}
use Rattle.paths.specs.Law.{Sound}

pub settled : (H : Handed) → Sound H → (xs : List ℕ) (room : ℕ) (told : Option (ℕ × ℕ)) → told ≡ check_no H xs room → Verdict H xs room told
settled H fine xs room told e = subst (λ (o : Option (ℕ × ℕ)). Verdict H xs room o) (sym e) (check_law H fine xs room)
