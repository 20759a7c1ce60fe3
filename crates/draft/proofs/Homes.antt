-- Two points are of one procedure where their procedures are equal.
use Rattle.std.proofs.Common.{◌≡◌, ◌<◌, ◌==◌, ◌&&◌, ℕ, Bool, true, false, cond, List, length, nat_lt, Some, None, refl, ap, ◌∙◌}
use Rattle.std.specs.Option.{option_eq}
use Rattle.std.proofs.lemmas.Bool.{cond-true, lt-ltb}
use Rattle.listing.specs.declared.control.Control.{Control}
use Rattle.listing.specs.declared.numbers.Proc.{Proc}
use Rattle.listing.specs.Lawful.{together}
use Rattle.listing.specs.Meaning.{below, proc}
use Rattle.listing.specs.Procedures.{procedure}

same : (b : Bool) (p q : ℕ) → option_eq (λ (x y : Proc). x.0 == y.0) (cond b (Some (proc p)) None) (Some (proc q)) ≡ b && p == q
same true p q = refl
same false p q = refl

pub together_equal : (cs : List Control) (n k : ℕ) → n < length cs
    → option_eq (λ (x y : Proc). x.0 == y.0) (below k (length cs) (proc (procedure cs k))) (below n (length cs) (proc (procedure cs n))) ≡ together cs n k
together_equal cs n k within =
    ap (option_eq (λ (x y : Proc). x.0 == y.0) (below k (length cs) (proc (procedure cs k)))) (cond-true _ _ _ (lt-ltb n (length cs) within))
    ∙ same (nat_lt k (length cs)) (procedure cs k) (procedure cs n)
