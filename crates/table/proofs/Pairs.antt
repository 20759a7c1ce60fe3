-- The found cells of a pair.
use Rattle.std.proofs.Common.{◌≡◌, ℕ, zero, suc, ◌*◌, ◌<◌, Bool, true, false, cond, Some, None, Option, refl, ap, ◌∙◌, arith}
use Rattle.std.specs.Option.{is_some}
use Rattle.paths.specs.Table.{cell, number_of}
use Rattle.paths.specs.Tabled.{Tabled, is_found}
use Rattle.paths.specs.Page.{any_found}
use Rattle.paths.specs.Words.{earlier, least_found}
use Rattle.table.specs.Told.{has_pair, least}

either : (o : Option ℕ) (b : Bool) (c : ℕ) → is_some (earlier o b c) ≡ cond b true (is_some o)
either None true c = refl
either None false c = refl
either (Some x) true c = refl
either (Some x) false c = refl

any_least : (k n d : ℕ) (t : Tabled) → is_some (least_found k n d t) ≡ any_found k n d t
any_least zero n d t = refl
any_least (suc k) n d t =
    either (least_found k n d t) (is_found (number_of t.facts (cell n k d)) t) (number_of t.facts (cell n k d))
    ∙ ap (cond (is_found (number_of t.facts (cell n k d)) t) true) (any_least k n d t)

-- a pair of the table has a found cell where it has one of least origin
pub some_least : (t : Tabled) (n d : ℕ) → has_pair t n d ≡ true → is_some (least t n d) ≡ any_found t.facts n d t
some_least t n d e = ap (λ (b : Bool). is_some (cond b (least_found t.facts n d t) None)) e ∙ any_least t.facts n d t

-- a table with a cell has a fact
pub some_facts : (k n f : ℕ) → k ≡ n * f * f → 0 < k → 0 < f
some_facts k n zero e some = (let z : n * zero * zero ≡ 0 = omega arith in absurd (omega arith))
some_facts k n (suc f) e some = omega arith
