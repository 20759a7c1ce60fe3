-- The numbers of cells.
use Rattle.std.proofs.Common.{◌≡◌, ℕ, zero, suc, ◌+◌, ◌*◌, ◌/◌, ◌%◌, ◌<◌, ap, ◌∙◌, mod-lt, div-lt_iff_lt-mul, mul-zero, div-add-mod', arith}
use Rattle.paths.specs.Table.{number_of}
use Rattle.paths.specs.Tabled.{cell_at}

pub some_facts : (n f : ℕ) → 0 < n * f * f → 0 < f
some_facts n zero h = absurd (let e = mul-zero (n * zero) in omega arith)
some_facts n (suc f) h = omega arith

-- a number below the number of cells is that of a point below n
pub point_below : (n f c : ℕ) → 0 < f → c < n * f * f → c / f / f < n
point_below n f c p h =
    let q : c / f < n * f = (div-lt_iff_lt-mul {k = f} {x = c} {y = n * f} p).1 h in
    (div-lt_iff_lt-mul {k = f} {x = c / f} {y = n} p).1 q

pub rest_below : (c f : ℕ) → 0 < f → c % f < f
rest_below c f p = mod-lt c p

-- a number is that of its cell
pub number_back : (f c : ℕ) → number_of f (cell_at f c) ≡ c
number_back f c =
    ap (λ (q : ℕ). q * f + c % f) (div-add-mod' (c / f) f) ∙ div-add-mod' c f
