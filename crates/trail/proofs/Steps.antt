-- What one move of a walk leaves of it.
use Rattle.std.proofs.Common.{◌≡◌, ℕ, suc, ◌+◌, ◌<◌, ◌≤◌, max, List, [], ◌∷◌, Some, None, Option, length, refl, ap, ◌∙◌, arith}
use Rattle.moves.specs.declared.moves.Kind.{Kind}
use Rattle.moves.specs.declared.moves.Kind.TheVariants as kind
use Rattle.moves.specs.declared.moves.Move.{Move}
use Rattle.paths.specs.Tabled.{Tabled, record_at}
use Rattle.paths.specs.Words.{kind_of, arrive, inside_by, outside_by, deep_by, deep_out_by}
use Rattle.trail.specs.Walk.{Place, place, turn_by, turn_at, rest, left, peak, Found}
use Rattle.trail.proofs.Led.{LedBy, Led, back, out, deep, deep_out, inside_is, outside_is, deep_is, deep_out_is}

-- the calls of a place are found cells, as its cell is
abbrev pub Calls : Tabled → List ℕ → Type 0
Calls t [] = Unit {0}
Calls t (u ∷ us) = Found t u × Calls t us

abbrev pub Stands : Tabled → Option Place → Type 0
Stands t None = Unit {0}
Stands t (Some p) = Found t p.cell × Calls t p.calls

-- how many callees are walked at once from a place on, at most
abbrev pub most : Tabled → Option Place → ℕ
most t None = 0
most t (Some p) = peak t p.calls p.cell

module _ (t : Tabled) (led : Led t) where
  -- the walk from a record, inside and outside
  rest_by : Kind → ℕ → ℕ → ℕ → List ℕ → List Move
  rest_by k u v c [] = outside_by t.facts (back t led) (out t led) k u v c
  rest_by k u v c (x ∷ us) = inside_by t.facts (back t led) k u v c (rest t us x)

  rest_is : (c : ℕ) (us : List ℕ) → Found t c → rest t us c ≡ rest_by (kind_of (record_at t c).kind) (record_at t c).first (record_at t c).second c us
  unfolding rest_by
  rest_is c [] f = outside_is t led c f
  rest_is c (x ∷ us) f = inside_is t led c f (rest t us x)

  told_by : (k : Kind) (u v c : ℕ) (us : List ℕ) → rest_by k u v c us ≡ arrive t.facts (turn_by k u v us).kind c ∷ left t (turn_by k u v us).before
  unfolding rest_by
  told_by kind.Start u v c [] = refl
  told_by kind.Start u v c (x ∷ us) = refl
  told_by kind.Step u v c [] = refl
  told_by kind.Step u v c (x ∷ us) = refl
  told_by kind.Past u v c [] = refl
  told_by kind.Past u v c (x ∷ us) = refl
  told_by kind.Call u v c [] = refl
  told_by kind.Call u v c (x ∷ us) = refl
  told_by kind.Return u v c [] = refl
  told_by kind.Return u v c (x ∷ us) = refl

  -- the move, and then what is left
  pub told : (c : ℕ) (us : List ℕ) → Found t c → rest t us c ≡ arrive t.facts (turn_at t (place c us)).kind c ∷ left t (turn_at t (place c us)).before
  told c us f = rest_is c us f ∙ told_by (kind_of (record_at t c).kind) (record_at t c).first (record_at t c).second c us

  stands_by : (r : ℕ) (k : Kind) (u v : ℕ) (us : List ℕ) → LedBy t r k u v → Calls t us → Stands t (turn_by k u v us).before
  stands_by r kind.Start u v [] b cs = tt
  stands_by r kind.Start u v (x ∷ us) b cs = cs
  stands_by r kind.Step u v us b cs = (b.found, cs)
  stands_by r kind.Past u v us b cs = (b.found, cs)
  stands_by r kind.Call u v [] b cs = (b.found, tt)
  stands_by r kind.Call u v (x ∷ us) b cs = cs
  stands_by r kind.Return u v us b cs = let f = b.0.found in (b.1.found, (f, cs))

  -- the walk comes to found cells
  pub stands : (c : ℕ) (us : List ℕ) → Found t c → Calls t us → Stands t (turn_at t (place c us)).before
  stands c us f cs =
      stands_by (record_at t c).rank (kind_of (record_at t c).kind) (record_at t c).first (record_at t c).second us (led.by c f) cs

  peak_by : Kind → ℕ → ℕ → List ℕ → ℕ
  peak_by k u v [] = deep_out_by (deep t led) (deep_out t led) k u v
  peak_by k u v (x ∷ us) = max (suc (length us) + deep_by (deep t led) k u v) (peak t us x)

  peak_is : (c : ℕ) (us : List ℕ) → Found t c → peak t us c ≡ peak_by (kind_of (record_at t c).kind) (record_at t c).first (record_at t c).second us
  unfolding peak_by
  peak_is c [] f = deep_out_is t led c f
  peak_is c (x ∷ us) f = ap (λ (n : ℕ). max (suc (length us) + n) (peak t us x)) (deep_is t led c f)

  needs_by : (R : ℕ) (k : Kind) (u v : ℕ) (us : List ℕ) → peak_by k u v us ≤ R → most t (turn_by k u v us).before ≤ R
  unfolding peak_by
  needs_by R kind.Start u v [] h = omega arith
  needs_by R kind.Start u v (x ∷ us) h = omega arith
  needs_by R kind.Step u v [] h = h
  needs_by R kind.Step u v (x ∷ us) h = h
  needs_by R kind.Past u v [] h = h
  needs_by R kind.Past u v (x ∷ us) h = h
  needs_by R kind.Call u v [] h = h
  needs_by R kind.Call u v (x ∷ us) h = omega arith
  needs_by R kind.Return u v [] h = omega arith
  needs_by R kind.Return u v (x ∷ us) h = omega arith

  fits_by : (R : ℕ) (k : Kind) (u v : ℕ) (us : List ℕ) → length us ≤ R → most t (turn_by k u v us).before ≤ R → peak_by k u v us ≤ R
  unfolding peak_by
  fits_by R kind.Start u v [] l h = omega arith
  fits_by R kind.Start u v (x ∷ us) l h = omega arith
  fits_by R kind.Step u v [] l h = h
  fits_by R kind.Step u v (x ∷ us) l h = h
  fits_by R kind.Past u v [] l h = h
  fits_by R kind.Past u v (x ∷ us) l h = h
  fits_by R kind.Call u v [] l h = h
  fits_by R kind.Call u v (x ∷ us) l h = omega arith
  fits_by R kind.Return u v [] l h = omega arith
  fits_by R kind.Return u v (x ∷ us) l h = omega arith

  stuck_by : (R u v : ℕ) (us : List ℕ) → R ≤ length us → R < peak_by kind.Return u v us
  unfolding peak_by
  stuck_by R u v [] l = omega arith
  stuck_by R u v (x ∷ us) l = omega arith

  -- what fits goes on fitting, and what is left has to fit
  pub needs : (R c : ℕ) (us : List ℕ) → Found t c → peak t us c ≤ R → most t (turn_at t (place c us)).before ≤ R
  needs R c us f h =
      needs_by R (kind_of (record_at t c).kind) (record_at t c).first (record_at t c).second us (let e = peak_is c us f in omega arith)

  pub fits : (R c : ℕ) (us : List ℕ) → Found t c → length us ≤ R → most t (turn_at t (place c us)).before ≤ R → peak t us c ≤ R
  fits R c us f l h =
      let m = fits_by R (kind_of (record_at t c).kind) (record_at t c).first (record_at t c).second us l h in
      let e = peak_is c us f in
      omega arith

  -- where there is no room for another call, the walk does not fit
  pub stuck : (R c : ℕ) (us : List ℕ) → Found t c → kind_of (record_at t c).kind ≡ kind.Return → R ≤ length us → R < peak t us c
  stuck R c us f k l =
      let m = stuck_by R (record_at t c).first (record_at t c).second us l in
      let e = peak_is c us f ∙ ap (λ (x : Kind). peak_by x (record_at t c).first (record_at t c).second us) k in
      omega arith
