-- Each found cell was led to by cells that were found before it.
use Rattle.std.proofs.Common.{◌≡◌, ℕ, zero, suc, ◌-◌, ◌<◌, ◌≤◌, max, List, ◌∷◌, refl, ap, ◌∙◌, arith}
use Rattle.moves.specs.declared.moves.Kind.{Kind}
use Rattle.moves.specs.declared.moves.Kind.TheVariants as kind
use Rattle.moves.specs.declared.moves.Move.{Move}
use Rattle.paths.specs.Tabled.{Tabled, record_at}
use Rattle.paths.specs.Words.{kind_of, arrive, inside_by, outside_by, inside, outside, deep_by, deep_inside, deep_out_by, deep_outside}
use Rattle.trail.specs.Walk.{Found}

-- the cell u is found, and before the cell of rank r was
pub record Before (t : Tabled) (r u : ℕ) : Type 0 where
  pub found : Found t u
  pub lower : (record_at t u).rank < r

abbrev pub LedBy : Tabled → ℕ → Kind → ℕ → ℕ → Type 0
LedBy t r kind.Start u v = Unit {0}
LedBy t r kind.Step u v = Before t r u
LedBy t r kind.Past u v = Before t r u
LedBy t r kind.Call u v = Before t r u
LedBy t r kind.Return u v = Before t r u × Before t r v

pub record Led (t : Tabled) : Type 0 where
  pub by : (c : ℕ) → Found t c → LedBy t (record_at t c).rank (kind_of (record_at t c).kind) (record_at t c).first (record_at t c).second

-- WALKS THAT AGREE ON THE CELLS FOUND BEFORE

module _ (t : Tabled) (r : ℕ) (back back' : ℕ → List Move → List Move)
    (same : (x : ℕ) → Before t r x → (us : List Move) → back x us ≡ back' x us) (F : ℕ) where
  inside_by_same : (k : Kind) (u v c : ℕ) (us : List Move) → LedBy t r k u v → inside_by F back k u v c us ≡ inside_by F back' k u v c us
  inside_by_same kind.Start u v c us b = refl
  inside_by_same kind.Step u v c us b = ap (λ (ws : List Move). arrive F kind.Step c ∷ ws) (same u b us)
  inside_by_same kind.Past u v c us b = ap (λ (ws : List Move). arrive F kind.Past c ∷ ws) (same u b us)
  inside_by_same kind.Call u v c us b = refl
  inside_by_same kind.Return u v c us b =
      ap (λ (ws : List Move). arrive F kind.Return c ∷ ws) (same v b.1 (back u us) ∙ ap (back' v) (same u b.0 us))

  module _ (out out' : ℕ → List Move) (same' : (x : ℕ) → Before t r x → out x ≡ out' x) where
    outside_by_same : (k : Kind) (u v c : ℕ) → LedBy t r k u v → outside_by F back out k u v c ≡ outside_by F back' out' k u v c
    outside_by_same kind.Start u v c b = refl
    outside_by_same kind.Step u v c b = ap (λ (ws : List Move). arrive F kind.Step c ∷ ws) (same' u b)
    outside_by_same kind.Past u v c b = ap (λ (ws : List Move). arrive F kind.Past c ∷ ws) (same' u b)
    outside_by_same kind.Call u v c b = ap (λ (ws : List Move). arrive F kind.Call c ∷ ws) (same' u b)
    outside_by_same kind.Return u v c b =
        ap (λ (ws : List Move). arrive F kind.Return c ∷ ws) (same v b.1 (out u) ∙ ap (back' v) (same' u b.0))

module _ (t : Tabled) (r : ℕ) (deep deep' : ℕ → ℕ) (same : (x : ℕ) → Before t r x → deep x ≡ deep' x) where
  deep_by_same : (k : Kind) (u v : ℕ) → LedBy t r k u v → deep_by deep k u v ≡ deep_by deep' k u v
  deep_by_same kind.Start u v b = refl
  deep_by_same kind.Step u v b = same u b
  deep_by_same kind.Past u v b = same u b
  deep_by_same kind.Call u v b = refl
  deep_by_same kind.Return u v b = ap (λ (x : ℕ). max (suc x) (deep u)) (same v b.1) ∙ ap (max (suc (deep' v))) (same u b.0)

  module _ (out out' : ℕ → ℕ) (same' : (x : ℕ) → Before t r x → out x ≡ out' x) where
    deep_out_by_same : (k : Kind) (u v : ℕ) → LedBy t r k u v → deep_out_by deep out k u v ≡ deep_out_by deep' out' k u v
    deep_out_by_same kind.Start u v b = refl
    deep_out_by_same kind.Step u v b = same' u b
    deep_out_by_same kind.Past u v b = same' u b
    deep_out_by_same kind.Call u v b = same' u b
    deep_out_by_same kind.Return u v b = ap (λ (x : ℕ). max (suc x) (out u)) (same v b.1) ∙ ap (max (suc (deep' v))) (same' u b.0)

-- AS MANY RECORDS IN A ROW AS THE RANK ARE ENOUGH

module _ (t : Tabled) (led : Led t) where
  inside_more : (j k c : ℕ) → Found t c → (record_at t c).rank ≤ j → (record_at t c).rank ≤ k → (us : List Move) → inside t j c us ≡ inside t k c us
  inside_more zero k c f h l us = absurd (omega arith)
  inside_more (suc j) zero c f h l us = absurd (omega arith)
  inside_more (suc j) (suc k) c f h l us =
      inside_by_same t (record_at t c).rank (inside t j) (inside t k)
      (λ x b ws. let lower = b.lower in inside_more j k x b.found (omega arith) (omega arith) ws) t.facts
      (kind_of (record_at t c).kind) (record_at t c).first (record_at t c).second c us (led.by c f)

  outside_more : (j k c : ℕ) → Found t c → (record_at t c).rank ≤ j → (record_at t c).rank ≤ k → outside t j c ≡ outside t k c
  outside_more zero k c f h l = absurd (omega arith)
  outside_more (suc j) zero c f h l = absurd (omega arith)
  outside_more (suc j) (suc k) c f h l =
      outside_by_same t (record_at t c).rank (inside t j) (inside t k)
      (λ x b ws. let lower = b.lower in inside_more j k x b.found (omega arith) (omega arith) ws) t.facts
      (outside t j) (outside t k) (λ x b. let lower = b.lower in outside_more j k x b.found (omega arith) (omega arith))
      (kind_of (record_at t c).kind) (record_at t c).first (record_at t c).second c (led.by c f)

  deep_inside_more : (j k c : ℕ) → Found t c → (record_at t c).rank ≤ j → (record_at t c).rank ≤ k → deep_inside t j c ≡ deep_inside t k c
  deep_inside_more zero k c f h l = absurd (omega arith)
  deep_inside_more (suc j) zero c f h l = absurd (omega arith)
  deep_inside_more (suc j) (suc k) c f h l =
      deep_by_same t (record_at t c).rank (deep_inside t j) (deep_inside t k)
      (λ x b. let lower = b.lower in deep_inside_more j k x b.found (omega arith) (omega arith))
      (kind_of (record_at t c).kind) (record_at t c).first (record_at t c).second (led.by c f)

  deep_outside_more : (j k c : ℕ) → Found t c → (record_at t c).rank ≤ j → (record_at t c).rank ≤ k → deep_outside t j c ≡ deep_outside t k c
  deep_outside_more zero k c f h l = absurd (omega arith)
  deep_outside_more (suc j) zero c f h l = absurd (omega arith)
  deep_outside_more (suc j) (suc k) c f h l =
      deep_out_by_same t (record_at t c).rank (deep_inside t j) (deep_inside t k)
      (λ x b. let lower = b.lower in deep_inside_more j k x b.found (omega arith) (omega arith))
      (deep_outside t j) (deep_outside t k) (λ x b. let lower = b.lower in deep_outside_more j k x b.found (omega arith) (omega arith))
      (kind_of (record_at t c).kind) (record_at t c).first (record_at t c).second (led.by c f)

  -- so each cell's walk goes on as its own record says
  abbrev pub back : ℕ → List Move → List Move
  back x us = inside t (record_at t x).rank x us

  abbrev pub out : ℕ → List Move
  out x = outside t (record_at t x).rank x

  abbrev pub deep : ℕ → ℕ
  deep x = deep_inside t (record_at t x).rank x

  abbrev pub deep_out : ℕ → ℕ
  deep_out x = deep_outside t (record_at t x).rank x

  module _ (c : ℕ) (f : Found t c) where
    fewer : (record_at t c).rank ≡ suc ((record_at t c).rank - 1)
    fewer = let h = f.ranked in omega arith

    below : (x : ℕ) → Before t (record_at t c).rank x → (record_at t x).rank ≤ (record_at t c).rank - 1
    below x b = let lower = b.lower in omega arith

    pub inside_is : (us : List Move)
        → back c us ≡ inside_by t.facts back (kind_of (record_at t c).kind) (record_at t c).first (record_at t c).second c us
    inside_is us =
        ap (λ (n : ℕ). inside t n c us) fewer
        ∙ inside_by_same t (record_at t c).rank (inside t ((record_at t c).rank - 1)) back
        (λ x b ws. inside_more ((record_at t c).rank - 1) (record_at t x).rank x b.found (below x b) (omega arith) ws) t.facts
        (kind_of (record_at t c).kind) (record_at t c).first (record_at t c).second c us (led.by c f)

    pub outside_is : out c ≡ outside_by t.facts back out (kind_of (record_at t c).kind) (record_at t c).first (record_at t c).second c
    outside_is =
        ap (λ (n : ℕ). outside t n c) fewer
        ∙ outside_by_same t (record_at t c).rank (inside t ((record_at t c).rank - 1)) back
        (λ x b ws. inside_more ((record_at t c).rank - 1) (record_at t x).rank x b.found (below x b) (omega arith) ws) t.facts
        (outside t ((record_at t c).rank - 1)) out
        (λ x b. outside_more ((record_at t c).rank - 1) (record_at t x).rank x b.found (below x b) (omega arith))
        (kind_of (record_at t c).kind) (record_at t c).first (record_at t c).second c (led.by c f)

    pub deep_is : deep c ≡ deep_by deep (kind_of (record_at t c).kind) (record_at t c).first (record_at t c).second
    deep_is =
        ap (λ (n : ℕ). deep_inside t n c) fewer
        ∙ deep_by_same t (record_at t c).rank (deep_inside t ((record_at t c).rank - 1)) deep
        (λ x b. deep_inside_more ((record_at t c).rank - 1) (record_at t x).rank x b.found (below x b) (omega arith))
        (kind_of (record_at t c).kind) (record_at t c).first (record_at t c).second (led.by c f)

    pub deep_out_is : deep_out c ≡ deep_out_by deep deep_out (kind_of (record_at t c).kind) (record_at t c).first (record_at t c).second
    deep_out_is =
        ap (λ (n : ℕ). deep_outside t n c) fewer
        ∙ deep_out_by_same t (record_at t c).rank (deep_inside t ((record_at t c).rank - 1)) deep
        (λ x b. deep_inside_more ((record_at t c).rank - 1) (record_at t x).rank x b.found (below x b) (omega arith))
        (deep_outside t ((record_at t c).rank - 1)) deep_out
        (λ x b. deep_outside_more ((record_at t c).rank - 1) (record_at t x).rank x b.found (below x b) (omega arith))
        (kind_of (record_at t c).kind) (record_at t c).first (record_at t c).second (led.by c f)
