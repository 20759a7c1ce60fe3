-- The turns of a loop.
use Rattle.std.proofs.Common.{◌≡◌, ℕ, zero, suc, ◌+◌, ◌-◌, ◌<◌, ◌≤◌, Bool, true, sym, refl, ap, ◌∙◌, add-one, arith}
use Rattle.paths.specs.Tabled.{Tabled, each, where_yes}
use Rattle.table.specs.State.{inner, Kept}
use Rattle.table.specs.declared.state.Core.{Core}
use Rattle.table.proofs.Kept.{kept_same, kept_then}

-- a part that a table with b facts does is what one with as many facts does
pub alike : (f : ℕ → Tabled → Tabled) (a b : ℕ) (t u : Tabled) → b ≡ a → u ≡ f b t → u ≡ f a t
alike f a b t u e h = h ∙ ap (λ (n : ℕ). f n t) e

pub turn : (f : ℕ → Tabled → Tabled) (i : ℕ) (s t u : Tabled) → t ≡ each i f s → u ≡ f i t → u ≡ each (i + 1) f s
turn f i s t u h k = k ∙ ap (f i) h ∙ sym (ap (λ (n : ℕ). each n f s) (add-one i))

-- the turns of a loop that does f F i for each i below F, the facts of the table s
pub record Turned (f : ℕ → ℕ → Tabled → Tabled) (s t : Core) (i : ℕ) : Type 0 where
  pub kept : Kept s t
  pub after : inner t ≡ each i (f s.facts) (inner s)

pub no_turn : (f : ℕ → ℕ → Tabled → Tabled) (s : Core) → Turned f s s 0
no_turn f s = record { kept = kept_same s; after = refl }

pub next_turn : (f : ℕ → ℕ → Tabled → Tabled) (s t u : Core) (i : ℕ) → Turned f s t i → Kept t u → inner u ≡ f t.facts i (inner t) → Turned f s u (i + 1)
next_turn f s t u i w k e = record {
  kept = kept_then s t u w.kept k;
  after = turn (f s.facts) i (inner s) (inner t) (inner u) w.after (alike (λ (F : ℕ). f F i) s.facts t.facts (inner t) (inner u) w.kept.facts e);
}

pub all_turns : (f : ℕ → ℕ → Tabled → Tabled) (s t : Core) (i : ℕ) → Turned f s t i → s.facts ≤ i → i ≤ s.facts → inner t ≡ each s.facts (f s.facts) (inner s)
all_turns f s t i w l m =
    let e : i ≡ s.facts = omega arith in
    w.after ∙ ap (λ (n : ℕ). each n (f s.facts) (inner s)) e

-- a step that is taken
pub taken_yes : (b : Bool) (f : Tabled → Tabled) (t u : Tabled) → true ≡ b → u ≡ f t → u ≡ where_yes b f t
taken_yes b f t u y e = e ∙ ap (λ (x : Bool). where_yes x f t) y

-- turns in which nothing is done
skip : (f : ℕ → Tabled → Tabled) (s t : Tabled) (i n : ℕ) → t ≡ each i f s → ((k : ℕ) → i ≤ k → k < i + n → f k t ≡ t) → t ≡ each (i + n) f s
skip f s t i zero h idle = let e : i ≡ i + 0 = omega arith in h ∙ ap (λ (m : ℕ). each m f s) e
skip f s t i (suc n) h idle =
    let r = skip f s t i n h (λ k l m. idle k l (omega arith)) in
    let e : suc (i + n) ≡ i + suc n = omega arith in
    sym (idle (i + n) (omega arith) (omega arith)) ∙ ap (f (i + n)) r ∙ ap (λ (m : ℕ). each m f s) e

pub skip_to : (f : ℕ → Tabled → Tabled) (s t : Tabled) (i j : ℕ) → i ≤ j → t ≡ each i f s → ((k : ℕ) → i ≤ k → k < j → f k t ≡ t) → t ≡ each j f s
skip_to f s t i j l h idle =
    let n : ℕ = j - i in
    let e : i + n ≡ j = omega arith in
    skip f s t i n h (λ k m o. idle k m (omega arith)) ∙ ap (λ (m : ℕ). each m f s) e

pub skip_turns : (f : ℕ → ℕ → Tabled → Tabled) (s t : Core) (i j : ℕ) → Turned f s t i → i ≤ j
    → ((k : ℕ) → i ≤ k → k < j → f s.facts k (inner t) ≡ inner t) → Turned f s t j
skip_turns f s t i j w l idle = record { kept = w.kept; after = skip_to (f s.facts) (inner s) (inner t) i j l w.after idle }

-- a loop in which nothing is done
pub all_idle : (f : ℕ → Tabled → Tabled) (n : ℕ) (t : Tabled) → ((k : ℕ) → k < n → f k t ≡ t) → t ≡ each n f t
all_idle f n t idle = skip_to f t t 0 n (omega arith) refl (λ k l h. idle k h)
