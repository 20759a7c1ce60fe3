-- What a loop of findings keeps, and what it leaves found.
use Rattle.std.proofs.Common.{◌≡◌, ℕ, zero, suc, ◌<◌, Bool, true, false, T, ◌⊎◌, List, [], ◌∷◌, sym, refl, subst, inl, inr, arith}
use mathlib.Core.List.Memᴰ
use mathlib.Core.List.{Memᴰ}
use native.Mathlib.Decide.{dec_lt}
use Rattle.flow.specs.Relation.{Rule}
use Rattle.paths.specs.Supergraph.{Supergraph}
use Rattle.paths.specs.Machine.{State, each, each_of, where_yes}
use Rattle.paths.proofs.Grow.{Grow, same, grow_trans}

pub below_suc : (i k : ℕ) → i < suc k → (i < k) ⊎ (k ≡ i)
below_suc i k h = elim (dec_lt i k) [ yes p ↦ inl p | no q ↦ inr (omega arith) ]

module _ (P : Supergraph) (Q : Rule) (Start : ℕ → ℕ → Type 0) where
  -- what stays true as more is found
  abbrev pub Stable : (State → Type 0) → Type 0
  Stable Ok = (st st' : State) → Grow P Q Start st st' → Ok st → Ok st'

  module _ (Ok : State → Type 0) (ok_stable : Stable Ok) (Good : ℕ → State → Type 0) (stable : (i : ℕ) → Stable (Good i)) (f : ℕ → State → State) where
    pub each_grows : ((i : ℕ) (st : State) → Ok st → Grow P Q Start st (f i st) × Good i (f i st))
        → (k : ℕ) (st : State) → Ok st → Grow P Q Start st (each k f st) × ((i : ℕ) → i < k → Good i (each k f st))
    each_grows body zero st ok = (same, λ i h. absurd (omega arith))
    each_grows body (suc k) st ok =
        let (g, all) = each_grows body k st ok in
        let (g', good) = body k (each k f st) (ok_stable st (each k f st) g ok) in (
          grow_trans P Q Start g g',
          λ i h. elim (below_suc i k h) [
            | inl p ↦ stable i (each k f st) (f k (each k f st)) g' (all i p)
            | inr p ↦ subst (λ (j : ℕ). Good j (f k (each k f st))) p good
          ],
        )

    pub each_of_grows : (ms : List ℕ) → ((m : ℕ) → Memᴰ m ms → (st : State) → Ok st → Grow P Q Start st (f m st) × Good m (f m st))
        → (st : State) → Ok st → Grow P Q Start st (each_of ms f st) × ((m : ℕ) → Memᴰ m ms → Good m (each_of ms f st))
    each_of_grows [] body st ok = (same, λ m h. elim h [ ])
    each_of_grows (m ∷ ms) body st ok =
        let (g, good) = body m (Memᴰ.head refl) st ok in
        let (g', all) = each_of_grows ms (λ m' h. body m' (Memᴰ.tail h)) (f m st) (ok_stable st (f m st) g ok) in (
          grow_trans P Q Start g g',
          λ m' h. elim (Memᴰ.cases_cons h) [
            | inl p ↦ subst (λ (j : ℕ). Good j (each_of ms f (f m st))) (sym p) (stable m (f m st) (each_of ms f (f m st)) g' good)
            | inr p ↦ all m' p
          ],
        )

  pub where_grows : (Good : State → Type 0) (f : State → State) (st : State) (b : Bool)
      → (T b → Grow P Q Start st (f st) × Good (f st)) → Grow P Q Start st (where_yes b f st) × (T b → Good (where_yes b f st))
  where_grows Good f st true h = let r = h tt in (r.0, λ _. r.1)
  where_grows Good f st false h = (same, λ t. absurd t)
