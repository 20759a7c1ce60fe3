-- The pairs of a report: which they are, and that they ascend.
use Rattle.std.proofs.Common.{◌≡◌, ℕ, zero, suc, ◌<◌, Bool, true, false, cond, T, ◌⊎◌, List, [], ◌∷◌, ◌++◌, sym, refl, ap, ◌∙◌, subst, inl, inr, arith, ltb→lt, lt→ltb}
use mathlib.Core.List.Memᴰ
use mathlib.Core.List.{Memᴰ}
use Rattle.paths.specs.Table.{cell}
use Rattle.paths.specs.Machine.{State, is_found}
use Rattle.paths.specs.Rows.{any_found, pairs_at, pairs_below, Less, Ascending}
use Rattle.paths.proofs.Grow.{IsFound}
use Rattle.paths.proofs.Loops.{below_suc}

any_in : (k n d : ℕ) (st : State) → T (any_found k n d st) → (a : ℕ) × IsFound st (cell n a d)
any_in zero n d st t = absurd t
any_in (suc k) n d st t = go (is_found (cell n k d) st) (ltb→lt 0 (st.table (cell n k d)).rank) t (any_in k n d st)
  where
    go : (b : Bool) → (T b → IsFound st (cell n k d)) → T (cond b true (any_found k n d st))
        → (T (any_found k n d st) → (a : ℕ) × IsFound st (cell n a d)) → (a : ℕ) × IsFound st (cell n a d)
    go true h t ih = (k, h tt)
    go false h t ih = ih t

or_left : (b c : Bool) → T b → T (cond b true c)
or_left true c t = tt
or_left false c t = absurd t

or_right : (b c : Bool) → T c → T (cond b true c)
or_right true c t = tt
or_right false c t = t

any_of : (k n d a : ℕ) (st : State) → a < k → IsFound st (cell n a d) → T (any_found k n d st)
any_of zero n d a st h f = absurd (omega arith)
any_of (suc k) n d a st h f = go (below_suc a k h) (any_of k n d a st)
  where
    go : (a < k) ⊎ (k ≡ a) → (a < k → IsFound st (cell n a d) → T (any_found k n d st)) → T (any_found (suc k) n d st)
    go (inl p) ih = or_right (is_found (cell n k d) st) (any_found k n d st) (ih p f)
    go (inr p) ih = or_left (is_found (cell n k d) st) (any_found k n d st)
        (lt→ltb 0 (st.table (cell n k d)).rank (subst (λ (j : ℕ). IsFound st (cell n j d)) (sym p) f))

-- a list of one, where a test says yes
one_in : (b : Bool) (z x : ℕ × ℕ) → Memᴰ x (cond b (z ∷ []) []) → (x ≡ z) × T b
one_in true z x m = (Memᴰ.eq_of_singleton m, tt)
one_in false z x m = elim m [ ]

one_of : (b : Bool) (z : ℕ × ℕ) → T b → Memᴰ z (cond b (z ∷ []) [])
one_of true z t = Memᴰ.head refl
one_of false z t = absurd t

one_ascends : (b : Bool) (z : ℕ × ℕ) → Ascending (cond b (z ∷ []) [])
one_ascends true z = ((λ y m. elim m [ ]), tt)
one_ascends false z = tt

at_in : (F k n : ℕ) (st : State) (x : ℕ × ℕ) → Memᴰ x (pairs_at F k n st) → (x.0 ≡ n) × (x.1 < k) × T (any_found F x.0 x.1 st)
at_in F zero n st x m = elim m [ ]
at_in F (suc k) n st x m = go (Memᴰ.append_cases (pairs_at F k n st) m) (at_in F k n st x)
  where
    go : Memᴰ x (pairs_at F k n st) ⊎ Memᴰ x (cond (any_found F n k st) ((n, k) ∷ []) [])
        → (Memᴰ x (pairs_at F k n st) → (x.0 ≡ n) × (x.1 < k) × T (any_found F x.0 x.1 st))
        → (x.0 ≡ n) × (x.1 < suc k) × T (any_found F x.0 x.1 st)
    go (inl m) ih = let r = ih m in (r.0, (let h = r.1 in omega arith), r.2)
    go (inr m) ih =
        let r = one_in (any_found F n k st) (n, k) x m in
        subst (λ (y : ℕ × ℕ). (y.0 ≡ n) × (y.1 < suc k) × T (any_found F y.0 y.1 st)) (sym r.0) (refl, omega arith, r.1)

at_of : (F k n d : ℕ) (st : State) → d < k → T (any_found F n d st) → Memᴰ (n, d) (pairs_at F k n st)
at_of F zero n d st h t = absurd (omega arith)
at_of F (suc k) n d st h t = go (below_suc d k h) (at_of F k n d st)
  where
    go : (d < k) ⊎ (k ≡ d) → (d < k → T (any_found F n d st) → Memᴰ (n, d) (pairs_at F k n st)) → Memᴰ (n, d) (pairs_at F (suc k) n st)
    go (inl p) ih = Memᴰ.append_left (cond (any_found F n k st) ((n, k) ∷ []) []) (ih p t)
    go (inr p) ih =
        subst (λ (j : ℕ). Memᴰ (n, j) (pairs_at F (suc k) n st)) p
        (Memᴰ.append_right (pairs_at F k n st) (one_of (any_found F n k st) (n, k) (subst (λ (j : ℕ). T (any_found F n j st)) (sym p) t)))

below_in : (F k : ℕ) (st : State) (x : ℕ × ℕ) → Memᴰ x (pairs_below F k st) → (x.0 < k) × T (any_found F x.0 x.1 st)
below_in F zero st x m = elim m [ ]
below_in F (suc k) st x m = go (Memᴰ.append_cases (pairs_below F k st) m) (below_in F k st x)
  where
    go : Memᴰ x (pairs_below F k st) ⊎ Memᴰ x (pairs_at F F k st)
        → (Memᴰ x (pairs_below F k st) → (x.0 < k) × T (any_found F x.0 x.1 st)) → (x.0 < suc k) × T (any_found F x.0 x.1 st)
    go (inl m) ih = let r = ih m in ((let h = r.0 in omega arith), r.1)
    go (inr m) ih = let r = at_in F F k st x m in ((let h = r.0 in omega arith), r.2)

below_of : (F k n d : ℕ) (st : State) → n < k → d < F → T (any_found F n d st) → Memᴰ (n, d) (pairs_below F k st)
below_of F zero n d st h hd t = absurd (omega arith)
below_of F (suc k) n d st h hd t = go (below_suc n k h) (below_of F k n d st)
  where
    go : (n < k) ⊎ (k ≡ n) → (n < k → d < F → T (any_found F n d st) → Memᴰ (n, d) (pairs_below F k st))
        → Memᴰ (n, d) (pairs_below F (suc k) st)
    go (inl p) ih = Memᴰ.append_left (pairs_at F F k st) (ih p hd t)
    go (inr p) ih =
        Memᴰ.append_right (pairs_below F k st) (subst (λ (j : ℕ). Memᴰ (n, d) (pairs_at F F j st)) (sym p) (at_of F F n d st hd t))

joined_ascends : (xs ys : List (ℕ × ℕ)) → Ascending xs → Ascending ys
    → ((x y : ℕ × ℕ) → Memᴰ x xs → Memᴰ y ys → Less x y) → Ascending (xs ++ ys)
joined_ascends [] ys hx hy h = hy
joined_ascends (x ∷ xs) ys hx hy h = (
  (λ y m. elim (Memᴰ.append_cases xs m) [ inl m' ↦ hx.0 y m' | inr m' ↦ h x y (Memᴰ.head refl) m' ]),
  joined_ascends xs ys hx.1 hy (λ x' y m m'. h x' y (Memᴰ.tail m) m'),
)

ascending_at : (F k n : ℕ) (st : State) → Ascending (pairs_at F k n st)
ascending_at F zero n st = tt
ascending_at F (suc k) n st =
    joined_ascends (pairs_at F k n st) (cond (any_found F n k st) ((n, k) ∷ []) []) (ascending_at F k n st) (one_ascends (any_found F n k st) (n, k))
    (λ x y m m'.
    let r = at_in F k n st x m in
    let e = (one_in (any_found F n k st) (n, k) y m').0 in
    let e₀ : y.0 ≡ n = ap (λ (z : ℕ × ℕ). z.0) e in
    let e₁ : y.1 ≡ k = ap (λ (z : ℕ × ℕ). z.1) e in
    inr (r.0 ∙ sym e₀, (let h = r.1 in omega arith)))

pub ascending_below : (F k : ℕ) (st : State) → Ascending (pairs_below F k st)
ascending_below F zero st = tt
ascending_below F (suc k) st =
    joined_ascends (pairs_below F k st) (pairs_at F F k st) (ascending_below F k st) (ascending_at F F k st)
    (λ x y m m'. inl (let h = (below_in F k st x m).0 in let e = (at_in F F k st y m').0 in omega arith))

pub pair_in : (F N : ℕ) (st : State) (x : ℕ × ℕ) → Memᴰ x (pairs_below F N st) → (a : ℕ) × IsFound st (cell x.0 a x.1)
pair_in F N st x m = any_in F x.0 x.1 st (below_in F N st x m).1

pub pair_of_found : (F N : ℕ) (st : State) (n a d : ℕ) → n < N → a < F → d < F → IsFound st (cell n a d) → Memᴰ (n, d) (pairs_below F N st)
pair_of_found F N st n a d hn ha hd f = below_of F N n d st hn hd (any_of F n d a st ha f)
