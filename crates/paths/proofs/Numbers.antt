-- The numbers of cells: two cells in range have two numbers, and so there are no more cells than numbers.
use Rattle.std.proofs.Common.{◌≡◌, ℕ, zero, suc, ◌+◌, ◌*◌, ◌/◌, ◌%◌, ◌<◌, ◌≤◌, ◌⊎◌, List, [], ◌∷◌, length, sym, refl, ap, ◌∙◌, subst, inl, inr, arith}
use mathlib.Core.List.Memᴰ
use mathlib.Core.List.{Memᴰ}
use native.Mathlib.Decide.{ℕ_discrete}
use lib.Arith.{digits_div, digits_mod, digits_lt}
use Rattle.paths.specs.Table.{TableCell, number_of}
use Rattle.paths.specs.Rows.{Distinct}

digits_same : (q q' : ℕ) {m r r' : ℕ} → r < m → r' < m → q * m + r ≡ q' * m + r' → (q ≡ q') × (r ≡ r')
digits_same q q' {m} {r} {r'} h h' e =
    (sym (digits_div q h) ∙ ap (λ (x : ℕ). x / m) e ∙ digits_div q' h', sym (digits_mod q h) ∙ ap (λ (x : ℕ). x % m) e ∙ digits_mod q' h')

abbrev pub InRange : ℕ → ℕ → TableCell → Type 0
InRange N F c = (c.point < N) × (c.origin < F) × (c.fact < F)

pub same_number : (N F : ℕ) (c x : TableCell) → InRange N F c → InRange N F x → number_of F c ≡ number_of F x → c ≡ x
same_number N F c x hc hx e =
    let outer = digits_same (c.point * F + c.origin) (x.point * F + x.origin) hc.2 hx.2 e in
    let inner = digits_same c.point x.point hc.1 hx.1 outer.0 in
    λ i. record { point = inner.0 i; origin = inner.1 i; fact = outer.1 i }

pub number_below : (N F : ℕ) (c : TableCell) → InRange N F c → number_of F c < N * F * F
number_below N F c h = digits_lt (digits_lt h.0 h.1) h.2

-- the elements of a list that are not m
record Without (m : ℕ) (xs : List ℕ) : Type 0 where
  left : List ℕ
  distinct : Distinct left
  shorter : length xs ≤ suc (length left)
  members : (y : ℕ) → Memᴰ y left → Memᴰ y xs × (y ≡ m → ⊥)

without : (m : ℕ) (xs : List ℕ) → Distinct xs → Without m xs
without m [] d = record { left = []; distinct = tt; shorter = omega arith; members = λ y h. elim h [ ] }
without m (x ∷ xs) d = go (ℕ_discrete x m) (without m xs d.1)
  where
    go : Dec (x ≡ m) → Without m xs → Without m (x ∷ xs)
    go (yes e) w = record {
      left = xs;
      distinct = d.1;
      shorter = omega arith;
      members = λ y h. (Memᴰ.tail h, λ e'. d.0 (subst (λ (z : ℕ). Memᴰ z xs) (e' ∙ sym e) h));
    }
    go (no ne) w = record {
      left = x ∷ w.left;
      distinct = ((λ h. d.0 (w.members x h).0), w.distinct);
      shorter = (let h = w.shorter in omega arith);
      members = λ y h. elim (Memᴰ.cases_cons h) [
        | inl e ↦ (Memᴰ.head e, λ e'. ne (sym e ∙ e'))
        | inr h' ↦ (Memᴰ.tail (w.members y h').0, (w.members y h').1)
      ];
    }

-- no more distinct numbers below k than k
few : (k : ℕ) (xs : List ℕ) → Distinct xs → ((y : ℕ) → Memᴰ y xs → y < k) → length xs ≤ k
few zero [] d h = omega arith
few zero (x ∷ xs) d h = absurd (let l = h x (Memᴰ.head refl) in omega arith)
few (suc k) xs d h =
    let w = without k xs d in
    let r = few k w.left w.distinct
    (λ y m. let p = w.members y m in let l = h y p.0 in let ne = p.1 in omega arith) in
    let s = w.shorter in
    omega arith

numbers : ℕ → List TableCell → List ℕ
numbers F [] = []
numbers F (c ∷ cs) = number_of F c ∷ numbers F cs

numbers_length : (F : ℕ) (cs : List TableCell) → length (numbers F cs) ≡ length cs
unfolding numbers
numbers_length F [] = refl
numbers_length F (c ∷ cs) = ap suc (numbers_length F cs)

numbers_in : (F : ℕ) (cs : List TableCell) (k : ℕ) → Memᴰ k (numbers F cs) → (c : TableCell) × Memᴰ c cs × (k ≡ number_of F c)
unfolding numbers
numbers_in F [] k m = elim m [ ]
numbers_in F (c ∷ cs) k m = go (Memᴰ.cases_cons m) (numbers_in F cs k)
  where
    go : (k ≡ number_of F c) ⊎ Memᴰ k (numbers F cs) → (Memᴰ k (numbers F cs) → (x : TableCell) × Memᴰ x cs × (k ≡ number_of F x))
        → (x : TableCell) × Memᴰ x (c ∷ cs) × (k ≡ number_of F x)
    go (inl e) ih = (c, Memᴰ.head refl, e)
    go (inr m') ih = let r = ih m' in (r.0, Memᴰ.tail r.1, r.2)

numbers_distinct : (N F : ℕ) (cs : List TableCell) → Distinct cs → ((c : TableCell) → Memᴰ c cs → InRange N F c) → Distinct (numbers F cs)
unfolding numbers
numbers_distinct N F [] d h = tt
numbers_distinct N F (c ∷ cs) d h = (
  (λ m.
      let (x, mx, e) = numbers_in F cs (number_of F c) m in
      d.0 (subst (λ (z : TableCell). Memᴰ z cs) (sym (same_number N F c x (h c (Memᴰ.head refl)) (h x (Memᴰ.tail mx)) e)) mx)),
  numbers_distinct N F cs d.1 (λ x m. h x (Memᴰ.tail m)),
)

pub cells_bound : (N F : ℕ) (cs : List TableCell) → Distinct cs → ((c : TableCell) → Memᴰ c cs → InRange N F c) → length cs ≤ N * F * F
cells_bound N F cs d h =
    let r = few (N * F * F) (numbers F cs) (numbers_distinct N F cs d h)
    (λ k m. let (c, mc, e) = numbers_in F cs k m in subst (λ (j : ℕ). j < N * F * F) (sym e) (number_below N F c (h c mc))) in
    let l = numbers_length F cs in
    omega arith
