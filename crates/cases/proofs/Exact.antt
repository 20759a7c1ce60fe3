-- A table's pairs are those that call-matched paths reach.
use Rattle.std.proofs.Common.{◌≡◌, ℕ, Bool, true, false, cond, T, eqb, ◌⊎◌, ◌↔◌, List, [], ◌∷◌, subst, ap, ◌∙◌, inl, inr}
use mathlib.Core.List.Memᴰ
use mathlib.Core.List.{Memᴰ}
use lib.Dec.{eqb_refl, eqb→eq}
use Rattle.listing.specs.Meaning.{Meaning, size, procs}
use Rattle.listing.specs.Lawful.{is_lawful}
use Rattle.flow.specs.Relation.{Rule, Within}
use Rattle.paths.specs.Machine.{both, State}
use Rattle.paths.specs.Paths.{ReachedPair}
use Rattle.paths.specs.Rows.{Row, Closed, pairs_below}
use Rattle.paths.specs.Supergraph.{graph_of}
use Rattle.paths.specs.Theorem.{Accepted}
use Rattle.paths.proofs.Grow.{both_left, both_right, both_two}
use Rattle.paths.proofs.Listed.{listing}
use Rattle.paths.proofs.Cover.{after}

-- after a row of calls, by its theorem
pub exact_by : (m : Meaning) → is_lawful m ≡ true → (F : ℕ) (Q : Rule) → Within F Q → (st : State) (starts : List (ℕ × ℕ))
    → Row (graph_of m) Q (size m) (procs m) F Closed st starts → (pairs : List (ℕ × ℕ)) → pairs_below F (size m) st ≡ pairs
    → (n d : ℕ) → Memᴰ (n, d) pairs ↔ ReachedPair (graph_of m) Q (Accepted starts) n d
exact_by m lawful F Q within st starts row pairs same n d =
    subst (λ ps. Memᴰ (n, d) ps ↔ ReachedPair (graph_of m) Q (Accepted starts) n d) same
    ((after (graph_of m) Q (size m) (procs m) F (listing m lawful) within Closed st starts row).lines tt n d)

-- whether a pair is one of some
abbrev pub has : ℕ × ℕ → List (ℕ × ℕ) → Bool
has x [] = false
has x (y ∷ ys) = cond (both (eqb x.0 y.0) (eqb x.1 y.1)) true (has x ys)

pub has_of : (x : ℕ × ℕ) (ys : List (ℕ × ℕ)) → Memᴰ x ys → T (has x ys)
has_of x [] m = elim m [ ]
has_of x (y ∷ ys) m = go (Memᴰ.cases_cons m) (has_of x ys)
  where
    left : (b c : Bool) → T b → T (cond b true c)
    left true c t = tt
    left false c t = absurd t

    right : (b c : Bool) → T c → T (cond b true c)
    right true c t = tt
    right false c t = t

    go : (x ≡ y) ⊎ Memᴰ x ys → (Memᴰ x ys → T (has x ys)) → T (has x (y ∷ ys))
    go (inl e) ih = left (both (eqb x.0 y.0) (eqb x.1 y.1)) (has x ys)
        (subst (λ (z : ℕ × ℕ). T (both (eqb x.0 z.0) (eqb x.1 z.1))) e
        (both_two (eqb x.0 x.0) (eqb x.1 x.1) (eqb_refl x.0) (eqb_refl x.1)))
    go (inr h) ih = right (both (eqb x.0 y.0) (eqb x.1 y.1)) (has x ys) (ih h)

same : (x y : ℕ × ℕ) → x.0 ≡ y.0 → x.1 ≡ y.1 → x ≡ y
same x y p q = ap (λ (k : ℕ). (k, x.1)) p ∙ ap (λ (k : ℕ). (y.0, k)) q

pub has_in : (x : ℕ × ℕ) (ys : List (ℕ × ℕ)) → T (has x ys) → Memᴰ x ys
has_in x [] t = absurd t
has_in x (y ∷ ys) t = by (both (eqb x.0 y.0) (eqb x.1 y.1)) (has x ys) agree t (has_in x ys)
  where
    agree : T (both (eqb x.0 y.0) (eqb x.1 y.1)) → x ≡ y
    agree h = same x y (eqb→eq x.0 y.0 (both_left (eqb x.0 y.0) (eqb x.1 y.1) h)) (eqb→eq x.1 y.1 (both_right (eqb x.0 y.0) (eqb x.1 y.1) h))

    by : (v w : Bool) → (T v → x ≡ y) → T (cond v true w) → (T w → Memᴰ x ys) → Memᴰ x (y ∷ ys)
    by true w e t ih = Memᴰ.head (e tt)
    by false w e t ih = Memᴰ.tail (ih t)
