-- The pairs by their numbers are the pairs by point and then fact.
use Rattle.std.proofs.Common.{◌≡◌, ℕ, zero, suc, ◌+◌, ◌-◌, ◌*◌, ◌/◌, ◌%◌, ◌<◌, ◌≤◌, Bool, true, false, nat_lt, cond, List, [], ◌∷◌, ◌++◌, length, drop, refl, sym, ap, ◌∙◌, arith, mul-le-mul}
use Rattle.std.proofs.lemmas.Bool.{lt-ltb}
use Rattle.std.proofs.lemmas.Nat.{div-mul-add, mod-mul-add, div_below, mod_below}
use Rattle.std.proofs.lemmas.List.{append-nil, drop_at, drop_all, length-append}
use mathlib.Core.List.{append_assoc}
use Rattle.paths.specs.Page.{any_found, pairs_at, pairs_below, pairs_of}
use Rattle.paths.specs.Tabled.{Tabled}
use Rattle.paths.specs.Machine.{both}
use Rattle.std.specs.Option.{is_some}
use Rattle.table.specs.Told.{has_pair, least}
use Rattle.table.proofs.Pairs.{some_least}
use Rattle.report.specs.Pairs.{pair, pair_if_found, pairs_before}

before_at : (k j : ℕ) (t : Tabled) → j ≤ t.facts → pairs_before (k * t.facts + j) t ≡ pairs_before (k * t.facts) t ++ pairs_at j k t
before_at k zero t l =
    (let e : k * t.facts + 0 ≡ k * t.facts = omega arith in ap (λ (n : ℕ). pairs_before n t) e) ∙ sym (append-nil (pairs_before (k * t.facts) t))
before_at k (suc j) t l =
    let n : ℕ = k * t.facts + j in
    let q = div-mul-add k t.facts j (omega arith) in
    let r = mod-mul-add k t.facts j (omega arith) in
    let e : k * t.facts + suc j ≡ suc n = omega arith in
    ap (λ (m : ℕ). pairs_before m t) e
    ∙ ap (λ (xs : List (ℕ × ℕ)). xs ++ pair_if_found n t) (before_at k j t (omega arith))
    ∙ append_assoc (pairs_before (k * t.facts) t) (pairs_at j k t) (pair_if_found n t)
    ∙ ap (λ (m : ℕ). pairs_before (k * t.facts) t ++ (pairs_at j k t ++ cond (any_found t.facts m (n % t.facts) t) ((m, n % t.facts) ∷ []) [])) q
    ∙ ap (λ (m : ℕ). pairs_before (k * t.facts) t ++ (pairs_at j k t ++ cond (any_found t.facts k m t) ((k, m) ∷ []) [])) r

before_below : (k : ℕ) (t : Tabled) → pairs_before (k * t.facts) t ≡ pairs_below k t
before_below zero t = let e : 0 * t.facts ≡ 0 = omega arith in ap (λ (n : ℕ). pairs_before n t) e
before_below (suc k) t =
    let e : suc k * t.facts ≡ k * t.facts + t.facts = omega arith in
    ap (λ (n : ℕ). pairs_before n t) e
    ∙ before_at k t.facts t (omega arith)
    ∙ ap (λ (xs : List (ℕ × ℕ)). xs ++ pairs_at t.facts k t) (before_below k t)

-- at most one for each number
one_most : (b : Bool) (x : ℕ × ℕ) → length (cond b (x ∷ []) []) ≤ 1
one_most true x = omega arith
one_most false x = omega arith

pub few_before : (k : ℕ) (t : Tabled) → length (pairs_before k t) ≤ k
few_before zero t = omega arith
few_before (suc k) t =
    let e = length-append (pairs_before k t) (pair_if_found k t) in
    let one = one_most (any_found t.facts (k / t.facts) (k % t.facts) t) (pair t k) in
    let ih = few_before k t in
    omega arith

-- all of them
pub before_all : (t : Tabled) → pairs_before (t.points * t.facts) t ≡ pairs_of t
before_all t = before_below t.points t

-- those with a number from k to m
abbrev pub pairs_from : ℕ → ℕ → Tabled → List (ℕ × ℕ)
pairs_from zero k t = []
pairs_from (suc j) k t = pair_if_found k t ++ pairs_from j (suc k) t

pub before_from : (j k : ℕ) (t : Tabled) → pairs_before (k + j) t ≡ pairs_before k t ++ pairs_from j k t
before_from zero k t =
    (let e : k + 0 ≡ k = omega arith in ap (λ (n : ℕ). pairs_before n t) e) ∙ sym (append-nil (pairs_before k t))
before_from (suc j) k t =
    let e : k + suc j ≡ suc k + j = omega arith in
    ap (λ (n : ℕ). pairs_before n t) e
    ∙ before_from j (suc k) t
    ∙ append_assoc (pairs_before k t) (pair_if_found k t) (pairs_from j (suc k) t)

-- what is left of all pairs behind those with a number below k
pub left : (k : ℕ) (t : Tabled) → k ≤ t.points * t.facts
    → drop (length (pairs_before k t)) (pairs_of t) ≡ pairs_from (t.points * t.facts - k) k t
left k t l =
    ap (drop (length (pairs_before k t)))
    (sym (before_all t) ∙ ap (λ (n : ℕ). pairs_before n t) (let e : t.points * t.facts ≡ k + (t.points * t.facts - k) = omega arith in e)
    ∙ before_from (t.points * t.facts - k) k t)
    ∙ drop_at (pairs_before k t) (pairs_from (t.points * t.facts - k) k t) (length (pairs_before k t)) refl

-- whether the pair with the number k has a found cell, as the table tells it
module _ (t : Tabled) (k : ℕ) (some : 0 < t.facts) (within : k < t.points * t.facts) where
  in_range : has_pair t (k / t.facts) (k % t.facts) ≡ true
  in_range =
      ap (λ (b : Bool). both b (nat_lt (k % t.facts) t.facts)) (lt-ltb (k / t.facts) t.points (div_below k t.facts t.points some within))
      ∙ lt-ltb (k % t.facts) t.facts (mod_below k t.facts some)

  told_so : (b : Bool) → is_some (least t (k / t.facts) (k % t.facts)) ≡ b → pairs_before (suc k) t ≡ pairs_before k t ++ cond b (pair t k ∷ []) []
  told_so b e = ap (λ (x : Bool). pairs_before k t ++ cond x (pair t k ∷ []) []) (sym (some_least t (k / t.facts) (k % t.facts) in_range) ∙ e)

  -- it has none
  pub none_here : is_some (least t (k / t.facts) (k % t.facts)) ≡ false → pairs_before (suc k) t ≡ pairs_before k t
  none_here e = told_so false e ∙ append-nil (pairs_before k t)

  -- it has one
  pub some_here : is_some (least t (k / t.facts) (k % t.facts)) ≡ true → pairs_before (suc k) t ≡ pairs_before k t ++ (pair t k ∷ [])
  some_here e = told_so true e

  -- then it is the first of those left
  pub one_here : is_some (least t (k / t.facts) (k % t.facts)) ≡ true → length (pairs_before (suc k) t) ≡ suc (length (pairs_before k t))
  one_here e = ap length (told_so true e) ∙ length-append (pairs_before k t) (pair t k ∷ []) ∙ (omega arith)

  pub left_here : is_some (least t (k / t.facts) (k % t.facts)) ≡ true
      → drop (length (pairs_before k t)) (pairs_of t) ≡ pair t k ∷ pairs_from (t.points * t.facts - suc k) (suc k) t
  left_here e =
      let n : t.points * t.facts - k ≡ suc (t.points * t.facts - suc k) = omega arith in
      left k t (omega arith)
      ∙ ap (λ (j : ℕ). pairs_from j k t) n
      ∙ ap (λ (b : Bool). cond b (pair t k ∷ []) [] ++ pairs_from (t.points * t.facts - suc k) (suc k) t)
      (sym (some_least t (k / t.facts) (k % t.facts) in_range) ∙ e)

-- where none is left
pub none_left : (t : Tabled) → drop (length (pairs_before (t.points * t.facts) t)) (pairs_of t) ≡ []
none_left t = ap (λ (xs : List (ℕ × ℕ)). drop (length xs) (pairs_of t)) (before_all t) ∙ drop_all (length (pairs_of t)) (pairs_of t) (omega arith)

-- a table has at most so many pairs
pub few_pairs : (n f : ℕ) → n ≤ 1000 → f ≤ 64 → n * f ≤ 64000
few_pairs n f hn hf = mul-le-mul hn hf
