-- The first line of a text, as the library's searches find it.
use Rattle.std.proofs.Common.{◌≡◌, ℕ, zero, suc, ◌+◌, ◌<◌, ◌≤◌, ◌==◌, Bool, true, false, not, List, [], ◌∷◌, ◌++◌, length, get_or, take, drop, min, Some, None, sym, refl, ap, ◌∙◌, arith}
use Rattle.std.specs.List.{position, position_or_len, IsFirstMatchOrLen}
use Rattle.std.proofs.lemmas.List.{take_at, drop_at, take_all, length-take-le}
use Rattle.std.proofs.lemmas.List.Sums.{prefix_len_passes, prefix_len_stops}
use Rattle.std.proofs.lemmas.List.Quantifiers.{position-Some}
use Rattle.std.proofs.lemmas.Bool.{cond-true, cond-false, not-true, not-false}
use Rattle.std.proofs.lemmas.Bool.Decides.{nat_tests}
use Rattle.grammar.specs.Words.{longer}
use Rattle.text.specs.Lines.{lines}

abbrev pub ends : ℕ → Bool
ends b = b == 10

-- a text whose first LF is at i begins with a line of n bytes
line_cut : (bs : List ℕ) (i n : ℕ) → n ≡ min (i + 1) (length bs) → ((k : ℕ) → k < i → k < length bs → ends (get_or bs k 0) ≡ false) → (i < length bs → ends (get_or bs i 0) ≡ true) → 0 < length bs → lines bs ≡ take n bs ∷ lines (drop n bs)
line_cut [] i n e off on l = absurd (omega arith)
line_cut (b ∷ bs) zero n e off on l =
    let one : n ≡ 1 = omega arith in
    cond-true _ _ _ (on (omega arith)) ∙ ap (λ k. take k (b ∷ bs) ∷ lines (drop k (b ∷ bs))) (sym one)
line_cut (b ∷ []) (suc i) n e off on l =
    let one : n ≡ 1 = omega arith in
    cond-false _ _ _ (off 0 (omega arith) (omega arith)) ∙ ap (λ k. take k (b ∷ []) ∷ lines (drop k (b ∷ []))) (sym one)
line_cut (b ∷ c ∷ cs) (suc i) n e off on l =
    let more : n ≡ suc (min (i + 1) (length (c ∷ cs))) = omega arith in
    cond-false _ _ _ (off 0 (omega arith) (omega arith))
    ∙ (ap (longer b) (line_cut (c ∷ cs) i _ refl (λ k h m. off (suc k) (omega arith) (omega arith)) (λ h. on (omega arith)) (omega arith))
    ∙ ap (λ k. take k (b ∷ c ∷ cs) ∷ lines (drop k (b ∷ c ∷ cs))) (sym more))

-- a text that is not empty has a first line
pub first_line : (bs : List ℕ) → 0 < length bs → (n : ℕ) × (n ≡ min (position_or_len ends bs + 1) (length bs)) × (lines bs ≡ take n bs ∷ lines (drop n bs))
first_line bs l = (
  min (position_or_len ends bs + 1) (length bs),
  refl,
  line_cut bs (position_or_len ends bs) _ refl
      (λ k h m. not-true (ends (get_or bs k 0)) (prefix_len_passes (λ b. not (ends b)) bs k 0 h))
      (λ h. not-false (ends (get_or bs (position_or_len ends bs) 0)) (prefix_len_stops (λ b. not (ends b)) bs 0 h))
      l,
)

-- the line that ends at the first LF, and the only line of a text with no LF
pub line_found : (bs : List ℕ) (n : ℕ) → position ends bs ≡ Some n → lines bs ≡ take (n + 1) bs ∷ lines (drop (length (take (n + 1) bs)) bs)
line_found bs n h =
    let p = position-Some ends bs n 0 h in
    line_cut bs n (n + 1) (omega (arith, p.0)) (λ k l m. p.2 k l) (λ l. p.1) (omega (arith, p.0))
    ∙ ap (λ k. take (n + 1) bs ∷ lines (drop k bs)) (sym (length-take-le (n + 1) bs (omega (arith, p.0))))

pub line_last : (bs : List ℕ) → 0 < length bs → position ends bs ≡ None → lines bs ≡ bs ∷ lines (drop (length bs) bs)
line_last bs l h =
    let none : length bs ≤ position_or_len ends bs = grind (arith, nat_tests) in
    let f = first_line bs l in
    let whole : f.0 ≡ length bs = omega (arith, f.1) in
    f.2 ∙ (ap (λ k. take k bs ∷ lines (drop k bs)) whole ∙ ap (λ r. r ∷ lines (drop (length bs) bs)) (take_all (length bs) bs (omega arith)))

-- the first of the parts that are cut after each LF is the first line
pub line_part : (bs x ys : List ℕ) (i : ℕ) → bs ≡ x ++ ys → length x ≡ min (i + 1) (length bs) → IsFirstMatchOrLen ends bs i → 0 < length bs → lines bs ≡ x ∷ lines ys
line_part bs x ys i e n m l =
    line_cut bs i (length x) n (λ k h b. m.0 k 0 (omega arith) h) (λ h. m.1 h 0) l
    ∙ (ap (λ r. r ∷ lines (drop (length x) bs)) (ap (take (length x)) e ∙ take_at x ys (length x) refl) ∙ ap (λ r. x ∷ lines r) (ap (drop (length x)) e ∙ drop_at x ys (length x) refl))
