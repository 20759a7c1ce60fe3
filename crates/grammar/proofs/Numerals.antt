-- The number that digits write.
use Rattle.std.proofs.Common.{◌≡◌, ℕ, ◌+◌, ◌-◌, ◌*◌, ◌%◌, ◌<◌, ◌≤◌, true, false, cond, ◌&&◌, List, [], ◌∷◌, length, Some, None, sym, refl, ap, ◌∙◌, ⊎_elim, arith, rules}
use Rattle.std.specs.Char.{is_ascii_digit}
use Rattle.std.specs.List.{fold}
use Rattle.std.specs.Str.{all_ascii_digits}
use Rattle.std.proofs.lemmas.Str.Parse.{IsNumeralModel, numerals_by_fold, digits_value_short}
use Rattle.std.proofs.Math.Nat.{mod-eq_of_lt}
use Rattle.std.proofs.lemmas.Bool.{cond-true, cond-false, cases_Bool}
use Rattle.std.proofs.lemmas.Bool.Decides.{nat_tests}
use Rattle.grammar.specs.Words.{followed, value_on, short, number}

abbrev pub read_on : ℕ → List ℕ → ℕ
read_on n [] = n
read_on n (c ∷ cs) = read_on (10 * n + (c - 48)) cs

pub own : IsNumeralModel (λ ds. all_ascii_digits ds ≡ true) (read_on 0)
own = numerals_by_fold _ (search rules) read_on (search rules)

pub value_is : (m : ℕ) (w : List ℕ) → value_on m w ≡ cond (all_ascii_digits w) (Some (read_on m w)) None
value_is m [] = refl
value_is m (c ∷ cs) =
    elim (is_ascii_digit c) as (λ b. cond b (value_on (10 * m + (c - 48)) cs) None ≡ cond (b && all_ascii_digits cs) (Some (read_on (10 * m + (c - 48)) cs)) None)
    [ true ↦ value_is (10 * m + (c - 48)) cs | false ↦ refl ]

pub number_long : (w : List ℕ) → short w ≡ false → None ≡ number w
number_long w s = sym (cond-false _ _ _ s)

grows : (n : ℕ) (w : List ℕ) → n ≤ read_on n w
grows n [] = omega arith
grows n (c ∷ cs) = omega (arith, grows (10 * n + (c - 48)) cs)

none_on : (w : List ℕ) → fold followed None w ≡ None
none_on [] = refl
none_on (c ∷ cs) = none_on cs

-- digit after digit in 16 bits is their number, where that has 16 bits
digits_on : (n : ℕ) (w : List ℕ) → all_ascii_digits w ≡ true → read_on n w < 65536 → fold followed (Some n) w ≡ Some (read_on n w)
digits_on n [] d h = refl
digits_on n (c ∷ cs) d h =
    let fits : (10 * n + (c - 48)) % 65536 ≡ 10 * n + (c - 48) = mod-eq_of_lt (omega (arith, h, grows (10 * n + (c - 48)) cs)) in
    elim (is_ascii_digit c) as (λ b. b && all_ascii_digits cs ≡ true → fold followed (cond b (Some ((10 * n + (c - 48)) % 65536)) None) cs ≡ Some (read_on (10 * n + (c - 48)) cs))
    [ true ↦ λ e. ap (λ m. fold followed (Some m) cs) fits ∙ digits_on (10 * n + (c - 48)) cs e h | false ↦ λ e. let z : ◌≡◌ {A = ℕ} 0 1 = cc in absurd (omega arith) ] d

-- and none where one of the bytes is no digit
other_on : (n : ℕ) (w : List ℕ) → all_ascii_digits w ≡ false → fold followed (Some n) w ≡ None
other_on n [] d = let z : ◌≡◌ {A = ℕ} 0 1 = cc in absurd (omega arith)
other_on n (c ∷ cs) d =
    elim (is_ascii_digit c) as (λ b. b && all_ascii_digits cs ≡ false → fold followed (cond b (Some ((10 * n + (c - 48)) % 65536)) None) cs ≡ None)
    [ true ↦ λ e. other_on ((10 * n + (c - 48)) % 65536) cs e | false ↦ λ e. none_on cs ] d

-- what digit after digit gives of a word of one to four bytes is its number
pub number_read : (w : List ℕ) → short w ≡ true → fold followed (Some 0) w ≡ number w
number_read w s =
    let four : length w ≤ 4 = grind (arith, nat_tests) in
    ⊎_elim
    (λ ds. digits_on 0 w ds (omega (arith, digits_value_short own w 4 ds four)) ∙ sym (cond-true _ _ _ s ∙ (value_is 0 w ∙ cond-true _ _ _ ds)))
    (λ ds. other_on 0 w ds ∙ sym (cond-true _ _ _ s ∙ (value_is 0 w ∙ cond-false _ _ _ ds)))
    (cases_Bool (all_ascii_digits w))
