-- The words of a line, cut at its first space.
use Rattle.std.proofs.Common.{◌≡◌, ℕ, ◌+◌, ◌-◌, ◌<◌, ◌==◌, Bool, true, false, cond, eqb, List, [], ◌∷◌, length, get_or, take, drop, Some, None, sym, refl, ap, ◌∙◌, arith, not, ◌≤◌, nat_lt}
use Rattle.std.specs.List.{position, position_or_len, slice_split, onto_first}
use Rattle.std.specs.Option.{option_map}
use Rattle.std.proofs.lemmas.List.{take_rest}
use Rattle.std.proofs.lemmas.List.Splits.{slice_split_first, slice_split_none}
use Rattle.std.proofs.lemmas.Bool.{leb-true, not-true}
use Rattle.std.proofs.lemmas.Bool.Decides.{nat_tests}
use Rattle.std.proofs.lemmas.List.Sums.{prefix_len_passes}
use Rattle.grammar.specs.Words.{longer, words, number, name}
use Rattle.grammar.proofs.Prints.{given_some}
use Rattle.grammar.specs.declared.name.Name.TheVariants.{Global, Local}

abbrev gap : ℕ → Bool
gap b = b == 32

onto : (b : ℕ) (ps : List (List ℕ)) → longer b ps ≡ onto_first b ps
onto b [] = refl
onto b (p ∷ ps) = refl

split_words : (bs : List ℕ) → words bs ≡ slice_split gap bs
split_words [] = refl
split_words (b ∷ bs) = ap (λ ws. cond (eqb b 32) ([] ∷ ws) (longer b ws)) (split_words bs) ∙ ap (λ ws. cond (eqb b 32) ([] ∷ slice_split gap bs) ws) (onto b (slice_split gap bs))

pub words_cut : (bs : List ℕ) (n : ℕ) → position gap bs ≡ Some n → words bs ≡ take n bs ∷ words (drop (n + 1) bs)
words_cut bs n h =
    let p = given_some (nat_lt (position_or_len gap bs) (length bs)) (Some (position_or_len gap bs)) n h in
    let e : position_or_len gap bs ≡ n = some_same p.1 in
    split_words bs
    ∙ (slice_split_first gap bs 0 (leb-true _ _ p.0)
    ∙ (ap (λ k. take k bs ∷ slice_split gap (drop (k + 1) bs)) e ∙ ap (λ ws. take n bs ∷ ws) (sym (split_words (drop (n + 1) bs)))))
  where
    some_same : {x y : ℕ} → Some x ≡ Some y → x ≡ y
    some_same z = cc

pub words_last : (bs : List ℕ) → position gap bs ≡ None → words bs ≡ bs ∷ []
words_last bs h =
    let none : length bs ≤ position_or_len gap bs = grind (arith, nat_tests) in
    split_words bs ∙ slice_split_none gap bs (λ k d l. not-true (gap (get_or bs k d)) (prefix_len_passes (λ b. not (gap b)) bs k d (omega arith)))

-- a cell by its letter and the part after it, as a slice pattern has it
pub name_at : (w : List ℕ) → 0 < length w → name w ≡ cond (eqb (get_or w 0 0) 103) (option_map Global (number (take (length w - 1) (drop 1 w)))) (cond (eqb (get_or w 0 0) 108) (option_map Local (number (take (length w - 1) (drop 1 w)))) None)
name_at [] l = absurd (omega arith)
name_at (c ∷ w) l = ap (λ d. cond (eqb c 103) (option_map Global (number d)) (cond (eqb c 108) (option_map Local (number d)) None)) (sym (take_rest (c ∷ w) 1))

pub name_none : (w : List ℕ) → 0 < length w → None ≡ number (take (length w - 1) (drop 1 w)) → None ≡ name w
name_none [] l h = absurd (omega arith)
name_none (c ∷ w) l h =
    let e : None ≡ number w = h ∙ ap number (take_rest (c ∷ w) 1) in
    elim (eqb c 103) as (λ s. None ≡ cond s (option_map Global (number w)) (cond (eqb c 108) (option_map Local (number w)) None)) [
      | true ↦ ap (option_map Global) e
      | false ↦ elim (eqb c 108) as (λ s. None ≡ cond s (option_map Local (number w)) None) [ true ↦ ap (option_map Local) e | false ↦ refl ]
    ]
