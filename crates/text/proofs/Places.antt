-- Where the lines of a text begin.
use Rattle.std.proofs.Common.{◌≡◌, ℕ, zero, suc, ◌+◌, ◌<◌, ◌≤◌, List, [], ◌∷◌, length, take, drop, sym, refl, ap, ◌∙◌, subst, ⊎_elim, arith}
use Rattle.std.proofs.lemmas.List.{drop-drop, length-drop, length-take-le, at_drop_all}
use Rattle.std.proofs.lemmas.Bool.{cases_lt}
use Rattle.text.specs.Lines.{lines, place}
use Rattle.text.proofs.Scans.{first_line}

place_step : (t : List ℕ) (k n : ℕ) → k ≤ length t → lines (drop (place n (lines (drop k t))) (drop k t)) ≡ drop n (lines (drop k t)) → lines (drop (place (suc n) (take k t ∷ lines (drop k t))) t) ≡ drop (suc n) (take k t ∷ lines (drop k t))
place_step t k n l h =
    ap (λ m. lines (drop (m + place n (lines (drop k t))) t)) (length-take-le k t l)
    ∙ (ap lines (sym (drop-drop (place n (lines (drop k t))) k t)) ∙ h)

-- from the place of line n on stand the lines from n on
pub place_lines : (n : ℕ) (t : List ℕ) → lines (drop (place n (lines t)) t) ≡ drop n (lines t)
place_lines zero t = refl
place_lines (suc n) [] = refl
place_lines (suc n) (b ∷ t) =
    let f = first_line (b ∷ t) (omega arith) in
    subst (λ (ls : List (List ℕ)). lines (drop (place (suc n) ls) (b ∷ t)) ≡ drop (suc n) ls) (sym f.2)
    (place_step (b ∷ t) f.0 n (omega (arith, f.1)) (place_lines n (drop f.0 (b ∷ t))))

pub place_within : (n : ℕ) (t : List ℕ) → n < length (lines t) → place n (lines t) < length t
place_within n t l =
    ⊎_elim (λ h. h)
    (λ past. absurd (omega (arith, ap length (sym (place_lines n t) ∙ at_drop_all lines t (place n (lines t)) past), length-drop n (lines t))))
    (cases_lt (place n (lines t)) (length t))

pub place_more : (ls ys : List (List ℕ)) (n : ℕ) (l : List ℕ) → drop n ls ≡ l ∷ ys → place (suc n) ls ≡ place n ls + length l
place_more [] ys zero l h = let z : ◌≡◌ {A = ℕ} 0 1 = cc in absurd (omega arith)
place_more [] ys (suc n) l h = let z : ◌≡◌ {A = ℕ} 0 1 = cc in absurd (omega arith)
place_more (a ∷ more) ys zero l h = let e : a ≡ l = cc in omega (arith, ap length e)
place_more (a ∷ more) ys (suc n) l h = omega (arith, place_more more ys n l h)
