-- A text that is too long is refused as its first 32,769 bytes are.
use Rattle.std.proofs.Common.{◌≡◌, ℕ, ◌<◌, List, [], ◌++◌, length, take, IfSome, Some, None, Err, Option, sym, ap, subst, ◌∙◌, inl, inr, arith}
use Rattle.std.specs.Option.{option_map}
use Rattle.std.proofs.lemmas.Bool.{cases_lt}
use Rattle.std.proofs.lemmas.List.{length-take, take_all}
use Rattle.std.proofs.lemmas.Bool.Decides.{nat_tests}
use Rattle.draft.specs.declared.question.Question.TheVariants.{Size}
use Rattle.text.specs.Reading.{outsized, reading}

too_long : (t : List ℕ) → 32768 < length t → outsized t ≡ Some 0
unfolding outsized
too_long t l = grind (arith, nat_tests)

refused_long : (t : List ℕ) → 32768 < length t → reading t ≡ Err (record { question = Size; place = 0 })
refused_long t l = rw (too_long t l)

pub reading_take : (t : List ℕ) → reading (take 32769 t) ≡ reading t
reading_take t = elim (cases_lt 32768 (length t)) [
  | inl l ↦ refused_long (take 32769 t) (omega (arith, length-take 32769 t)) ∙ sym (refused_long t l)
  | inr h ↦ ap reading (take_all 32769 t (omega arith))
]

-- what was taken of a text that is known
pub taken : (o from : Option (List ℕ)) (limit : ℕ) (items before : List ℕ)
    → IfSome (option_map (take limit) from) (λ xs. items ≡ before ++ xs) → from ≡ o → limit ≡ 32769 → before ≡ [] → IfSome o (λ t. items ≡ take 32769 t)
taken None from limit items before h e l n = tt
taken (Some t) from limit items before h e l n =
    let at : IfSome (option_map (take limit) (Some t)) (λ xs. items ≡ before ++ xs) = subst (λ z. IfSome (option_map (take limit) z) (λ xs. items ≡ before ++ xs)) e h in
    cc

pub reads_same : (o : Option (List ℕ)) (items : List ℕ) → IfSome o (λ t. items ≡ take 32769 t) → IfSome o (λ t. reading items ≡ reading t)
reads_same None items h = tt
reads_same (Some t) items h = ap reading h ∙ reading_take t
