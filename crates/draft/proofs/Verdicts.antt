-- The first no about statements, question by question.
use Rattle.std.proofs.Common.{◌≡◌, ℕ, Bool, List, Some, None, Ok, Err, Option, Result, MatchResult, sym, refl, ap, ◌∙◌, subst, arith}
use Rattle.std.specs.Option.{option_map}
use Rattle.listing.specs.declared.control.Control.{Control}
use Rattle.listing.specs.declared.numbers.Point.{Point}
use Rattle.draft.specs.declared.question.Question.{Question}
use Rattle.draft.specs.declared.question.Question.TheVariants as question
use Rattle.draft.specs.declared.question.Breach.{Breach}
use Rattle.draft.specs.Rules.{unended, crowded, foreign, astray, missing, breach, or_else, asked}

-- a question that was answered yes leaves the word to the next
pub asked_yes : (q : Question) (no : Option Point) (o : Option ℕ) (later : Option Breach) → asked q no ≡ Ok tt → option_map (λ (n : Point). n.0) no ≡ o → or_else q o later ≡ later
asked_yes q None o later a e = ap (λ x. or_else q x later) (sym e)
asked_yes q (Some n) o later a e = let z : ◌≡◌ {A = ℕ} 0 1 = cc in absurd (omega arith)

pub asked_none : (q : Question) (no : Option Point) → asked q no ≡ Ok tt → option_map (λ (n : Point). n.0) no ≡ None
asked_none q None a = refl
asked_none q (Some n) a = let z : ◌≡◌ {A = ℕ} 0 1 = cc in absurd (omega arith)

-- and one that was answered no has the last word
pub asked_no : (q : Question) (no : Option Point) (o : Option ℕ) (later : Option Breach) (b : Breach) → asked q no ≡ Err b → option_map (λ (n : Point). n.0) no ≡ o → or_else q o later ≡ Some b
asked_no q None o later b a e = let z : ◌≡◌ {A = ℕ} 0 1 = cc in absurd (omega arith)
asked_no q (Some n) o later b a e = ap (λ x. or_else q x later) (sym e) ∙ cc

module _ (cs : List Control) (owned : ℕ → Bool) (ended : unended cs ≡ None) (few : crowded cs ≡ None) where
  -- after the first two questions the other three are left
  pub at_cells : breach cs owned ≡ or_else question.Cells (foreign cs owned) (or_else question.Jumps (astray cs) (or_else question.Callees (missing cs) None))
  at_cells =
      ap (λ o. or_else question.End o (or_else question.Procedures (crowded cs) (or_else question.Cells (foreign cs owned) (or_else question.Jumps (astray cs) (or_else question.Callees (missing cs) None))))) ended
      ∙ ap (λ o. or_else question.Procedures o (or_else question.Cells (foreign cs owned) (or_else question.Jumps (astray cs) (or_else question.Callees (missing cs) None)))) few

-- what holds of a value that `map_err` let through
pub mapped_ok : {T E : Type 0} (D : Type 0) (r : Result T E) (x : T) (P : T → Type 0) (Q : E → Type 0) → MatchResult r (λ y. ◌≡◌ {A = Result T D} (Ok x) (Ok y)) (λ e. ⊥) → MatchResult r P Q → P x
mapped_ok D (Ok y) x P Q same h = let e : y ≡ x = cc in subst P e h
mapped_ok D (Err e) x P Q same h = absurd same
