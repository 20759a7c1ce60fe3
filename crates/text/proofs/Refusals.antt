-- The first no to a text, question by question.
use Rattle.std.proofs.Common.{◌≡◌, ℕ, Bool, true, false, List, Some, None, Option, refl, ap, ◌∙◌, arith}
use Rattle.std.specs.Option.{option_map}
use Rattle.std.proofs.lemmas.Bool.{cond-true, cond-false, not-true}
use Rattle.draft.specs.Rules.{unless, breach}
use Rattle.draft.specs.declared.question.Question.{Question}
use Rattle.draft.specs.declared.question.Question.TheVariants.{Size, Form, Ranges, Length}
use Rattle.draft.specs.declared.question.Refusal.{Refusal}
use Rattle.text.proofs.Written.{none_from}
use Rattle.text.specs.Reading.{flow_of, owned_of, outsized, misformed, unranged, miscounted, on_line, or_next, refused, accepted}

-- a test that was failed, and one that was passed
pub unless_no : (b : Bool) (k : ℕ) → b ≡ false → unless b k ≡ Some k
unless_no b k e = cond-false _ _ _ e

pub unless_yes : (b : Bool) (k : ℕ) → b ≡ true → unless b k ≡ None
unless_yes b k e = cond-true _ _ _ e

pub passed : (b : Bool) (k : ℕ) → unless b k ≡ None → b ≡ true
passed true k h = refl
passed false k h = let z : ◌≡◌ {A = ℕ} 0 1 = cc in absurd (omega arith)

abbrev after_length : List ℕ → Option Refusal
after_length t = option_map on_line (breach (flow_of t) (owned_of t))

abbrev after_ranges : List ℕ → Option Refusal
after_ranges t = or_next Length (miscounted t) (after_length t)

abbrev after_form : List ℕ → Option Refusal
after_form t = or_next Ranges (unranged t) (after_ranges t)

abbrev after_size : List ℕ → Option Refusal
after_size t = or_next Form (misformed t) (after_form t)

abbrev no_at : Question → ℕ → Option Refusal
no_at q j = Some (record { question = q; place = j })

module _ (t : List ℕ) where
  pub no_size : (j : ℕ) → outsized t ≡ Some j → refused t ≡ no_at Size j
  no_size j e = ap (λ o. or_next Size o (after_size t)) e

  module _ (a : outsized t ≡ None) where
    past_size : refused t ≡ after_size t
    past_size = ap (λ o. or_next Size o (after_size t)) a

    pub no_form : (j : ℕ) → misformed t ≡ Some j → refused t ≡ no_at Form j
    no_form j e = past_size ∙ ap (λ o. or_next Form o (after_form t)) e

    module _ (b : misformed t ≡ None) where
      past_form : refused t ≡ after_form t
      past_form = past_size ∙ ap (λ o. or_next Form o (after_form t)) b

      pub no_ranges : (j : ℕ) → unranged t ≡ Some j → refused t ≡ no_at Ranges j
      no_ranges j e = past_form ∙ ap (λ o. or_next Ranges o (after_ranges t)) e

      module _ (c : unranged t ≡ None) where
        past_ranges : refused t ≡ after_ranges t
        past_ranges = past_form ∙ ap (λ o. or_next Ranges o (after_ranges t)) c

        pub no_length : (j : ℕ) → miscounted t ≡ Some j → refused t ≡ no_at Length j
        no_length j e = past_ranges ∙ ap (λ o. or_next Length o (after_length t)) e

        -- after the first four questions those about statements are left
        pub past_four : miscounted t ≡ None → refused t ≡ option_map on_line (breach (flow_of t) (owned_of t))
        past_four d = past_ranges ∙ ap (λ o. or_next Length o (after_length t)) d

-- what is accepted is not refused
pub not_refused : (t : List ℕ) → accepted t ≡ true → refused t ≡ None
not_refused t a = none_from (refused t) (not-true _ a)
