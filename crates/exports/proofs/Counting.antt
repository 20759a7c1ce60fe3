-- The count of a listing's program, from what is known of the program and the problem that were made.
use Rattle.std.proofs.Common.{◌≡◌, ℕ, Bool, true, List, Ok, Result, sym, ap, ◌∙◌, subst}
use Rattle.draft.specs.declared.question.Refusal.{Refusal}
use Rattle.listing.specs.Meaning.{Meaning}
use Rattle.text.specs.Reading.{reading, meaning_of}
use Rattle.flow.specs.CellFacts.{facts_in, from_each}
use Rattle.flow.specs.Choices.{rule_of}
use Rattle.flow.specs.declared.choice.Choice.TheVariants.{Unset}
use Rattle.paths.specs.Does.{handed}
use Rattle.given_problem.specs.Given.{fits}
use Rattle.given_problem.specs.Rows.{rows_of}
use Rattle.exports.specs.Counted.{cells_settled, settled_by_rows, settled_of_unset, Gives, Of, WhereFits}
use Rattle.exports.specs.declared.answer.Outcome.{Outcome}

-- what is known of the text that holds a listing is known of the listing
pub of_read : (Comes : Meaning → Outcome → Type 0) (listing text : List ℕ) (o : Outcome) → reading listing ≡ Ok (meaning_of listing) → text ≡ listing → Comes (meaning_of text) o
    → Of Comes (reading listing) o
of_read Comes listing text o reads holds comes =
    subst (λ (r : Result Meaning Refusal). Of Comes r o) (sym reads) (subst (λ (t : List ℕ). Comes (meaning_of t) o) holds comes)

-- the rows are those of a relation that fits
pub where_fits : (m : Meaning) (given rows : List ℕ) (f facts : ℕ) (o : Outcome) → rows ≡ rows_of given → facts ≡ f → fits m given f ≡ true → Gives (settled_by_rows m rows facts) o
    → WhereFits (fits m given f) (Gives (settled_by_rows m (rows_of given) f)) o
where_fits m given rows f facts o same many fitting gives =
    subst (λ (b : Bool). WhereFits b (Gives (settled_by_rows m (rows_of given) f)) o) (sym fitting)
    (subst (λ (n : ℕ). Gives n o)
    (ap (λ (r : List ℕ). settled_by_rows m r facts) same ∙ ap (λ (k : ℕ). settled_by_rows m (rows_of given) k) many) gives)

-- the problem has the counts of the program
pub of_counts : (m : Meaning) (g l : ℕ) (o : Outcome) → g ≡ m.globals → l ≡ m.locals
    → Gives (cells_settled (handed m (rule_of Unset g l) (facts_in g l)) (from_each 0 (facts_in g l))) o → Gives (settled_of_unset m) o
of_counts m g l o globals locals gives =
    let count : ℕ → ℕ → ℕ = λ x y. cells_settled (handed m (rule_of Unset x y) (facts_in x y)) (from_each 0 (facts_in x y)) in
    subst (λ (n : ℕ). Gives n o) (ap (λ (x : ℕ). count x l) globals ∙ ap (λ (y : ℕ). count m.globals y) locals) gives
