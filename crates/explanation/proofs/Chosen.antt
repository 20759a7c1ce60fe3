-- What is told under a choice of a problem, where the counts are a program's.
use Rattle.std.proofs.Common.{◌≡◌, ℕ, true, List, refl, sym, ap, ◌∙◌, subst}
use Rattle.flow.specs.CellFacts.{spoken_in}
use Rattle.flow.specs.Choices.{starts_of}
use Rattle.flow.specs.declared.choice.Choice.{Choice}
use Rattle.listing.specs.Lawful.{is_lawful}
use Rattle.listing.specs.Meaning.{Meaning}
use Rattle.listing.specs.Texts.{cell_text}
use Rattle.move_text.specs.Lines.{facts_text}
use Rattle.paths.specs.Does.{Handed}
use Rattle.paths.specs.Handing.{posed}
use Rattle.starts.proofs.Defaults.{default_starts}
use Rattle.findings.specs.Outcome.{opened}
use Rattle.explanation.specs.Explained.{records_of, accepted_of, Explains}
use Rattle.explanation.specs.Told.{told_in, chosen, ChosenTells}

-- it is so of the paths from the default starts that are accepted
abbrev AcceptedIn : Choice → ℕ → ℕ → Meaning → ℕ → ℕ → List ℕ → Type 0
AcceptedIn choice g l m n d text = let h = posed choice g l m in Explains h (accepted_of h (starts_of choice g l)) m (facts_text cell_text (spoken_in g l)) n d text

module _ (choice picked : Choice) (is : choice ≡ picked) (m : Meaning) (g l : ℕ) (globals : g ≡ m.globals) (locals : l ≡ m.locals) (n d : ℕ) (text : List ℕ) where
  pub chosen_text : text ≡ told_in picked g l m n d → text ≡ chosen choice m n d
  chosen_text e =
      e ∙ ap (λ (x : ℕ). told_in picked x l m n d) globals
      ∙ ap (λ (x : ℕ). told_in picked m.globals x m n d) locals
      ∙ sym (ap (λ (o : Choice). chosen o m n d) is)

  -- the program is lawful, so the default starts that are accepted are all of them
  pub chosen_tells : is_lawful m ≡ true → AcceptedIn picked g l m n d text → ChosenTells choice m n d text
  chosen_tells lawful e =
      let here : AcceptedIn picked m.globals m.locals m n d text =
      subst (λ (x : ℕ). AcceptedIn picked m.globals x m n d text) locals (subst (λ (x : ℕ). AcceptedIn picked x l m n d text) globals e) in
      let h : Handed = posed picked m.globals m.locals m in
      subst (λ (o : Choice). ChosenTells o m n d text) (sym is)
      (subst (λ (starts : List (ℕ × ℕ)). Explains h starts m (facts_text cell_text (spoken_in m.globals m.locals)) n d text) (default_starts picked m lawful (opened h (records_of h)) refl refl) here)
