-- What is told under a choice of a problem, where the counts are a program's.
use Rattle.std.proofs.Common.{◌≡◌, ℕ, true, List, refl, sym, ap, ◌∙◌, subst}
use Rattle.flow.specs.Choices.{starts_of}
use Rattle.flow.specs.declared.choice.Choice.{Choice}
use Rattle.listing.specs.Lawful.{is_lawful}
use Rattle.listing.specs.Meaning.{Meaning}
use Rattle.paths.specs.Does.{Handed}
use Rattle.paths.specs.Handing.{posed}
use Rattle.paths.specs.declared.worklist.End.{End}
use Rattle.starts.proofs.Defaults.{default_starts}
use Rattle.progress.specs.Listed.{told_in, chosen, ChosenCounted}
use Rattle.progress.specs.Progress.{first_of, accepted_of, EndsCounted}

-- how many cells are reached from the default starts that are accepted
abbrev AcceptedIn : Choice → ℕ → ℕ → Meaning → List ℕ → Type 0
AcceptedIn choice g l m text = let h = posed choice g l m in EndsCounted h (accepted_of h (starts_of choice g l)) text

module _ (choice picked : Choice) (is : choice ≡ picked) (m : Meaning) (g l : ℕ) (globals : g ≡ m.globals) (locals : l ≡ m.locals) (text : List ℕ) where
  pub chosen_text : (k : ℕ) (from : End) → text ≡ told_in picked g l m k from → text ≡ chosen choice m k from
  chosen_text k from e =
      e ∙ ap (λ (x : ℕ). told_in picked x l m k from) globals
      ∙ ap (λ (x : ℕ). told_in picked m.globals x m k from) locals
      ∙ sym (ap (λ (o : Choice). chosen o m k from) is)

  -- the program is lawful, so the default starts that are accepted are all of them
  pub chosen_counted : is_lawful m ≡ true → AcceptedIn picked g l m text → ChosenCounted choice m text
  chosen_counted lawful e =
      let here : AcceptedIn picked m.globals m.locals m text =
      subst (λ (x : ℕ). AcceptedIn picked m.globals x m text) locals (subst (λ (x : ℕ). AcceptedIn picked x l m text) globals e) in
      let h : Handed = posed picked m.globals m.locals m in
      subst (λ (o : Choice). ChosenCounted o m text) (sym is)
      (subst (λ (starts : List (ℕ × ℕ)). EndsCounted h starts text) (default_starts picked m lawful (first_of h) refl refl) here)
