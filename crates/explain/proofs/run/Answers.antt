use Rattle.std.proofs.Common.{◌≡◌, ℕ, List, Some, None, Option, IfSome, ap, ◌∙◌, subst}
use Rattle.std.specs.Io.KnownBytes.{Appends}
use Rattle.explanation.specs.Told.{told_of, over_read}
use Rattle.flow.specs.declared.choice.Choice.{Choice}
use Rattle.text.specs.Reading.{reading}
use Rattle.explain.proofs.run.Goals as goal

-- what is told of a listing that is taken is told of the whole
of_whole : (choice : Choice) (n d : ℕ) (input old new : Option (List ℕ)) (taken lent text bytes : List ℕ) → IfSome input (λ t. reading taken ≡ reading t) → lent ≡ taken
    → text ≡ told_of lent choice n d → bytes ≡ text → Appends old new bytes → IfSome input (λ t. Appends old new (told_of t choice n d))
of_whole choice n d None old new taken lent text bytes same l h b a = tt
of_whole choice n d (Some t) old new taken lent text bytes same l h b a =
    subst (Appends old new) (b ∙ h ∙ ap (λ (x : List ℕ). told_of x choice n d) l ∙ ap (λ x. over_read x choice n d) same) a

pub returns : goal.returns
returns g c = of_whole _ _ _ _ _ _ _ _ _ _ c.in_ok-bytes.ensures.same c.as_slice.ensures.value c.in_ok-told.ensures.text c.as_bytes.ensures.value c.in_ok-write_all.ensures.bytes
