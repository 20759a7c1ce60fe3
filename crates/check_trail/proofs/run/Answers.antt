use Rattle.std.proofs.Common.{◌≡◌, ℕ, List, Some, None, Option, IfSome, ap, ◌∙◌, subst}
use Rattle.std.specs.Io.KnownBytes.{Appends}
use Rattle.flow.specs.declared.choice.Choice.{Choice}
use Rattle.review.specs.Told.{told_of, over_read}
use Rattle.text.specs.Reading.{reading}
use Rattle.check_trail.proofs.run.Goals as goal

-- what is told of a listing that is taken is told of the whole
of_whole : (choice : Choice) (words : List ℕ) (input old new : Option (List ℕ)) (taken lent text bytes : List ℕ) → IfSome input (λ t. reading taken ≡ reading t) → lent ≡ taken
    → text ≡ told_of lent choice words → bytes ≡ text → Appends old new bytes → IfSome input (λ t. Appends old new (told_of t choice words))
of_whole choice words None old new taken lent text bytes same l h b a = tt
of_whole choice words (Some t) old new taken lent text bytes same l h b a =
    subst (Appends old new) (b ∙ h ∙ ap (λ (x : List ℕ). told_of x choice words) l ∙ ap (λ x. over_read x choice words) same) a

pub returns : goal.returns
returns g c = of_whole c.args.choice c.args.words.now _ _ _ _ _ _ _ c.in_ok-bytes.ensures.same c.as_slice.ensures.value c.in_ok-told.ensures c.as_bytes.ensures.value c.in_ok-write_all.ensures.bytes
