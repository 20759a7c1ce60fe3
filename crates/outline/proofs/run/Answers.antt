use Rattle.std.proofs.Common.{◌≡◌, ℕ, List, Some, None, Option, IfSome, ap, ◌∙◌, subst}
use Rattle.std.specs.Io.KnownBytes.{Appends}
use Rattle.overview.specs.Outlined.{outlined, told}
use Rattle.text.specs.Reading.{reading}
use Rattle.outline.proofs.run.Goals as goal

-- what is told of a listing that is taken is told of the whole
of_whole : (input old new : Option (List ℕ)) (taken lent text bytes : List ℕ) → IfSome input (λ t. reading taken ≡ reading t) → lent ≡ taken → text ≡ outlined lent
    → bytes ≡ text → Appends old new bytes → IfSome input (λ t. Appends old new (outlined t))
of_whole None old new taken lent text bytes same l h b a = tt
of_whole (Some t) old new taken lent text bytes same l h b a = subst (Appends old new) (b ∙ h ∙ ap outlined l ∙ ap told same) a

pub returns : goal.returns
returns g c = of_whole _ _ _ _ _ _ _ c.in_ok-bytes.ensures.same c.as_slice.ensures.value c.in_ok-told.ensures c.as_bytes.ensures.value c.in_ok-write_all.ensures.bytes
