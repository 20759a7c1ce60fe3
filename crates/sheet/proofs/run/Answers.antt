use Rattle.std.proofs.Common.{◌≡◌, ℕ, List, Some, None, Option, IfSome, ap, ◌∙◌, subst}
use Rattle.std.specs.Io.KnownBytes.{Appends}
use Rattle.findings.specs.Rooms.{sheet_room}
use Rattle.findings.specs.Listed.{told_of, both_told}
use Rattle.text.specs.Reading.{reading}
use Rattle.telling.specs.Telling.{told_by}
use Rattle.sheet.proofs.run.Goals as goal

-- what is told of a listing that is taken is told of the whole
of_whole : (input old new : Option (List ℕ)) (taken lent told bytes : List ℕ) → IfSome input (λ t. reading taken ≡ reading t) → lent ≡ taken → told ≡ told_of lent sheet_room
    → bytes ≡ told → Appends old new bytes → IfSome input (λ t. Appends old new (told_of t sheet_room))
of_whole None old new taken lent told bytes same l h b a = tt
of_whole (Some t) old new taken lent told bytes same l h b a =
    let read : told_of taken sheet_room ≡ told_of t sheet_room = ap (told_by (λ m. both_told m sheet_room)) same in
    subst (Appends old new) (b ∙ h ∙ ap (λ (x : List ℕ). told_of x sheet_room) l ∙ read) a

pub returns : goal.returns
returns g c = of_whole _ _ _ _ _ _ _ c.in_ok-bytes.ensures.same c.as_slice.ensures.value c.in_ok-told.ensures.text c.as_bytes.ensures.value c.in_ok-write_all.ensures.bytes
