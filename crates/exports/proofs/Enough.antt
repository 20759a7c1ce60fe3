-- A refused listing is told alike in every room.
use Rattle.std.proofs.Common.{◌≡◌, ℕ, List, Ok, Err, Result, OnErr, refl, ap}
use Rattle.draft.specs.declared.question.Refusal.{Refusal}
use Rattle.listing.specs.Meaning.{Meaning}
use Rattle.text.specs.Reading.{reading}
use Rattle.telling.specs.Telling.{told_by}
use Rattle.findings.specs.Listed.{both_told, told_of}
use Rattle.findings.specs.declared.room.Room.{Room}

-- with as many records for one that is read
pub told_enough : (t : List ℕ) (n : ℕ) (room : Room) → ((m : Meaning) → reading t ≡ Ok m → n ≡ room.records) → told_of t (record { records = n; page = room.page }) ≡ told_of t room
told_enough t n room enough = go (reading t) refl
  where
    go : (r : Result Meaning Refusal) → reading t ≡ r → told_by (λ m. both_told m (record { records = n; page = room.page })) r ≡ told_by (λ m. both_told m room) r
    go (Ok m) e = ap (λ (k : ℕ). both_told m (record { records = k; page = room.page })) (enough m e)
    go (Err x) e = refl

-- what holds anyway
pub on_err : {A B : Type 0} → (o : Result A B) (P : Type 0) → P → OnErr o P
on_err (Ok x) P p = tt
on_err (Err e) P p = p
