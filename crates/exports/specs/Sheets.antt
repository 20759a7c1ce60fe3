-- What comes of a sheet on a page that a C program lends.
use Rattle.std.specs.Prelude.{◌≡◌, List, ℕ, Ok}
use Rattle.listing.specs.Meaning.{Meaning}
use Rattle.page.specs.Writes.{Put, Kept}
use Rattle.records.specs.Faults.{refused_of}
use Rattle.records.specs.declared.fault.Fault.TheVariants.{Full}
use Rattle.text.specs.Reading.{reading}
use Rattle.findings.specs.Listed.{told_of}
use Rattle.findings.specs.Rooms.{sheet_room}
use Rattle.exports.specs.declared.answer.Outcome.{Outcome}
use Rattle.exports.specs.declared.answer.Outcome.TheVariants.{Given, Refused, OutOfMemory}

-- the listing is read, memory is wanting, and the page is as it was
pub record Wanting (t page page' : List ℕ) : Type 0 where
  pub meaning : Meaning
  pub reads : reading t ≡ Ok meaning
  pub same : page' ≡ page

-- what is told of the listing stands at the front of the page; or it does not fit, 17 at 0, and the page is as it was; or memory is wanting
abbrev pub Sheet : List ℕ → List ℕ → List ℕ → Outcome → Type 0
Sheet t page page' (Given n) = Put (told_of t sheet_room) page n page'
Sheet t page page' (Refused r) = (r ≡ refused_of Full) × Kept (told_of t sheet_room) page page'
Sheet t page page' OutOfMemory = Wanting t page page'
