-- What a survey of a text tells.
use Rattle.std.specs.Prelude.{◌≡◌, ℕ, ◌<◌, true, false, List, length, Some, None, Option, slice_index}
use Rattle.listing.specs.Lawful.{cells_in_range}
use Rattle.grammar.specs.declared.name.Header.{Header}
use Rattle.listing.specs.declared.cells.CellCounts.{CellCounts}
use Rattle.text.specs.declared.survey.Places.{Places}
use Rattle.text.specs.Lines.{lines, place}
use Rattle.text.specs.Reading.{outsized, misformed, unranged, miscounted}

-- the counts of a header that are in range, or none
abbrev pub Ranged : Header → Option CellCounts → Type 0
Ranged h None = cells_in_range h.globals h.locals ≡ false
Ranged h (Some c) = (cells_in_range h.globals h.locals ≡ true) × (c.globals ≡ h.globals) × (c.locals ≡ h.locals)

-- the places tell where each line begins, and how many lines there are
pub record Placed (t : List ℕ) (ps : Places) : Type 0 where
  pub count : ps.count ≡ length (lines t)
  pub starts : (k : ℕ) → k < ps.count → k < 1001 → slice_index ps.starts k ≡ place k (lines t)

-- the first four questions are answered yes
pub record Surveyed (t : List ℕ) : Type 0 where
  pub sized : outsized t ≡ None
  pub whole : misformed t ≡ None
  pub ranged : unranged t ≡ None
  pub short : miscounted t ≡ None
