-- The ends of the row, by name.
use Rattle.std.specs.Prelude.{◌≡◌, ℕ, List, Some, None, codes, Option, ◌≢◌}
use Rattle.paths.specs.declared.worklist.End.{End}
use Rattle.paths.specs.declared.worklist.End.TheVariants.{Oldest, Newest}

-- a text is the name of an end, or of none
abbrev pub Named : List ℕ → Option End → Type 0
Named name None = (name ≢ codes "oldest") × (name ≢ codes "newest")
Named name (Some Oldest) = name ≡ codes "oldest"
Named name (Some Newest) = name ≡ codes "newest"
