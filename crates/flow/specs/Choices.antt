-- The problems about cells, by name: their relations and their default starts.
use Rattle.std.specs.Prelude.{◌≡◌, ℕ, List, Some, None, codes, Option, ◌≢◌}
use Rattle.flow.specs.CellFacts.{facts_in, from_each}
use Rattle.flow.specs.Raw.{raw_in}
use Rattle.flow.specs.Relation.{Rule}
use Rattle.flow.specs.Unset.{unset_in}
use Rattle.flow.specs.declared.choice.Choice.{Choice}
use Rattle.flow.specs.declared.choice.Choice.TheVariants.{Unset, Raw}
use Rattle.flow.specs.declared.interface.Start.{Start}

-- the problem's own number
abbrev pub number : Choice → ℕ
number Unset = 1
number Raw = 2

-- the relation over g globals and l locals
abbrev pub rule_of : Choice → ℕ → ℕ → Rule
rule_of Unset g l = unset_in g l
rule_of Raw g l = raw_in g l

-- the default starts
abbrev pub starts_of : Choice → ℕ → ℕ → List Start
starts_of Unset g l = from_each 0 (facts_in g l)
starts_of Raw g l = from_each 0 1

-- a text is the name of a problem, or of none
abbrev pub Named : List ℕ → Option Choice → Type 0
Named name None = (name ≢ codes "unset") × (name ≢ codes "raw")
Named name (Some Unset) = name ≡ codes "unset"
Named name (Some Raw) = name ≡ codes "raw"
