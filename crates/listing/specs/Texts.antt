-- Cells and facts in words.
use Rattle.std.specs.Prelude.{ℕ, List, ◌++◌, codes, decimal}
use Rattle.listing.specs.declared.numbers.Cell.{Cell}
use Rattle.listing.specs.declared.numbers.Fact.{Fact}

-- `cell C`
abbrev pub cell_text : Cell → List ℕ
cell_text c = codes "cell " ++ decimal c.0

-- `fact D`
abbrev pub fact_text : Fact → List ℕ
fact_text d = codes "fact " ++ decimal d.0
