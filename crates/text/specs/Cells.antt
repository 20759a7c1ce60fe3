-- Names of cells, and the cells that they number.
use Rattle.std.specs.Prelude.{ℕ, ◌+◌, Option}
use Rattle.text.specs.Mapped.{try_mapped}
use Rattle.listing.specs.Meaning.{below}
use Rattle.listing.specs.declared.numbers.Cell.{Cell}
use Rattle.listing.specs.declared.statement.Statement.{Statement}
use Rattle.grammar.specs.declared.name.Name.{Name}
use Rattle.grammar.specs.declared.name.Name.TheVariants.{Global, Local}

-- of a program with g globals and l locals, global i is cell i and local i is cell g + i; other names have no cell
abbrev pub cell_of : ℕ → ℕ → Name → Option Cell
cell_of g l (Global i) = below i g (record { 0 = i })
cell_of g l (Local i) = below i l (record { 0 = g + i })

-- the same statement over the cells, or none where a name has no cell
abbrev pub numbered : ℕ → ℕ → Statement Name → Option (Statement Cell)
numbered g l = try_mapped (cell_of g l)
