-- A statement of a program with g globals, by the names of its cells.
use Rattle.std.specs.Prelude.{ℕ, ◌-◌, cond, List, nat_lt}
use Rattle.listing.specs.declared.numbers.Cell.{Cell}
use Rattle.listing.specs.declared.statement.Statement.{Statement}
use Rattle.listing.specs.declared.statement.Statement.TheVariants.{Set, Move, Add, Read, Send, Goto, Test, Call, Ret, Trim}
use Rattle.grammar.specs.Spelling.{spaced, words_of}
use Rattle.grammar.specs.declared.name.Name.{Name}
use Rattle.grammar.specs.declared.name.Name.TheVariants.{Global, Local}

-- cell i below g is global i, and cell g + i is local i
abbrev pub name_of : ℕ → Cell → Name
name_of g c = cond (nat_lt c.0 g) (Global c.0) (Local (c.0 - g))

-- the same statement over other cells
abbrev pub mapped : {C D : Type 0} → (C → D) → Statement C → Statement D
mapped f (Set d) = Set (f d)
mapped f (Move d s) = Move (f d) (f s)
mapped f (Add d s t) = Add (f d) (f s) (f t)
mapped f (Read d) = Read (f d)
mapped f (Send s) = Send (f s)
mapped f (Goto k) = Goto k
mapped f (Test s k) = Test (f s) k
mapped f (Call d p s) = Call (f d) p (f s)
mapped f (Ret s) = Ret (f s)
mapped f (Trim d s) = Trim (f d) (f s)

-- the statement over names
abbrev pub named : ℕ → Statement Cell → Statement Name
named g = mapped (name_of g)

-- its words, with one space between: its line of a listing, without the LF
abbrev pub statement_spelt : ℕ → Statement Cell → List ℕ
statement_spelt g s = spaced (words_of (named g s))
