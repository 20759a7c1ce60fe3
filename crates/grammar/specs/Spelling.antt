-- How a statement and the first line are written: the same format once more, by what is printed.
use Rattle.std.specs.Prelude.{◌≡◌, ℕ, ◌<◌, List, [], ◌∷◌, ◌++◌, Some, codes, decimal, Option}
use Rattle.listing.specs.declared.statement.Statement.{Statement}
use Rattle.listing.specs.declared.statement.Statement.TheVariants.{Set, Move, Add, Read, Send, Goto, Test, Call, Ret, Trim}
use Rattle.grammar.specs.declared.name.Name.{Name}
use Rattle.grammar.specs.declared.name.Name.TheVariants.{Global, Local}
use Rattle.grammar.specs.declared.name.Header.{Header}

-- words with one space (32) between
abbrev pub spaced : List (List ℕ) → List ℕ
spaced [] = []
spaced (w ∷ []) = w
spaced (w ∷ v ∷ ws) = w ++ (32 ∷ spaced (v ∷ ws))

-- a line: its words, one space between, and LF (10)
abbrev pub line_of : List (List ℕ) → List ℕ
line_of ws = spaced ws ++ (10 ∷ [])

-- a cell as it is written: `g` (103) or `l` (108), and its number
abbrev pub name_spelt : Name → List ℕ
name_spelt (Global i) = 103 ∷ decimal i
name_spelt (Local i) = 108 ∷ decimal i

-- the words of a statement
abbrev pub words_of : Statement Name → List (List ℕ)
words_of (Set d) = codes "set" ∷ name_spelt d ∷ []
words_of (Move d s) = codes "move" ∷ name_spelt d ∷ name_spelt s ∷ []
words_of (Add d s t) = codes "add" ∷ name_spelt d ∷ name_spelt s ∷ name_spelt t ∷ []
words_of (Read d) = codes "read" ∷ name_spelt d ∷ []
words_of (Send s) = codes "send" ∷ name_spelt s ∷ []
words_of (Goto k) = codes "goto" ∷ decimal k.0 ∷ []
words_of (Test s k) = codes "test" ∷ name_spelt s ∷ decimal k.0 ∷ []
words_of (Call d p s) = codes "call" ∷ name_spelt d ∷ decimal p.0 ∷ name_spelt s ∷ []
words_of (Ret s) = codes "ret" ∷ name_spelt s ∷ []
words_of (Trim d s) = codes "trim" ∷ name_spelt d ∷ name_spelt s ∷ []

-- the words of line 1, `cells G L`
abbrev pub header_words : Header → List (List ℕ)
header_words h = codes "cells" ∷ decimal h.globals ∷ decimal h.locals ∷ []

-- the number of a name has at most four digits
abbrev pub SmallName : Name → Type 0
SmallName (Global i) = i < 10000
SmallName (Local i) = i < 10000

-- each number of a statement has at most four digits
abbrev pub Small : Statement Name → Type 0
Small (Set d) = SmallName d
Small (Move d s) = SmallName d × SmallName s
Small (Add d s t) = SmallName d × (SmallName s × SmallName t)
Small (Read d) = SmallName d
Small (Send s) = SmallName s
Small (Goto k) = k.0 < 10000
Small (Test s k) = SmallName s × (k.0 < 10000)
Small (Call d p s) = SmallName d × ((p.0 < 10000) × SmallName s)
Small (Ret s) = SmallName s
Small (Trim d s) = SmallName d × SmallName s

-- both numbers of line 1 have at most four digits
abbrev pub SmallHeader : Header → Type 0
SmallHeader h = (h.globals < 10000) × (h.locals < 10000)

-- what was read of a line is x just where the line is the spelling of x, with numbers of at most four digits
pub record ReadAs {A : Type 0} (spelt : A → List ℕ) (Fit : A → Type 0) (line : List ℕ) (r : Option A) : Type 0 where
  pub only : (x : A) → r ≡ Some x → (line ≡ spelt x) × Fit x
  pub all : (x : A) → Fit x → line ≡ spelt x → r ≡ Some x

-- a line is read as a statement just where it is that statement's spelling
abbrev pub StatementSpelt : List ℕ → Option (Statement Name) → Type 0
StatementSpelt = ReadAs (λ s. line_of (words_of s)) Small

-- a line is read as line 1 just where it is its spelling
abbrev pub HeaderSpelt : List ℕ → Option Header → Type 0
HeaderSpelt = ReadAs (λ h. line_of (header_words h)) SmallHeader
