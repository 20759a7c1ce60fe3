-- One move in words, byte for byte.
use Rattle.std.specs.Prelude.{ℕ, ◌+◌, ◌-◌, List, ◌++◌, Some, None, codes, decimal, Option}
use Rattle.moves.specs.declared.moves.Kind.{Kind}
use Rattle.moves.specs.declared.moves.Kind.TheVariants.{Start, Step, Past, Call, Return}
use Rattle.moves.specs.declared.moves.Move.{Move}
pub use Rattle.moves.specs.Names.{kind_text}
use Rattle.move_text.specs.declared.MoveLine.{MoveLine}

-- what a fact stands for, in words; `zero` where it stands for nothing
abbrev pub item_text : {I : Type 0} → (I → List ℕ) → Option I → List ℕ
item_text text None = codes "zero"
item_text text (Some i) = text i

-- what each fact stands for, in words
abbrev pub facts_text : {I : Type 0} → (I → List ℕ) → (ℕ → Option I) → ℕ → List ℕ
facts_text text stands d = item_text text (stands d)

-- `step point 1 fact 1 cell 0 open 0`: a move, what its fact stands for in words, and how many calls are open after it
abbrev pub worded : Move → List ℕ → ℕ → List ℕ
worded m item height =
    kind_text m.kind
    ++ (codes " point " ++ (decimal m.point.0
    ++ (codes " fact " ++ (decimal m.fact.0
    ++ (codes " " ++ (item
    ++ (codes " open " ++ decimal height)))))))

-- the same of a line
abbrev pub line_text : {I : Type 0} → (I → List ℕ) → MoveLine I → List ℕ
line_text text l = worded l.arriving (item_text text l.item.stands_for) l.height

-- how many calls are open after a move
abbrev pub opened : ℕ → Kind → ℕ
opened k Start = k
opened k Step = k
opened k Past = k
opened k Call = k + 1
opened k Return = k - 1

-- a move, k calls being open before it, where `facts` tells in words what each fact stands for
abbrev pub move_text : (ℕ → List ℕ) → ℕ → Move → List ℕ
move_text facts k m = worded m (facts m.fact.0) (opened k m.kind)
