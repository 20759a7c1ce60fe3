-- What a statement does to control, and the cells that it names.
use Rattle.std.specs.Prelude.{Bool, true, false, List, [], ◌∷◌}
use Rattle.listing.specs.declared.control.Control.{Control}
use Rattle.listing.specs.declared.control.Control.TheVariants as control
use Rattle.listing.specs.declared.statement.Statement.{Statement}
use Rattle.listing.specs.declared.statement.Statement.TheVariants.{Set, Move, Add, Read, Send, Goto, Test, Call, Ret, Trim}

-- what a statement does to control
abbrev pub controlled : {C : Type 0} → Statement C → Control
controlled (Set d) = control.Next
controlled (Move d s) = control.Next
controlled (Add d s t) = control.Next
controlled (Read d) = control.Next
controlled (Send s) = control.Next
controlled (Goto k) = control.Goto k
controlled (Test s k) = control.Test k
controlled (Call d p s) = control.Call p
controlled (Ret s) = control.Ret
controlled (Trim d s) = control.Next

-- the cells of a statement, as they are written
abbrev pub cells_of : {C : Type 0} → Statement C → List C
cells_of (Set d) = d ∷ []
cells_of (Move d s) = d ∷ s ∷ []
cells_of (Add d s t) = d ∷ s ∷ t ∷ []
cells_of (Read d) = d ∷ []
cells_of (Send s) = s ∷ []
cells_of (Goto k) = []
cells_of (Test s k) = s ∷ []
cells_of (Call d p s) = d ∷ s ∷ []
cells_of (Ret s) = s ∷ []
cells_of (Trim d s) = d ∷ s ∷ []

-- a statement ends its procedure
abbrev pub is_ret : Control → Bool
is_ret control.Next = false
is_ret (control.Goto k) = false
is_ret (control.Test k) = false
is_ret (control.Call p) = false
is_ret control.Ret = true
