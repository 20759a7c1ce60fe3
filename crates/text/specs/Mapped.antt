-- A statement over other cells.
use Rattle.std.specs.Prelude.{Some, None, Option}
use Rattle.std.specs.Option.{option_map}
use Rattle.listing.specs.declared.statement.Statement.{Statement}
use Rattle.listing.specs.declared.statement.Statement.TheVariants.{Set, Move, Add, Read, Send, Goto, Test, Call, Ret, Trim}

-- what f makes of two values, where there are two
abbrev pub both : {A B C : Type 0} → (A → B → C) → Option A → Option B → Option C
both f None y = None
both f (Some a) y = option_map (f a) y

-- what f makes of three values, where there are three
abbrev pub all_three : {A B C D : Type 0} → (A → B → C → D) → Option A → Option B → Option C → Option D
all_three f None y z = None
all_three f (Some a) y z = both (f a) y z

-- the same statement over the cells that f gives, or none where f gives none
abbrev pub try_mapped : {C D : Type 0} → (C → Option D) → Statement C → Option (Statement D)
try_mapped f (Set d) = option_map Set (f d)
try_mapped f (Move d s) = both Move (f d) (f s)
try_mapped f (Add d s t) = all_three Add (f d) (f s) (f t)
try_mapped f (Read d) = option_map Read (f d)
try_mapped f (Send s) = option_map Send (f s)
try_mapped f (Goto k) = Some (Goto k)
try_mapped f (Test s k) = option_map (λ c. Test c k) (f s)
try_mapped f (Call d p s) = both (λ c. Call c p) (f d) (f s)
try_mapped f (Ret s) = option_map Ret (f s)
try_mapped f (Trim d s) = both Trim (f d) (f s)
