-- When an index is that of a flow of control.
use Rattle.std.specs.Prelude.{◌≡◌, ℕ, List, length, Some, None, Option, nat_lt, cond, map}
use Rattle.std.specs.List.{slice_get}
use Rattle.listing.specs.declared.control.Control.{Control}
use Rattle.listing.specs.declared.control.Control.TheVariants.{Next, Goto, Test, Call, Ret}
use Rattle.listing.specs.declared.numbers.Proc.{Proc}
use Rattle.listing.specs.Callers.{call_from, call_after}
use Rattle.listing.specs.Meaning.{below, point, proc}
use Rattle.listing.specs.Procedures.{rets, procedure, exit}
pub use Rattle.draft.specs.Told.{told}
use Rattle.draft.specs.declared.callers.Callers.{Callers}
use Rattle.draft.specs.declared.procedures.Procedures.{Procedures}

-- the index tells P, the procedure of each of the N points, and the exit of each procedure
pub record Describes (ps : Procedures) (cs : List Control) : Type 0 where
  pub count : ps.count ≡ rets cs
  pub homes : (n : ℕ) → told ps.homes n ≡ below n (length cs) (proc (procedure cs n))
  pub exits : (p : ℕ) → told ps.exits p ≡ below p (rets cs) (point (exit cs p))

-- the index tells the first call of each procedure, and after each call the next of the same procedure
pub record Threads (calls : Callers) (cs : List Control) : Type 0 where
  pub firsts : (p : ℕ) → told calls.first p ≡ call_from cs p 0
  pub nexts : (n : ℕ) → told calls.next n ≡ call_after cs n (slice_get cs n)

-- the procedure that is called, if one is
abbrev pub called : Option Control → Option Proc
called None = None
called (Some Next) = None
called (Some (Goto k)) = None
called (Some (Test k)) = None
called (Some (Call p)) = Some p
called (Some Ret) = None

-- control as an index of calls sees it: a call of none of the 60 procedures that a program may have counts as no call
abbrev pub bounded_call : Control → Control
bounded_call Next = Next
bounded_call (Goto k) = Goto k
bounded_call (Test k) = Test k
bounded_call (Call p) = cond (nat_lt p.0 60) (Call p) Next
bounded_call Ret = Ret

-- a flow of control as an index of calls sees it
abbrev pub bounded_calls : List Control → List Control
bounded_calls cs = map bounded_call cs
