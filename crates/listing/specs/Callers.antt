-- The calls of a procedure, by point.
use Rattle.std.specs.Prelude.{ℕ, ◌+◌, Bool, false, cond, List, [], ◌∷◌, drop, Some, None, Option, ◌==◌}
use Rattle.std.specs.List.{slice_get}
use Rattle.listing.specs.declared.control.Control.{Control}
use Rattle.listing.specs.declared.control.Control.TheVariants.{Next, Goto, Test, Call, Ret}
use Rattle.listing.specs.declared.numbers.Point.{Point}
use Rattle.listing.specs.declared.numbers.Proc.{Proc}
use Rattle.listing.specs.declared.statement.Statement.{Statement}
use Rattle.listing.specs.Meaning.{Meaning, flow, point}
use Rattle.listing.specs.Statements.{controlled}

-- a call of procedure p
abbrev pub calls : ℕ → Control → Bool
calls p Next = false
calls p (Goto k) = false
calls p (Test k) = false
calls p (Call q) = q.0 == p
calls p Ret = false

-- a statement, if there is one, is a call of procedure p
abbrev pub calls_at : {C : Type 0} → Option (Statement C) → ℕ → Bool
calls_at None p = false
calls_at (Some s) p = calls p (controlled s)

-- the first call of p in a flow whose first point is n
abbrev pub first_call : ℕ → ℕ → List Control → Option Point
first_call p n [] = None
first_call p n (c ∷ cs) = cond (calls p c) (Some (point n)) (first_call p (n + 1) cs)

-- the first call of p from point n on
abbrev pub call_from : List Control → ℕ → ℕ → Option Point
call_from cs p n = first_call p n (drop n cs)

-- the first call behind point n of the procedure that is called there, if one is
abbrev pub call_after : List Control → ℕ → Option Control → Option Point
call_after cs n None = None
call_after cs n (Some Next) = None
call_after cs n (Some (Goto k)) = None
call_after cs n (Some (Test k)) = None
call_after cs n (Some (Call q)) = call_from cs q.0 (n + 1)
call_after cs n (Some Ret) = None

-- the first call of a procedure
abbrev pub first_caller_of : Meaning → Proc → Option Point
first_caller_of m p = call_from (flow m) p.0 0

-- the next call of the procedure that is called at a point
abbrev pub next_caller_of : Meaning → Point → Option Point
next_caller_of m n = call_after (flow m) n.0 (slice_get (flow m) n.0)
