-- The check of a trail: where the moves lead, move by move.
use Rattle.std.specs.Prelude.{◌≡◌, ℕ, ◌+◌, ◌<◌, Bool, true, false, cond, ◌↔◌, List, [], ◌∷◌, Some, None, Option, ◌==◌, nat_lt}
use Rattle.listing.specs.declared.statement.Statement.TheVariants.{Call}
use Rattle.flow.specs.Relation.{Rule, Within}
use Rattle.moves.specs.declared.moves.Kind.{Kind}
use Rattle.moves.specs.declared.moves.Kind.TheVariants as kind
use Rattle.moves.specs.declared.moves.Move.{Move}
use Rattle.paths.specs.Supergraph.{successors, Supergraph, Lawful, by_step, by_past, by_call, by_return}
use Rattle.paths.specs.Paths.{Matched}
use Rattle.paths.specs.Machine.{both, Shape, straight, calling, returning, nothing, shape}

-- before the first move, or at a point with a fact and the calls that are open
pub data Spot : Type 0 where
  nowhere : Spot
  at_spot : (open_calls : List ℕ) (n d : ℕ) → Spot

-- m is one of some numbers
abbrev pub among : ℕ → List ℕ → Bool
among m [] = false
among m (k ∷ ks) = cond (m == k) true (among m ks)

-- the spot z, where a test says yes
abbrev pub guard : Bool → Spot → Option Spot
guard true z = Some z
guard false z = None

-- (m, e) is the entry of a procedure with a fact
abbrev pub start_ok : Supergraph → (N F m e : ℕ) → Bool
start_ok P N F m e = both (nat_lt m N) (both (nat_lt e F) (m == P.entry (P.proc m)))

module _ (P : Supergraph) (Q : Rule) (N F : ℕ) where
  -- a step from (n, d) to (m, e) is lawful
  abbrev pub step_ok : Shape → (n d m e : ℕ) → Bool
  step_ok (straight s) n d m e = both (among m (successors n s)) (by_step Q n s d e)
  step_ok (calling _ _ _) n d m e = false
  step_ok (returning _) n d m e = false
  step_ok nothing n d m e = false

  -- a move past the call at n
  abbrev pub past_ok : Shape → (n d m e : ℕ) → Bool
  past_ok (straight _) n d m e = false
  past_ok (calling D q S) n d m e = both (m == n + 1) (by_past Q n (Call D q S) d e)
  past_ok (returning _) n d m e = false
  past_ok nothing n d m e = false

  -- a move into the callee of the call at n
  abbrev pub call_ok : Shape → (n d m e : ℕ) → Bool
  call_ok (straight _) n d m e = false
  call_ok (calling D q S) n d m e = both (m == P.entry q.0) (by_call Q n (Call D q S) d e)
  call_ok (returning _) n d m e = false
  call_ok nothing n d m e = false

  -- from the exit n of the procedure that the call c calls
  abbrev pub return_ok : Shape → Shape → (c n d m e : ℕ) → Bool
  return_ok (straight _) τ c n d m e = false
  return_ok (calling D q S) (straight _) c n d m e = false
  return_ok (calling D q S) (calling _ _ _) c n d m e = false
  return_ok (calling D q S) (returning V) c n d m e = both (n == P.exit q.0) (both (m == c + 1) (by_return Q c (Call D q S) V d e))
  return_ok (calling D q S) nothing c n d m e = false
  return_ok (returning _) τ c n d m e = false
  return_ok nothing τ c n d m e = false

  -- where a move of a kind to (m, e) leads from (n, d) with the open calls o
  abbrev pub move_on : Kind → List ℕ → (n d m e : ℕ) → Option Spot
  move_on kind.Start o n d m e = None
  move_on kind.Step o n d m e = guard (step_ok (shape (P.at n)) n d m e) (at_spot o m e)
  move_on kind.Past o n d m e = guard (past_ok (shape (P.at n)) n d m e) (at_spot o m e)
  move_on kind.Call o n d m e = guard (call_ok (shape (P.at n)) n d m e) (at_spot (n ∷ o) m e)
  move_on kind.Return [] n d m e = None
  move_on kind.Return (c ∷ o) n d m e = guard (return_ok (shape (P.at c)) (shape (P.at n)) c n d m e) (at_spot o m e)

  -- a start: the entry of a procedure, with a fact
  abbrev pub start_on : Kind → (m e : ℕ) → Option Spot
  start_on kind.Start m e = guard (start_ok P N F m e) (at_spot [] m e)
  start_on kind.Step m e = None
  start_on kind.Past m e = None
  start_on kind.Call m e = None
  start_on kind.Return m e = None

  -- where a move leads from a spot
  abbrev pub move : Spot → Move → Option Spot
  move nowhere w = start_on w.kind w.point.0 w.fact.0
  move (at_spot o n d) w = move_on w.kind o n d w.point.0 w.fact.0

  -- the same, from where earlier moves led, if anywhere
  abbrev pub moved : Option Spot → Move → Option Spot
  moved None w = None
  moved (Some z) w = move z w

  -- where the moves, the latest first, lead
  abbrev pub spot_of : List Move → Option Spot
  spot_of [] = Some nowhere
  spot_of (w ∷ us) = moved (spot_of us) w

-- the moves are a call-matched path from some start
pub record PathAlong (P : Supergraph) (Q : Rule) (K F : ℕ) (us : List Move) (o : List ℕ) (n d : ℕ) : Type 0 where
  pub proc : ℕ
  pub origin : ℕ
  pub proc_ok : proc < K
  pub origin_ok : origin < F
  pub path : Matched P Q proc origin us o n d

-- moves lead to a spot if and only if they are a call-matched path from some start to it
abbrev pub Checks : Type 0
Checks = (P : Supergraph) (Q : Rule) (N K F : ℕ) → Lawful P N K → Within F Q
    → (us : List Move) (o : List ℕ) (n d : ℕ) → (spot_of P Q N F us ≡ Some (at_spot o n d)) ↔ PathAlong P Q K F us o n d
