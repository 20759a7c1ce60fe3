-- What going back over a move does to a walk and to its memory for calls.
use Rattle.std.specs.Prelude.{◌≡◌, ℕ, ◌≤◌, List, map, length, Some, None, Ok, Err, Option, Result}
use Rattle.moves.specs.declared.moves.Kind.TheVariants as kind
use Rattle.paths.specs.Tabled.{Tabled, record_at, cell_at}
use Rattle.paths.specs.Words.{kind_of}
use Rattle.records.specs.declared.record.Record.{Record}
use Rattle.stack.specs.declared.Full.{Full}
use Rattle.stack.specs.Stack.{held}
use Rattle.trail.specs.declared.walk.Walk.{Walk}
use Rattle.trail.specs.declared.walk.Stride.{Stride}
use Rattle.trail.specs.Walk.{Place, place, Turn, turn, entry_by, turn_at}

-- the calls to which the callees lead out, whose records a stack of this height holds
abbrev pub opens : List Record → ℕ → List ℕ
opens calls height = map (λ r. r.first) (held calls height)

-- where a walk is
abbrev pub place_of : List Record → Walk → Place
place_of calls w = place w.cell (opens calls w.height)

-- where a walk is, if it goes on
abbrev pub before_of : List Record → Option Walk → Option Place
before_of calls None = None
before_of calls (Some w) = Some (place_of calls w)

-- the move that was gone back over, and where the walk is before it
abbrev pub turn_of : List Record → Stride → Turn
turn_of calls s = turn s.arrives.kind (before_of calls s.before)

-- the memory has the records of the callees
abbrev pub Within : List Record → Option Walk → Type 0
Within calls None = Unit {0}
Within calls (Some w) = w.height ≤ length calls

-- a move to an entry was gone back over
pub record Enters (w : Walk) (calls : List Record) (outside s : Stride) : Type 0 where
  pub turns : turn_of calls s ≡ entry_by (turn_of calls outside) (opens calls w.height)
  pub point : s.arrives.point ≡ outside.arrives.point
  pub fact : s.arrives.fact ≡ outside.arrives.fact
  pub within : Within calls s.before

-- the move to a walk's cell was gone back over
pub record Strode (t : Tabled) (w : Walk) (calls : List Record) (s : Stride) (calls' : List Record) : Type 0 where
  pub turns : turn_of calls' s ≡ turn_at t (place_of calls w)
  pub point : s.arrives.point.0 ≡ (cell_at t.facts w.cell).point
  pub fact : s.arrives.fact.0 ≡ (cell_at t.facts w.cell).fact
  pub within : Within calls' s.before

-- that leads into another callee, and the memory is full
pub record Stuck (t : Tabled) (w : Walk) (calls : List Record) : Type 0 where
  pub returns : kind_of (record_at t w.cell).kind ≡ kind.Return
  pub full : length calls ≤ w.height

-- the move was gone back over; or the memory for calls is full
abbrev pub Strides : Tabled → Walk → List Record → Result Stride Full → List Record → Type 0
Strides t w calls (Ok s) calls' = Strode t w calls s calls'
Strides t w calls (Err e) calls' = Stuck t w calls
