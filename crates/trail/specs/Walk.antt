-- A walk back along a trail: what a move of it comes to, what is left of it, and what it needs.
use Rattle.std.specs.Prelude.{ℕ, suc, ◌+◌, ◌*◌, ◌<◌, max, List, [], ◌∷◌, length, Some, None, Option, nat_le}
use Rattle.std.specs.Bool.{then_some}
use Rattle.moves.specs.declared.moves.Kind.{Kind}
use Rattle.moves.specs.declared.moves.Kind.TheVariants as kind
use Rattle.moves.specs.declared.moves.Move.{Move}
use Rattle.paths.specs.Machine.{both}
use Rattle.paths.specs.Tabled.{Tabled, record_at}
use Rattle.paths.specs.Words.{kind_of, spelt, inside, outside, trail_of, deep_inside, deep_outside, deep_of}

-- the cell c is one of the table's, and found
pub record Found (t : Tabled) (c : ℕ) : Type 0 where
  pub within : c < t.points * t.facts * t.facts
  pub ranked : 0 < (record_at t c).rank

-- where a walk is: at a cell, and in callees that lead out to these calls, the latest first
pub record Place : Type 0 where
  pub cell : ℕ
  pub calls : List ℕ

-- the place at the cell c, in callees that lead out to the calls us
abbrev pub place : ℕ → List ℕ → Place
place c us = record { cell = c; calls = us }

-- the kind of a move, and where the walk is before it, if the path does not begin with it
pub record Turn : Type 0 where
  pub kind : Kind
  pub before : Option Place

-- a turn: the kind k, and where the walk is before it
abbrev pub turn : Kind → Option Place → Turn
turn k before = record { kind = k; before = before }

-- the move to an entry: inside a callee the call that led in, and else as the entry's record says
abbrev pub entry_by : Turn → List ℕ → Turn
entry_by outside [] = outside
entry_by outside (u ∷ us) = turn kind.Call (Some (place u us))

-- the move that a record tells, of kind k, with first u and second v
abbrev pub turn_by : Kind → ℕ → ℕ → List ℕ → Turn
turn_by kind.Start u v us = entry_by (turn kind.Start None) us
turn_by kind.Step u v us = turn kind.Step (Some (place u us))
turn_by kind.Past u v us = turn kind.Past (Some (place u us))
turn_by kind.Call u v us = entry_by (turn kind.Call (Some (place u us))) us
turn_by kind.Return u v us = turn kind.Return (Some (place v (u ∷ us)))

-- the move to the cell of a place
abbrev pub turn_at : Tabled → Place → Turn
turn_at t p = turn_by (kind_of (record_at t p.cell).kind) (record_at t p.cell).first (record_at t p.cell).second p.calls

-- the moves to the cell c and before it, the latest first: back to the entry of each callee, on from its call, and out to a start
abbrev pub rest : Tabled → List ℕ → ℕ → List Move
rest t [] c = outside t (record_at t c).rank c
rest t (u ∷ us) c = inside t (record_at t c).rank c (rest t us u)

-- the moves that are left, none where the walk is over
abbrev pub left : Tabled → Option Place → List Move
left t None = []
left t (Some p) = rest t p.calls p.cell

-- in how many callees that walk is at once, at most
abbrev pub peak : Tabled → List ℕ → ℕ → ℕ
peak t [] c = deep_outside t (record_at t c).rank c
peak t (u ∷ us) c = max (suc (length us) + deep_inside t (record_at t c).rank c) (peak t us u)

-- the words of the trail of the cell c
abbrev pub words_of : Tabled → ℕ → List ℕ
words_of t c = spelt (trail_of t c)

-- their number, where a memory of so many words and one of so many calls have room for them
abbrev pub measured : Tabled → ℕ → ℕ → ℕ → Option ℕ
measured t c words calls =
    then_some (both (nat_le (length (words_of t c)) words) (nat_le (deep_of t c) calls)) (length (words_of t c))
