-- A move as a word of 32 bits, and the trail that the records of a table lead back along. No program is asked.
use Rattle.std.specs.Prelude.{ℕ, zero, suc, max, Bool, true, false, cond, List, [], ◌∷◌, map, reverse, Some, None, Option, ◌==◌}
use Rattle.moves.specs.declared.moves.Kind.{Kind}
use Rattle.moves.specs.declared.moves.Kind.TheVariants as kind
use Rattle.moves.specs.declared.moves.Move.{Move}
use Rattle.moves.specs.Words.{encoded, arrives}
use Rattle.paths.specs.Table.{cell, number_of}
use Rattle.paths.specs.Tabled.{Tabled, cell_at, record_at, is_found}

-- the kind that has a number
abbrev pub kind_of : ℕ → Kind
kind_of k = cond (k == 2) kind.Step (cond (k == 3) kind.Past (cond (k == 4) kind.Call (cond (k == 5) kind.Return kind.Start)))

-- the moves, the latest first, as words, the start first
abbrev pub spelt : List Move → List ℕ
spelt moves = map encoded (reverse moves)

-- how many calls stand open at once, at most, of those that a path closes again. The latest move comes first, and k returns are yet to
-- meet their calls; a call that meets none stays open and does not count
abbrev pub nested_by : Kind → ℕ → (ℕ → ℕ) → ℕ
nested_by kind.Start k rest = rest k
nested_by kind.Step k rest = rest k
nested_by kind.Past k rest = rest k
nested_by kind.Call zero rest = rest zero
nested_by kind.Call (suc k) rest = max (suc k) (rest k)
nested_by kind.Return k rest = rest (suc k)

-- the same over all moves
abbrev pub nested : List Move → ℕ → ℕ
nested [] k = 0
nested (w ∷ ws) k = nested_by w.kind k (nested ws)

-- the move that arrives at the cell c
abbrev pub arrive : ℕ → Kind → ℕ → Move
arrive F k c = arrives k (cell_at F c).point (cell_at F c).fact

-- one record, of kind k, with first u and second v: how the walk back inside a callee goes on from the cell c. An entry's move is the call,
-- whatever its record's kind; `back x us` are the moves from the call of x's procedure to x, put on the moves us before them
abbrev pub inside_by : ℕ → (ℕ → List Move → List Move) → Kind → ℕ → ℕ → ℕ → List Move → List Move
inside_by F back kind.Start u v c us = arrive F kind.Call c ∷ us
inside_by F back kind.Step u v c us = arrive F kind.Step c ∷ back u us
inside_by F back kind.Past u v c us = arrive F kind.Past c ∷ back u us
inside_by F back kind.Call u v c us = arrive F kind.Call c ∷ us
inside_by F back kind.Return u v c us = arrive F kind.Return c ∷ back v (back u us)

-- the same outside every callee: an entry's record of kind 4 leads out to the call, one of kind 1 ends the walk
abbrev pub outside_by : ℕ → (ℕ → List Move → List Move) → (ℕ → List Move) → Kind → ℕ → ℕ → ℕ → List Move
outside_by F back out kind.Start u v c = arrive F kind.Start c ∷ []
outside_by F back out kind.Step u v c = arrive F kind.Step c ∷ out u
outside_by F back out kind.Past u v c = arrive F kind.Past c ∷ out u
outside_by F back out kind.Call u v c = arrive F kind.Call c ∷ out u
outside_by F back out kind.Return u v c = arrive F kind.Return c ∷ back v (out u)

-- over at most k records in a row: each was found before the one that leads to it
abbrev pub inside : Tabled → ℕ → ℕ → List Move → List Move
inside t zero c us = us
inside t (suc k) c us =
    inside_by t.facts (inside t k) (kind_of (record_at t c).kind) (record_at t c).first (record_at t c).second c us

-- the same, out to a start
abbrev pub outside : Tabled → ℕ → ℕ → List Move
outside t zero c = []
outside t (suc k) c =
    outside_by t.facts (inside t k) (outside t k) (kind_of (record_at t c).kind) (record_at t c).first (record_at t c).second c

-- the trail of the found cell c, the latest move first
abbrev pub trail_of : Tabled → ℕ → List Move
trail_of t c = outside t (record_at t c).rank c

-- how many callees are walked at once, at most: the open calls that the walk keeps
abbrev pub deep_by : (ℕ → ℕ) → Kind → ℕ → ℕ → ℕ
deep_by deep kind.Start u v = 0
deep_by deep kind.Step u v = deep u
deep_by deep kind.Past u v = deep u
deep_by deep kind.Call u v = 0
deep_by deep kind.Return u v = max (suc (deep v)) (deep u)

-- the same over at most k records in a row
abbrev pub deep_inside : Tabled → ℕ → ℕ → ℕ
deep_inside t zero c = 0
deep_inside t (suc k) c = deep_by (deep_inside t k) (kind_of (record_at t c).kind) (record_at t c).first (record_at t c).second

-- the same outside every callee
abbrev pub deep_out_by : (ℕ → ℕ) → (ℕ → ℕ) → Kind → ℕ → ℕ → ℕ
deep_out_by deep out kind.Start u v = 0
deep_out_by deep out kind.Step u v = out u
deep_out_by deep out kind.Past u v = out u
deep_out_by deep out kind.Call u v = out u
deep_out_by deep out kind.Return u v = max (suc (deep v)) (out u)

-- the same over at most k records in a row
abbrev pub deep_outside : Tabled → ℕ → ℕ → ℕ
deep_outside t zero c = 0
deep_outside t (suc k) c =
    deep_out_by (deep_inside t k) (deep_outside t k) (kind_of (record_at t c).kind) (record_at t c).first (record_at t c).second

-- the same of the trail of the cell c
abbrev pub deep_of : Tabled → ℕ → ℕ
deep_of t c = deep_outside t (record_at t c).rank c

-- the cell c where it is found, unless an earlier one was
abbrev pub earlier : Option ℕ → Bool → ℕ → Option ℕ
earlier (Some b) found c = Some b
earlier None true c = Some c
earlier None false c = None

-- the number of the found cell (n, a, d) of least a < k, if any
abbrev pub least_found : ℕ → ℕ → ℕ → Tabled → Option ℕ
least_found zero n d t = None
least_found (suc k) n d t =
    earlier (least_found k n d t) (is_found (number_of t.facts (cell n k d)) t) (number_of t.facts (cell n k d))
