-- The trail: the path that the records of a table lead back along.
use Rattle.std.specs.Prelude.{ℕ, zero, suc, List, [], ◌∷◌}
use Rattle.flow.specs.Relation.{Rule}
use Rattle.moves.specs.declared.moves.Kind.{Kind}
use Rattle.moves.specs.declared.moves.Kind.TheVariants as kind
use Rattle.moves.specs.declared.moves.Move.{Move}
use Rattle.moves.specs.Words.{arrives}
use Rattle.paths.specs.Supergraph.{Supergraph, Lawful}
use Rattle.paths.specs.Paths.{Matched}
use Rattle.paths.specs.Table.{TableCell, cell, Table, Found, Justified}
use Rattle.paths.specs.Theorem.{Accepted}

-- the move that arrives at a cell
abbrev pub arrive : Kind → TableCell → Move
arrive k c = arrives k c.point c.fact

-- the call move into the procedure of an exit cell
abbrev pub called : Supergraph → TableCell → Move
called P x = arrives kind.Call (P.entry (P.proc x.point)) x.origin

-- one record, of kind k with first u and second v: how the walk back inside a procedure goes on from the cell c. `back x us` are the moves from
-- the entry of x's procedure to x, put on the moves us before them
abbrev pub inner_by : Supergraph → (TableCell → List Move → List Move) → Kind → TableCell → TableCell → TableCell → List Move → List Move
inner_by P back kind.Start u v c us = us
inner_by P back kind.Step u v c us = arrive kind.Step c ∷ back u us
inner_by P back kind.Past u v c us = arrive kind.Past c ∷ back u us
inner_by P back kind.Call u v c us = us
inner_by P back kind.Return u v c us = arrive kind.Return c ∷ back v (called P v ∷ back u us)

-- the same where no call is to be returned from: an entry's record of kind 4 leads out to the call
abbrev pub outer_by : Supergraph → (TableCell → List Move → List Move) → (TableCell → List Move) → Kind → TableCell → TableCell → TableCell → List Move
outer_by P back out kind.Start u v c = arrive kind.Start c ∷ []
outer_by P back out kind.Step u v c = arrive kind.Step c ∷ out u
outer_by P back out kind.Past u v c = arrive kind.Past c ∷ out u
outer_by P back out kind.Call u v c = arrive kind.Call c ∷ out u
outer_by P back out kind.Return u v c = arrive kind.Return c ∷ back v (called P v ∷ out u)

-- the walk over at most k records in a row, each of lower rank than the one before; the latest move first
abbrev pub inner : Supergraph → Table → ℕ → TableCell → List Move → List Move
inner P t zero c us = us
inner P t (suc k) c us = inner_by P (inner P t k) (t c).kind (t c).first (t c).second c us

-- the same, out to a start
abbrev pub outer : Supergraph → Table → ℕ → TableCell → List Move
outer P t zero c = []
outer P t (suc k) c = outer_by P (inner P t k) (outer P t k) (t c).kind (t c).first (t c).second c

-- the trail of a found cell, the latest move first
abbrev pub trail : Supergraph → Table → TableCell → List Move
trail P t c = outer P t (t c).rank c

-- these moves are a call-matched path from an accepted start to (n, d)
pub record PathTo (P : Supergraph) (Q : Rule) (Start : ℕ → ℕ → Type 0) (ws : List Move) (n d : ℕ) : Type 0 where
  pub proc : ℕ
  pub origin : ℕ
  pub accepted : Start proc origin
  pub open_calls : List ℕ
  pub path : Matched P Q proc origin ws open_calls n d

-- the trail of a found cell is a call-matched path from an accepted start to its pair
abbrev pub Trails : Type 0
Trails = (P : Supergraph) (Q : Rule) (starts : List (ℕ × ℕ)) → (N K : ℕ) → Lawful P N K → (t : Table) → Justified P Q (Accepted starts) t
    → (n a d : ℕ) → Found t n a d → PathTo P Q (Accepted starts) (trail P t (cell n a d)) n d
