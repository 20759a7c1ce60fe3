-- Call-matched paths, and what they reach.
use Rattle.std.specs.Prelude.{◌≡◌, ℕ, ◌+◌, T, ◌⊎◌, List, [], ◌∷◌, Some}
use Rattle.listing.specs.declared.numbers.Cell.{Cell}
use Rattle.listing.specs.declared.numbers.Proc.{Proc}
use Rattle.listing.specs.declared.statement.Statement.{Statement}
use Rattle.listing.specs.declared.statement.Statement.TheVariants.{Call, Ret}
use Rattle.flow.specs.Relation.{Rule}
use Rattle.moves.specs.declared.moves.Kind.TheVariants as kind
use Rattle.moves.specs.declared.moves.Move.{Move}
use Rattle.moves.specs.Words.{arrives}
use Rattle.paths.specs.Supergraph.{Supergraph, Follows, by_step, by_past, by_call, by_return}

module _ (P : Supergraph) (Q : Rule) where
  -- `Matched p a ws open n d`: the moves ws, the latest first, are a call-matched path. It begins at the entry of procedure p with fact a and
  -- no call open, and ends at point n with fact d. The calls that are open there are `open`, by their points, the latest first.
  pub data Matched (p a : ℕ) : List Move → List ℕ → ℕ → ℕ → Type 0 where
    start : Matched p a (arrives kind.Start (P.entry p) a ∷ []) [] (P.entry p) a
    step : {ws : List Move} {open' : List ℕ} {n d m e : ℕ} (s : Statement Cell) → Matched p a ws open' n d
        → P.at n ≡ Some s → Follows n s m → T (by_step Q n s d e)
        → Matched p a (arrives kind.Step m e ∷ ws) open' m e
    past : {ws : List Move} {open' : List ℕ} {n d e : ℕ} (D : Cell) (q : Proc) (S : Cell) → Matched p a ws open' n d
        → P.at n ≡ Some (Call D q S) → T (by_past Q n (Call D q S) d e)
        → Matched p a (arrives kind.Past (n + 1) e ∷ ws) open' (n + 1) e
    call : {ws : List Move} {open' : List ℕ} {n d e : ℕ} (D : Cell) (q : Proc) (S : Cell) → Matched p a ws open' n d
        → P.at n ≡ Some (Call D q S) → T (by_call Q n (Call D q S) d e)
        → Matched p a (arrives kind.Call (P.entry q.0) e ∷ ws) (n ∷ open') (P.entry q.0) e
    return : {ws : List Move} {open' : List ℕ} {c d e : ℕ} (D : Cell) (q : Proc) (S V : Cell) → Matched p a ws (c ∷ open') (P.exit q.0) d
        → P.at c ≡ Some (Call D q S) → P.at (P.exit q.0) ≡ Some (Ret V) → T (by_return Q c (Call D q S) V d e)
        → Matched p a (arrives kind.Return (c + 1) e ∷ ws) open' (c + 1) e

  module _ (Start : ℕ → ℕ → Type 0) where
    -- a path from an accepted start ends at (n, d)
    pub record ReachedPair (n d : ℕ) : Type 0 where
      pub proc : ℕ
      pub origin : ℕ
      pub accepted : Start proc origin
      pub moves : List Move
      pub open_calls : List ℕ
      pub path : Matched proc origin moves open_calls n d

    -- a path from an accepted start ends, by a call move, at the entry of procedure p with fact a
    pub record Called (p a : ℕ) : Type 0 where
      pub proc : ℕ
      pub origin : ℕ
      pub accepted : Start proc origin
      pub moves : List Move
      pub open_calls : List ℕ
      pub path : Matched proc origin (arrives kind.Call (P.entry p) a ∷ moves) open_calls (P.entry p) a

    -- the entry of procedure p with a is an accepted start, or is called into
    abbrev pub Entered : ℕ → ℕ → Type 0
    Entered p a = Start p a ⊎ Called p a

    -- the entry of n's procedure with a is an accepted start or ends a path from one by a call move, and a path from it that closes
    -- each call it opens ends at (n, d)
    pub record ReachedCell (n a d : ℕ) : Type 0 where
      pub entered : Entered (P.proc n) a
      pub moves : List Move
      pub path : Matched (P.proc n) a moves [] n d
