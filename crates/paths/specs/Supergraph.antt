-- A program as a graph of points, and what moves along it.
use Rattle.std.specs.Prelude.{◌≡◌, ℕ, ◌+◌, ◌<◌, Bool, true, List, [], ◌∷◌, Some, Option}
use mathlib.Core.List.{Memᴰ}
use Rattle.std.specs.List.{slice_get}
use Rattle.listing.specs.declared.numbers.Cell.{Cell}
use Rattle.listing.specs.declared.numbers.Proc.{Proc}
use Rattle.listing.specs.declared.statement.Statement.{Statement}
use Rattle.listing.specs.declared.statement.Statement.TheVariants.{Set, Move, Add, Read, Send, Goto, Test, Call, Ret, Trim}
use Rattle.listing.specs.Procedures.{procedure, entry, exit}
use Rattle.listing.specs.Meaning.{Meaning, flow, size, procs, point}
use Rattle.listing.specs.Lawful.{is_lawful}
use Rattle.flow.specs.declared.edge.Edge.TheVariants as edge
use Rattle.flow.specs.Relation.{Rule}

-- the statement of each point (none from the number of points on), the procedure of each point, and each procedure's entry and exit
pub record Supergraph : Type 0 where
  pub at : ℕ → Option (Statement Cell)
  pub proc : ℕ → ℕ
  pub entry : ℕ → ℕ
  pub exit : ℕ → ℕ

-- the graph of a program
abbrev pub graph_of : Meaning → Supergraph
graph_of m = record { at = slice_get m.statements; proc = procedure (flow m); entry = entry (flow m); exit = exit (flow m) }

-- the points that follow the statement s of point n, in order; a call and a `ret` have none
abbrev pub successors : ℕ → Statement Cell → List ℕ
successors n (Set D) = (n + 1) ∷ []
successors n (Move D S) = (n + 1) ∷ []
successors n (Add D S T) = (n + 1) ∷ []
successors n (Read D) = (n + 1) ∷ []
successors n (Send S) = (n + 1) ∷ []
successors n (Goto K) = K.0 ∷ []
successors n (Test S K) = (n + 1) ∷ K.0 ∷ []
successors n (Call D q S) = []
successors n (Ret S) = []
successors n (Trim D S) = (n + 1) ∷ []

-- m is a successor of the statement s at point n
abbrev pub Follows : ℕ → Statement Cell → ℕ → Type 0
Follows n s m = Memᴰ m (successors n s)

-- what the graph of a program of N statements and K procedures keeps: no successor leaves a procedure, the point behind a call is in the
-- call's, the called procedure is one of the program's, and of the statements of a procedure its exit alone is a `ret`
pub record Lawful (P : Supergraph) (N K : ℕ) : Type 0 where
  pub within : (n : ℕ) (s : Statement Cell) → P.at n ≡ Some s → n < N
  pub step_within : (n m : ℕ) (s : Statement Cell) → P.at n ≡ Some s → Follows n s m → m < N
  pub past_within : (n : ℕ) (D : Cell) (q : Proc) (S : Cell) → P.at n ≡ Some (Call D q S) → n + 1 < N
  pub proc_within : (n : ℕ) → n < N → P.proc n < K
  pub entry_within : (p : ℕ) → p < K → P.entry p < N
  pub step_inside : (n m : ℕ) (s : Statement Cell) → P.at n ≡ Some s → Follows n s m → P.proc m ≡ P.proc n
  pub past_inside : (n : ℕ) (D : Cell) (q : Proc) (S : Cell) → P.at n ≡ Some (Call D q S) → P.proc (n + 1) ≡ P.proc n
  pub callee : (n : ℕ) (D : Cell) (q : Proc) (S : Cell) → P.at n ≡ Some (Call D q S) → q.0 < K
  pub entry_inside : (p : ℕ) → p < K → P.proc (P.entry p) ≡ p
  pub exit_inside : (p : ℕ) → p < K → P.proc (P.exit p) ≡ p
  pub only_exit : (n : ℕ) (V : Cell) → P.at n ≡ Some (Ret V) → n ≡ P.exit (P.proc n)

-- the graph of a lawful program is lawful
abbrev pub Listings : Type 0
Listings = (m : Meaning) → is_lawful m ≡ true → Lawful (graph_of m) (size m) (procs m)

-- fact e follows from fact d over the step from point n
abbrev pub by_step : Rule → ℕ → Statement Cell → ℕ → ℕ → Bool
by_step Q n s d e = Q (edge.Step (point n) s) d e

-- past the call at point n
abbrev pub by_past : Rule → ℕ → Statement Cell → ℕ → ℕ → Bool
by_past Q n s d e = Q (edge.Past (point n) s) d e

-- into the callee of the call at point n
abbrev pub by_call : Rule → ℕ → Statement Cell → ℕ → ℕ → Bool
by_call Q n s d e = Q (edge.Call (point n) s) d e

-- back from the callee, whose `ret` cell is V, to the point behind the call at c
abbrev pub by_return : Rule → ℕ → Statement Cell → Cell → ℕ → ℕ → Bool
by_return Q c s V d e = Q (edge.Return (point c) s V) d e
