-- What a problem says: whether fact e follows from fact d over an edge.
use Rattle.std.specs.Prelude.{◌≡◌, ℕ, ◌<◌, ◌≤◌, Bool, true, false, cond, ◌&&◌, ◌==◌, nat_lt}
use Rattle.listing.specs.Statements.{controlled}
use Rattle.listing.specs.declared.control.Control.{Control}
use Rattle.listing.specs.declared.control.Control.TheVariants as control
use Rattle.listing.specs.declared.numbers.Cell.{Cell}
use Rattle.listing.specs.declared.statement.Statement.{Statement}
use Rattle.flow.specs.declared.edge.Edge.{Edge}
use Rattle.flow.specs.declared.edge.Edge.TheVariants.{Step, Past, Call, Return}

-- a relation: whether, over an edge, a second fact follows from a first
abbrev pub Rule : Type 0
Rule = Edge → ℕ → ℕ → Bool

-- F is 1 to 64
pub record Few (f : ℕ) : Type 0 where
  pub some : 1 ≤ f
  pub most : f ≤ 64

-- a call
abbrev pub is_call : Control → Bool
is_call control.Next = false
is_call (control.Goto k) = false
is_call (control.Test k) = false
is_call (control.Call p) = true
is_call control.Ret = false

-- neither a call nor a return
abbrev pub is_plain : Control → Bool
is_plain control.Next = true
is_plain (control.Goto k) = true
is_plain (control.Test k) = true
is_plain (control.Call p) = false
is_plain control.Ret = false

-- the statement at the point that an edge leaves; for a return, the call
abbrev pub statement_of : Edge → Statement Cell
statement_of (Step n s) = s
statement_of (Past n s) = s
statement_of (Call n s) = s
statement_of (Return n s v) = s

-- the statement has an edge of this kind
abbrev pub exists : Edge → Bool
exists (Step n s) = is_plain (controlled s)
exists (Past n s) = is_call (controlled s)
exists (Call n s) = is_call (controlled s)
exists (Return n s v) = is_call (controlled s)

-- facts from F on, and an edge that the statement lacks, are answered by no
pub record Within (f : ℕ) (rule : Rule) : Type 0 where
  pub from : (x : Edge) (d e : ℕ) → rule x d e ≡ true → d < f
  pub to : (x : Edge) (d e : ℕ) → rule x d e ≡ true → e < f
  pub lacks : (x : Edge) (d e : ℕ) → exists x ≡ false → rule x d e ≡ false

-- zero follows from zero on every edge that there is, and from nothing else
abbrev pub KeepsZero : Rule → Type 0
KeepsZero rule = (x : Edge) (d : ℕ) → exists x ≡ true → rule x d 0 ≡ (d == 0)

-- a rule that keeps to F facts and to the edges that there are, with zero from zero alone; the rest as `body` says
abbrev pub guarded : ℕ → Rule → Rule
guarded f body x d e = exists x && (nat_lt d f && (nat_lt e f && cond (e == 0) (d == 0) (body x d e)))
