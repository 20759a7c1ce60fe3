-- The successors of a statement, by what it does to control.
use Rattle.std.proofs.Common.{◌≡◌, ℕ, ◌+◌, ◌<◌, List, [], ◌∷◌, sym, refl, ap, ◌∙◌, subst}
use mathlib.Core.List.{Memᴰ}
use Rattle.listing.specs.declared.numbers.Cell.{Cell}
use Rattle.listing.specs.declared.control.Control.{Control}
use Rattle.listing.specs.declared.control.Control.TheVariants as control
use Rattle.listing.specs.declared.statement.Statement.{Statement}
use Rattle.listing.specs.declared.statement.Statement.TheVariants.{Set, Move, Add, Read, Send, Goto, Test, Call, Ret, Trim}
use Rattle.listing.specs.Statements.{controlled}
use Rattle.paths.specs.Supergraph.{successors}
use Rattle.table.specs.Settling.{Onward}

abbrev pub targets : ℕ → Control → List ℕ
targets n control.Next = (n + 1) ∷ []
targets n (control.Goto k) = k.0 ∷ []
targets n (control.Test k) = (n + 1) ∷ k.0 ∷ []
targets n (control.Call p) = []
targets n control.Ret = []

by_control : (n : ℕ) (s : Statement Cell) → successors n s ≡ targets n (controlled s)
by_control n (Set D) = refl
by_control n (Move D S) = refl
by_control n (Add D S T) = refl
by_control n (Read D) = refl
by_control n (Send S) = refl
by_control n (Goto K) = refl
by_control n (Test S K) = refl
by_control n (Call D q S) = refl
by_control n (Ret S) = refl
by_control n (Trim D S) = refl

module _ (n : ℕ) (s : Statement Cell) (c : Control) (is : c ≡ controlled s) where
  pub onward : successors n s ≡ targets n c
  onward = by_control n s ∙ sym (ap (targets n) is)

  module _ (N : ℕ) (on : Onward N n s) where
    in_targets : (m : ℕ) → Memᴰ m (targets n c) → m < N
    in_targets m h = on.below m (subst (Memᴰ m) (sym onward) h)

    pub first_below : (m : ℕ) (ms : List ℕ) → targets n c ≡ m ∷ ms → m < N
    first_below m ms e = in_targets m (subst (Memᴰ m) (sym e) (Memᴰ.head refl))

    pub second_below : (k m : ℕ) (ms : List ℕ) → targets n c ≡ k ∷ m ∷ ms → m < N
    second_below k m ms e = in_targets m (subst (Memᴰ m) (sym e) (Memᴰ.tail (Memᴰ.head refl)))
