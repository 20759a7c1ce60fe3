-- A stack in the front of a list.
use Rattle.std.specs.Prelude.{◌≡◌, ℕ, ◌+◌, ◌<◌, ◌≤◌, ◌⊎◌, List, ◌∷◌, reverse, length, take, drop, Some, None, Ok, Err, Option, Result}
use Rattle.stack.specs.declared.Full.{Full}

-- the entries of a stack of this height, the latest first
abbrev pub held : {X : Type 0} → List X → ℕ → List X
held slots count = reverse (take count slots)

-- x was put on top of the n entries, and what stands above stays; or there was no room, and all stays
abbrev pub Pushed : {X : Type 0} → List X → ℕ → X → Result ℕ Full → List X → Type 0
Pushed xs n x (Ok m) ys = (n < length xs) × (m ≡ n + 1) × (held ys m ≡ x ∷ held xs n) × (drop m ys ≡ drop m xs) × (length ys ≡ length xs)
Pushed xs n x (Err _) ys = (length xs ≤ n) × (ys ≡ xs)

-- the top of the n entries was taken off; or there is none, or the slots are fewer than the count says
abbrev pub Popped : {X : Type 0} → List X → ℕ → Option (X × ℕ) → Type 0
Popped xs n (Some p) = (n ≡ p.1 + 1) × (held xs n ≡ p.0 ∷ held xs p.1)
Popped xs n None = (n ≡ 0) ⊎ (length xs < n)

-- the entries of a lent memory are free: there are as many as before, and nothing is said of what they are
abbrev pub Free : {X : Type 0} → List X → List X → Type 0
Free old new = length new ≡ length old
