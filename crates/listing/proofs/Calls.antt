-- The calls of a procedure, looked for point by point.
use Rattle.std.proofs.Common.{◌≡◌, ℕ, zero, suc, ◌+◌, ◌<◌, ◌≤◌, cond, List, [], ◌∷◌, map, length, drop, Some, None, refl, add-one, arith}
use Rattle.std.specs.List.{slice_get}
use Rattle.listing.specs.Callers.{calls_at, first_call, call_from}
use Rattle.listing.specs.Meaning.{point}
use Rattle.listing.specs.Statements.{controlled}
use Rattle.listing.specs.declared.numbers.Cell.{Cell}
use Rattle.listing.specs.declared.statement.Statement.{Statement}

turn : (ss : List (Statement Cell)) (p k n : ℕ) → n < length ss
    → first_call p k (drop n (map controlled ss)) ≡ cond (calls_at (slice_get ss n) p) (Some (point k)) (first_call p (suc k) (drop (suc n) (map controlled ss)))
turn [] p k n h = absurd (omega arith)
turn (s ∷ ss) p k zero h = rw add-one refl
turn (s ∷ ss) p k (suc n) h = turn ss p k n (omega arith)

-- the first call from a point on is there, or behind it
pub call_turn : (ss : List (Statement Cell)) (p n : ℕ) → n < length ss
    → call_from (map controlled ss) p n ≡ cond (calls_at (slice_get ss n) p) (Some (point n)) (call_from (map controlled ss) p (n + 1))
call_turn ss p n h = rw add-one (turn ss p n n h)

none_behind : (ss : List (Statement Cell)) (p k n : ℕ) → length ss ≤ n → first_call p k (drop n (map controlled ss)) ≡ None
none_behind [] p k zero h = refl
none_behind [] p k (suc n) h = refl
none_behind (s ∷ ss) p k zero h = absurd (omega arith)
none_behind (s ∷ ss) p k (suc n) h = none_behind ss p k n (omega arith)

-- none stands from N on
pub no_call : (ss : List (Statement Cell)) (p n : ℕ) → length ss ≤ n → call_from (map controlled ss) p n ≡ None
no_call ss p n h = none_behind ss p n n h
