-- What is copied into memory that is lent.
use Rattle.std.specs.Prelude.{◌≡◌, ◌<◌, ◌≤◌, ◌⊎◌, ℕ, List, ◌++◌, length, drop}

-- the items fit, stand at the front, and what stands after them stays
pub record Front {A : Type 0} (items out : List A) (count : ℕ) (out' : List A) : Type 0 where
  pub fits : length items ≤ length out
  pub counted : count ≡ length items
  pub holds : out' ≡ items ++ drop (length items) out

-- the items do not fit, and nothing is written
pub record NoRoom {A : Type 0} (items out : List A) (count : ℕ) (out' : List A) : Type 0 where
  pub full : length out < length items
  pub none : count ≡ 0
  pub same : out' ≡ out

-- one of the two
abbrev pub Copied : {A : Type 0} → List A → List A → ℕ → List A → Type 0
Copied items out count out' = Front items out count out' ⊎ NoRoom items out count out'
