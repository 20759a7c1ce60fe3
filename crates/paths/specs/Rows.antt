-- Any row of calls, from a newly opened table on, and what holds after it.
use Rattle.std.specs.Prelude.{◌≡◌, ℕ, zero, suc, ◌+◌, ◌*◌, ◌<◌, ◌≤◌, Bool, true, false, cond, ◌⊎◌, ◌↔◌, List, [], ◌∷◌, ◌++◌, length}
use mathlib.Core.List.{Memᴰ}
use Rattle.flow.specs.Relation.{Rule, Within}
use Rattle.paths.specs.Supergraph.{Supergraph, Lawful}
use Rattle.paths.specs.Paths.{ReachedPair, ReachedCell}
use Rattle.paths.specs.Table.{TableCell, cell, Found}
use Rattle.paths.specs.Theorem.{Accepted, Exact}
use Rattle.paths.specs.Trail.{trail, PathTo}
use Rattle.paths.specs.Machine.{State, opened, sow, work, is_found}
use Rattle.paths.specs.declared.worklist.End.{End}

-- the state that a call is put to; a report has written so many lines
pub data Mode : Type 0 where
  Open Closed : Mode
  Report : (lines : ℕ) → Mode

-- whether one of the cells (n, a, d) with a < k is found
abbrev pub any_found : ℕ → ℕ → ℕ → State → Bool
any_found zero n d st = false
any_found (suc k) n d st = cond (is_found (cell n k d) st) true (any_found k n d st)

-- the pairs of point n that have a found cell and a fact below k, by fact
abbrev pub pairs_at : ℕ → ℕ → ℕ → State → List (ℕ × ℕ)
pairs_at F zero n st = []
pairs_at F (suc k) n st = pairs_at F k n st ++ cond (any_found F n k st) ((n, k) ∷ []) []

-- the pairs of the points below k that have a found cell, by point and then fact
abbrev pub pairs_below : ℕ → ℕ → State → List (ℕ × ℕ)
pairs_below F zero st = []
pairs_below F (suc k) st = pairs_below F k st ++ pairs_at F F k st

module _ (P : Supergraph) (Q : Rule) (N K F : ℕ) where
  -- `Row mode st starts`: a row of calls, each put to the state that the one before it left, leads to the state st, and has accepted the
  -- starts. A call that is refused leaves all as it is
  pub data Row : Mode → State → List (ℕ × ℕ) → Type 0 where
    newly_opened : Row Open opened []
    refused : {m : Mode} {st : State} {starts : List (ℕ × ℕ)} → Row m st starts → Row m st starts
    sown : {st : State} {starts : List (ℕ × ℕ)} (p d : ℕ) → Row Open st starts → p < K → d < F
        → Row Open (sow P Q N F p d st) ((p, d) ∷ starts)
    worked : {st : State} {starts : List (ℕ × ℕ)} (k : ℕ) (end : End) → Row Open st starts → Row Open (work P Q N F k end st) starts
    closed : {st : State} {starts : List (ℕ × ℕ)} → Row Open st starts → st.waiting ≡ [] → Row Closed st starts
    reopened : {st : State} {starts : List (ℕ × ℕ)} → Row Closed st starts → Row Open st starts
    trailed : {st : State} {starts : List (ℕ × ℕ)} (n d : ℕ) → Row Closed st starts → Row Closed st starts
    begun : {st : State} {starts : List (ℕ × ℕ)} → Row Closed st starts → Row (Report 0) st starts
    lined : {i : ℕ} {st : State} {starts : List (ℕ × ℕ)} → Row (Report i) st starts → i < length (pairs_below F N st)
        → Row (Report (suc i)) st starts
    no_line_left : {i : ℕ} {st : State} {starts : List (ℕ × ℕ)} → Row (Report i) st starts → i ≡ length (pairs_below F N st)
        → Row (Report i) st starts
    footed : {i : ℕ} {st : State} {starts : List (ℕ × ℕ)} → Row (Report i) st starts → i ≡ length (pairs_below F N st)
        → Row Closed st starts
    abandoned : {i : ℕ} {st : State} {starts : List (ℕ × ℕ)} → Row (Report i) st starts → Row Closed st starts

-- no element stands twice
abbrev pub Distinct : {A : Type 0} → List A → Type 0
Distinct [] = Unit {0}
Distinct (c ∷ cs) = (Memᴰ c cs → ⊥) × Distinct cs

-- the number of the cells of which R holds is k
pub record Number (R : TableCell → Type 0) (k : ℕ) : Type 0 where
  pub list : List TableCell
  pub distinct : Distinct list
  pub complete : (c : TableCell) → Memᴰ c list ↔ R c
  pub count : length list ≡ k

-- one pair stands before another: by point, then fact
abbrev pub Less : ℕ × ℕ → ℕ × ℕ → Type 0
Less x y = (x.0 < y.0) ⊎ ((x.0 ≡ y.0) × (x.1 < y.1))

-- each stands before all that follow it, so that none stands twice
abbrev pub Ascending : List (ℕ × ℕ) → Type 0
Ascending [] = Unit {0}
Ascending (x ∷ xs) = ((y : ℕ × ℕ) → Memᴰ y xs → Less x y) × Ascending xs

-- nothing waits in a table that is closed or under report
abbrev pub AtRest : Mode → Type 0
AtRest Open = ⊥
AtRest Closed = Unit {0}
AtRest (Report i) = Unit {0}

-- what holds after a row that led to the state st in mode m and accepted the starts
pub record After (P : Supergraph) (Q : Rule) (N F : ℕ) (m : Mode) (st : State) (starts : List (ℕ × ℕ)) : Type 0 where
  -- found = settled + waiting
  pub tally : st.found ≡ st.settled + length st.waiting
  -- the found cells are in range
  pub range : (n a d : ℕ) → Found st.table n a d → (n < N) × (a < F) × (d < F)
  -- the found cells are the reached ones, and so the pairs
  pub exact : AtRest m → Exact P Q (Accepted starts) st.table
  -- the cells settled are as many as are reached
  pub number : AtRest m → Number (λ c. ReachedCell P Q (Accepted starts) c.point c.origin c.fact) st.settled
  pub bound : st.settled ≤ N * F * F
  -- the pairs of a report come by point, then fact, each once, and are those reached
  pub order : Ascending (pairs_below F N st)
  pub lines : AtRest m → (n d : ℕ) → Memᴰ (n, d) (pairs_below F N st) ↔ ReachedPair P Q (Accepted starts) n d
  -- the trail of each found cell is a call-matched path from an accepted start
  pub trails : (n a d : ℕ) → Found st.table n a d → PathTo P Q (Accepted starts) (trail P st.table (cell n a d)) n d

-- all this holds after any row of calls
abbrev pub AnyRow : Type 0
AnyRow = (P : Supergraph) (Q : Rule) (N K F : ℕ) → Lawful P N K → Within F Q
    → (m : Mode) (st : State) (starts : List (ℕ × ℕ)) → Row P Q N K F m st starts → After P Q N F m st starts
