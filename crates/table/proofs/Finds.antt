-- What finding a cell does to the memory and the counters is what it does to the state.
use Rattle.std.proofs.Common.{◌≡◌, ℕ, zero, suc, ◌+◌, ◌-◌, ◌<◌, ◌≤◌, false, List, map, length, set, sym, refl, ap, ◌∙◌, add-one, arith}
use Rattle.std.proofs.lemmas.Bool.{ltb-false}
use Rattle.moves.specs.declared.moves.Kind.{Kind}
use Rattle.moves.specs.Words.{code}
use Rattle.paths.specs.Memory.{Rec}
use Rattle.paths.specs.Tabled.{Tabled, record_at, find_at, find, is_found}
use Rattle.table.specs.Records.{at, entered}
use Rattle.table.specs.State.{rec, state_of}
use Rattle.records.specs.declared.record.Record.{Record}
use Rattle.table.proofs.Writing.{rec_at, new_records, new_row}

found_already : (r : ℕ) (k : Kind) (u v c : ℕ) (t : Tabled) → 0 < r → t ≡ find_at r k u v c t
found_already zero k u v c t h = absurd (omega arith)
found_already (suc r) k u v c t h = refl

pub rank_of : (rs : List Record) (points facts found head tail c : ℕ) → (record_at (state_of rs points facts found head tail) c).rank ≡ (at rs c).rank
rank_of rs points facts found head tail c = ap (λ (r : Rec). r.rank) (rec_at rs c)

pub not_found : (rs : List Record) (points facts found head tail c : ℕ) → false ≡ is_found c (state_of rs points facts found head tail) → (at rs c).rank ≡ 0
not_found rs points facts found head tail c e =
    let l = ltb-false 0 _ (sym e) in
    let r = rank_of rs points facts found head tail c in
    omega arith

-- a cell that is found stays
pub finds_old : (rs : List Record) (points facts found head tail cell : ℕ) (kind : Kind) (first second : ℕ) → 0 < (at rs cell).rank
    → state_of rs points facts found head tail ≡ find kind first second cell (state_of rs points facts found head tail)
finds_old rs points facts found head tail cell kind first second h =
    found_already (record_at (state_of rs points facts found head tail) cell).rank kind first second cell (state_of rs points facts found head tail)
    (let e = rank_of rs points facts found head tail cell in omega arith)

-- one that is not gets the next rank, and waits last
pub finds_new : (rs : List Record) (points facts found head tail cell : ℕ) (kind : Kind) (first second : ℕ)
    → cell < length rs → tail < length rs → head ≤ tail → tail ≤ found → (at rs cell).rank ≡ 0
    → state_of (entered rs cell (found + 1) kind first second tail) points facts (found + 1) head (tail + 1)
    ≡ find kind first second cell (state_of rs points facts found head tail)
finds_new rs points facts found head tail cell kind first second inside under ordered pushed z =
    let t : Tabled = state_of rs points facts found head tail in
    let n : found + 1 ≡ suc found = add-one found in
    let settled : found + 1 - (tail + 1 - head) ≡ found - (tail - head) = omega arith in
    let more : map rec (entered rs cell (found + 1) kind first second tail) ≡ set (map rec rs) cell (record { rank = suc found; kind = code kind; first = first; second = second }) =
    new_records rs cell (found + 1) kind first second tail inside under
    ∙ ap (λ (r : ℕ). set (map rec rs) cell (record { rank = r; kind = code kind; first = first; second = second })) n in
    let waiting = new_row rs cell (found + 1) kind first second tail inside under head ordered in
    let made : state_of (entered rs cell (found + 1) kind first second tail) points facts (found + 1) head (tail + 1) ≡ find_at zero kind first second cell t =
    λ i. record { points = points; facts = facts; records = more i; found = n i; settled = settled i; waiting = waiting i } in
    made ∙ ap (λ (r : ℕ). find_at r kind first second cell t) (sym (rank_of rs points facts found head tail cell ∙ z))
