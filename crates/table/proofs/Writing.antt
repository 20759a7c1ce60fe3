-- What writing a found cell does to the records.
use Rattle.std.proofs.Common.{◌≡◌, ℕ, zero, suc, ◌+◌, ◌-◌, ◌<◌, ◌≤◌, List, [], ◌∷◌, ◌++◌, map, length, get_or, take, drop, set, sym, refl, ap, ◌∙◌, inl, inr, le_of_suc-le-suc, not-suc-le-zero, arith, length-set, get_or-set_other, get_or-take, get_or-set_same, drop-set-lt}
use lib.ListN.{get_or-map}
use lib.Seq.{take-set-lt, map-set_same, map-set}
use Rattle.std.proofs.lemmas.List.Edits.{between_more}
use Rattle.std.proofs.lemmas.List.{take-map, drop-map, take-set, length-take-le, length-map}
use Rattle.std.proofs.lemmas.Slice.{between_is}
use Rattle.std.proofs.lemmas.Bool.{eq-eqb, ne_eqb, cases_eq}
use Rattle.std.specs.List.{between}
use Rattle.moves.specs.declared.moves.Kind.{Kind}
use Rattle.paths.specs.Memory as memory
use Rattle.records.specs.Blank.{blank}
use Rattle.table.specs.Records.{at, has_rank, holders, slotted, written, entered}
use Rattle.table.specs.State.{rec, row}
use Rattle.records.specs.declared.record.Record.{Record}

-- the record of a cell, without the table's own field
pub rec_at : (rs : List Record) (c : ℕ) → get_or (map rec rs) c memory.blank ≡ rec (at rs c)
rec_at rs c = get_or-map rec rs c blank

-- COUNTING RANKS

pub rank_yes : (k : ℕ) (r : Record) → r.rank ≡ k → has_rank k r ≡ 1
rank_yes k r e = rw (eq-eqb r.rank k e) refl

pub rank_no : (k : ℕ) (r : Record) → (r.rank ≡ k → ⊥) → has_rank k r ≡ 0
rank_no k r n = rw (ne_eqb r.rank k n) refl

pub holders_set : (k : ℕ) (rs : List Record) (i : ℕ) (r : Record) → i < length rs → holders k (set rs i r) + has_rank k (at rs i) ≡ holders k rs + has_rank k r
holders_set k [] i r h = absurd (not-suc-le-zero h)
holders_set k (x ∷ rs) zero r h = omega arith
holders_set k (x ∷ rs) (suc i) r h = omega (arith, holders_set k rs i r (le_of_suc-le-suc h))

pub holders_some : (k : ℕ) (rs : List Record) (i : ℕ) → i < length rs → (at rs i).rank ≡ k → 0 < holders k rs
holders_some k [] i h e = absurd (not-suc-le-zero h)
holders_some k (x ∷ rs) zero h e = omega (arith, rank_yes k x e)
holders_some k (x ∷ rs) (suc i) h e = omega (arith, holders_some k rs i (le_of_suc-le-suc h) e)

pub holders_none : (k : ℕ) (rs : List Record) → ((i : ℕ) → i < length rs → (at rs i).rank ≡ k → ⊥) → holders k rs ≡ 0
holders_none k [] h = refl
holders_none k (x ∷ rs) h =
    let n = rank_no k x (h 0 (omega arith)) in
    let r = holders_none k rs (λ i l. h (suc i) (omega arith)) in
    omega arith

-- THE ROW

between_push : {X : Type 0} (xs : List X) (head tail : ℕ) (x : X) → head ≤ tail → tail < length xs → between head (tail + 1) (set xs tail x) ≡ between head tail xs ++ (x ∷ [])
between_push {X = X} xs head tail x o h =
    let l : tail < length (set xs tail x) = rw length-set h in
    let same : between head tail (set xs tail x) ≡ between head tail xs =
    between_is (set xs tail x) head tail ∙ ap (drop head) (take-set xs tail x) ∙ sym (between_is xs head tail) in
    between_more (set xs tail x) head tail x o l
    ∙ ap (λ (ys : List X). ys ++ (get_or (set xs tail x) tail x ∷ [])) same
    ∙ ap (λ (y : X). between head tail xs ++ (y ∷ [])) (get_or-set_same xs tail x x h)

pub row_between : (rs : List Record) (head tail : ℕ) → row rs head tail ≡ between head tail (map (λ (r : Record). r.slot) rs)
row_between rs head tail =
    sym (take-map (λ (r : Record). r.slot) (tail - head) (drop head rs))
    ∙ ap (take (tail - head)) (sym (drop-map (λ (r : Record). r.slot) head rs))

-- a record but for the table's own field
abbrev pub bare : Record → Record
bare r = slotted r 0

module _ (rs : List Record) (cell rank : ℕ) (kind : Kind) (first second tail : ℕ) (inside : cell < length rs) (under : tail < length rs) where
  abbrev w : Record
  w = written (at rs cell) rank kind first second

  abbrev ws : List Record
  ws = set rs cell w

  abbrev new : List Record
  new = entered rs cell rank kind first second tail

  pub new_length : length new ≡ length rs
  new_length = length-set _ tail _ ∙ length-set rs cell _

  under_ws : tail < length ws
  under_ws = rw length-set under

  bare_ws : (c : ℕ) → bare (at new c) ≡ bare (at ws c)
  bare_ws c = elim (cases_eq c tail) [
    | inl e ↦ ap (λ (j : ℕ). bare (at new j)) e ∙ ap bare (get_or-set_same ws tail (slotted (at ws tail) cell) blank under_ws) ∙ ap (λ (j : ℕ). bare (at ws j)) (sym e)
    | inr n ↦ ap bare (get_or-set_other ws tail c (slotted (at ws tail) cell) blank n)
  ]

  pub bare_here : bare (at new cell) ≡ bare w
  bare_here = bare_ws cell ∙ ap bare (get_or-set_same rs cell w blank inside)

  pub bare_other : (c : ℕ) → (c ≡ cell → ⊥) → bare (at new c) ≡ bare (at rs c)
  bare_other c n = bare_ws c ∙ ap bare (get_or-set_other rs cell c w blank n)

  slot_ws : (c : ℕ) → (at ws c).slot ≡ (at rs c).slot
  slot_ws c = elim (cases_eq c cell) [
    | inl e ↦ ap (λ (j : ℕ). (at ws j).slot) e ∙ ap (λ (r : Record). r.slot) (get_or-set_same rs cell w blank inside) ∙ ap (λ (j : ℕ). (at rs j).slot) (sym e)
    | inr n ↦ ap (λ (r : Record). r.slot) (get_or-set_other rs cell c w blank n)
  ]

  pub slot_here : (at new tail).slot ≡ cell
  slot_here = ap (λ (r : Record). r.slot) (get_or-set_same ws tail (slotted (at ws tail) cell) blank under_ws)

  pub slot_other : (c : ℕ) → (c ≡ tail → ⊥) → (at new c).slot ≡ (at rs c).slot
  slot_other c n = ap (λ (r : Record). r.slot) (get_or-set_other ws tail c (slotted (at ws tail) cell) blank n) ∙ slot_ws c

  -- what is found stays as it is, where the cell that is written was not found
  pub rank_stays : (at rs cell).rank ≡ 0 → (c : ℕ) → 0 < (at rs c).rank → (at new c).rank ≡ (at rs c).rank
  rank_stays z c f =
      let n : c ≡ cell → ⊥ = λ e. let same : (at rs c).rank ≡ (at rs cell).rank = ap (λ (j : ℕ). (at rs j).rank) e in omega arith in
      ap (λ (r : Record). r.rank) (bare_other c n)

  pub new_records : map rec new ≡ set (map rec rs) cell (rec w)
  new_records =
      map-set_same rec ws tail (slotted (at ws tail) cell) blank refl
      ∙ map-set rec rs cell w

  pub new_row : (head : ℕ) → head ≤ tail → row new head (tail + 1) ≡ row rs head tail ++ (cell ∷ [])
  new_row head o =
      let sl : Record → ℕ = λ r. r.slot in
      let same : map sl ws ≡ map sl rs = map-set_same sl rs cell w blank refl in
      let e : map sl new ≡ set (map sl rs) tail cell = map-set sl ws tail (slotted (at ws tail) cell) ∙ ap (λ (ys : List ℕ). set ys tail cell) same in
      let h : tail < length (map sl rs) = rw length-map under in
      row_between new head (tail + 1)
      ∙ ap (between head (tail + 1)) e
      ∙ between_push (map sl rs) head tail cell o h
      ∙ ap (λ (ys : List ℕ). ys ++ (cell ∷ [])) (sym (row_between rs head tail))

  module _ (size : ℕ) (held : size ≤ length rs) (in_size : cell < size) (under-size : tail < size) where
    pub new_spare : drop size new ≡ drop size rs
    new_spare = drop-set-lt size ws tail (slotted (at ws tail) cell) under-size ∙ drop-set-lt size rs cell w in_size

    pub new_holders : (k : ℕ) → holders k (take size new) + has_rank k (at rs cell) ≡ holders k (take size rs) + has_rank k w
    new_holders k =
        let lr : cell < length (take size rs) = rw (length-take-le size rs held) in_size in
        let hw : size ≤ length ws = rw length-set held in
        let lw : tail < length (take size ws) = rw (length-take-le size ws hw) under-size in
        let x : Record = slotted (at ws tail) cell in
        let a : holders k (take size new) ≡ holders k (set (take size ws) tail x) = ap (holders k) (take-set-lt size ws tail x under-size) in
        let b : holders k (take size ws) ≡ holders k (set (take size rs) cell w) = ap (holders k) (take-set-lt size rs cell w in_size) in
        let d : has_rank k (at (take size ws) tail) ≡ has_rank k x = ap (has_rank k) (get_or-take size ws tail blank under-size) in
        let e : has_rank k (at (take size rs) cell) ≡ has_rank k (at rs cell) = ap (has_rank k) (get_or-take size rs cell blank in_size) in
        let p = holders_set k (take size ws) tail x lw in
        let q = holders_set k (take size rs) cell w lr in
        omega arith
