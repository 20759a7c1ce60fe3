-- What writing down a found fact of a block does to the records.
use Rattle.std.proofs.Common.{◌≡◌, ℕ, ◌<◌, ◌≤◌, List, map, length, take, drop, set, sym, refl, ap, ◌∙◌, inl, inr, arith, length-set, get_or-take, get_or-set_other, get_or-set_same, drop-set-lt}
use lib.Seq.{take-set-lt, map-set_same}
use Rattle.std.proofs.lemmas.List.{length-take-le}
use Rattle.std.proofs.lemmas.Bool.{cases_eq}
use Rattle.fact_set.specs.declared.FactSet.{FactSet}
use Rattle.records.specs.Blank.{blank}
use Rattle.table.specs.Records.{at, has_rank, holders, noted, marked}
use Rattle.table.specs.State.{rec, row, state_of}
use Rattle.records.specs.declared.record.Record.{Record}
use Rattle.table.proofs.Writing.{holders_set, row_between}
use Rattle.std.specs.List.{between}

-- a record but for its found facts
abbrev pub plain : Record → Record
plain r = noted r (record { 0 = 0 })

module _ (rs : List Record) (b : ℕ) (s : FactSet) (inside : b < length rs) where
  abbrev new : List Record
  new = marked rs b s

  abbrev n : Record
  n = noted (at rs b) s

  pub length_marked : length new ≡ length rs
  length_marked = length-set rs b n

  pub plain_marked : (c : ℕ) → plain (at new c) ≡ plain (at rs c)
  plain_marked c = elim (cases_eq c b) [
    | inl e ↦ ap (λ (j : ℕ). plain (at new j)) e ∙ ap plain (get_or-set_same rs b n blank inside) ∙ ap (λ (j : ℕ). plain (at rs j)) (sym e)
    | inr o ↦ ap plain (get_or-set_other rs b c n blank o)
  ]

  pub found_here : (at new b).found ≡ s
  found_here = ap (λ (r : Record). r.found) (get_or-set_same rs b n blank inside)

  pub found_other : (c : ℕ) → (c ≡ b → ⊥) → (at new c).found ≡ (at rs c).found
  found_other c o = ap (λ (r : Record). r.found) (get_or-set_other rs b c n blank o)

  pub recs_marked : map rec new ≡ map rec rs
  recs_marked = map-set_same rec rs b n blank refl

  pub row_marked : (head tail : ℕ) → row new head tail ≡ row rs head tail
  row_marked head tail =
      row_between new head tail ∙ ap (between head tail) (map-set_same (λ (r : Record). r.slot) rs b n blank refl) ∙ sym (row_between rs head tail)

  pub state_marked : (points facts found head tail : ℕ) → state_of new points facts found head tail ≡ state_of rs points facts found head tail
  state_marked points facts found head tail =
      λ i. record { points = points; facts = facts; records = recs_marked i; found = found; settled = (state_of rs points facts found head tail).settled; waiting = row_marked head tail i }

  module _ (size : ℕ) (held : size ≤ length rs) (in_size : b < size) where
    pub spare_marked : drop size new ≡ drop size rs
    spare_marked = drop-set-lt size rs b n in_size

    pub holders_marked : (k : ℕ) → holders k (take size new) ≡ holders k (take size rs)
    holders_marked k =
        let l : b < length (take size rs) = rw (length-take-le size rs held) in_size in
        let e : holders k (take size new) ≡ holders k (set (take size rs) b n) = ap (holders k) (take-set-lt size rs b n in_size) in
        let r : has_rank k (at (take size rs) b) ≡ has_rank k (at rs b) = ap (has_rank k) (get_or-take size rs b blank in_size) in
        let same : has_rank k n ≡ has_rank k (at rs b) = refl in
        let h = holders_set k (take size rs) b n l in
        omega arith
