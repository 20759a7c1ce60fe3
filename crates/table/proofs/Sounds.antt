-- What the type of a table says of its parts, and that finding a cell keeps it.
use Rattle.std.proofs.Common.{◌≡◌, ℕ, ◌+◌, ◌*◌, ◌<◌, ◌≤◌, true, List, length, take, Some, vec_items, sym, ap, ◌∙◌, subst, inl, inr, arith}
use Rattle.std.proofs.lemmas.List.{get_or-take, length-take-le}
use Rattle.std.proofs.lemmas.Bool.{cases_eq}
use Rattle.moves.specs.declared.moves.Kind.{Kind}
use Rattle.records.specs.Blank.{blank}
use Rattle.fact_set.specs.declared.FactSet.{FactSet}
use Rattle.table.specs.Records.{at, has_rank, holders, leans_first, leans_second, written, entered, marked}
use Rattle.records.specs.declared.record.Record.{Record}
use Rattle.table.specs.declared.state.Core.{Core}
use Rattle.table.proofs.Marks.{plain, plain_marked, length_marked, holders_marked}
use Rattle.table.proofs.Writing.{bare, rank_yes, rank_no, holders_some, holders_none, new_length, bare_here, bare_other, slot_here, slot_other, rank_stays, new_holders}

pub record Sound (rs : List Record) (points facts size found head tail : ℕ) : Type 0 where
  pub few_points : points ≤ 1000
  pub few_facts : facts ≤ 64
  pub product : size ≡ points * facts * facts
  pub some : 0 < size
  pub held : size ≤ length rs
  pub counted : found + holders 0 (take size rs) ≡ size
  pub ranks : (c : ℕ) → c < size → (at rs c).rank ≤ found
  pub once : (r : ℕ) → 0 < r → r ≤ found → holders r (take size rs) ≡ 1
  pub firsts : (c : ℕ) → c < size → (at rs c).first < size
  pub seconds : (c : ℕ) → c < size → (at rs c).second < size
  pub first_found : (c : ℕ) → c < size → leans_first (at rs c).kind ≡ true → 0 < (at rs (at rs c).first).rank
  pub first_before : (c : ℕ) → c < size → leans_first (at rs c).kind ≡ true → (at rs (at rs c).first).rank < (at rs c).rank
  pub second_found : (c : ℕ) → c < size → leans_second (at rs c).kind ≡ true → 0 < (at rs (at rs c).second).rank
  pub second_before : (c : ℕ) → c < size → leans_second (at rs c).kind ≡ true → (at rs (at rs c).second).rank < (at rs c).rank
  pub ordered : head ≤ tail
  pub pushed : tail ≤ found
  pub slots : (k : ℕ) → k < size → (at rs k).slot < size
  pub waits : (k : ℕ) → head ≤ k → k < tail → 0 < (at rs (at rs k).slot).rank

abbrev pub Whole : Core → Type 0
Whole t = Sound (vec_items t.records) t.points t.facts t.size t.found t.head t.tail

pub sound : (t : Core) → Whole t
sound t = record {
  few_points = t.few_points;
  few_facts = t.few_facts;
  product = t.product;
  some = t.some;
  held = t.held;
  counted = t.counted;
  ranks = t.ranks;
  once = t.once;
  firsts = t.firsts;
  seconds = t.seconds;
  first_found = t.first_found;
  first_before = t.first_before;
  second_found = t.second_found;
  second_before = t.second_before;
  ordered = t.ordered;
  pushed = t.pushed;
  slots = t.slots;
  waits = t.waits;
}

module _ {rs : List Record} {points facts size found head tail : ℕ} (s : Sound rs points facts size found head tail) where
  pub found_size : found ≤ size
  found_size = omega (arith, s.counted)

  -- a cell that is not found leaves room for one more
  pub room : (cell : ℕ) → cell < size → (at rs cell).rank ≡ 0 → found < size
  room cell h z =
      let l : cell < length (take size rs) = rw (length-take-le size rs s.held) h in
      let p = holders_some 0 (take size rs) cell l (ap (λ (r : Record). r.rank) (get_or-take size rs cell blank h) ∙ z) in
      omega (arith, s.counted)

  -- no record has a rank above the number found
  no_more : holders (found + 1) (take size rs) ≡ 0
  no_more = holders_none (found + 1) (take size rs) (λ i l e.
      let h : i < size = (let z = length-take-le size rs s.held in omega arith) in
      let same : (at (take size rs) i).rank ≡ (at rs i).rank = ap (λ (r : Record). r.rank) (get_or-take size rs i blank h) in
      omega (arith, s.ranks i h))

  module _ (cell : ℕ) (kind : Kind) (first second : ℕ) (inside : cell < size) (z : (at rs cell).rank ≡ 0)
      (first-in : first < size) (second-in : second < size)
      (by_first : leans_first (Some kind) ≡ true → 0 < (at rs first).rank) (by-second : leans_second (Some kind) ≡ true → 0 < (at rs second).rank) where
    under : tail < size
    under = omega (arith, s.pushed, room cell inside z)

    in_list : cell < length rs
    in_list = omega (arith, s.held)

    under_list : tail < length rs
    under_list = omega (arith, under, s.held)

    abbrev new : List Record
    new = entered rs cell (found + 1) kind first second tail

    abbrev w : Record
    w = written (at rs cell) (found + 1) kind first second

    here : bare (at new cell) ≡ bare w
    here = bare_here rs cell (found + 1) kind first second tail in_list under_list

    other : (c : ℕ) → (c ≡ cell → ⊥) → bare (at new c) ≡ bare (at rs c)
    other = bare_other rs cell (found + 1) kind first second tail in_list under_list

    stays : (c : ℕ) → 0 < (at rs c).rank → (at new c).rank ≡ (at rs c).rank
    stays = rank_stays rs cell (found + 1) kind first second tail in_list under_list z

    -- a fact of the record of every cell, without the table's own field
    each : (P : ℕ → Record → Type 0) → P cell (bare w) → ((c : ℕ) → c < size → (c ≡ cell → ⊥) → P c (bare (at rs c))) → (c : ℕ) → c < size → P c (bare (at new c))
    each P at-cell old c h = elim (cases_eq c cell) [
      | inl e ↦ subst (λ (j : ℕ). P j (bare (at new j))) (sym e) (subst (P cell) (sym here) at-cell)
      | inr n ↦ subst (P c) (sym (other c n)) (old c h n)
    ]

    counts : (k : ℕ) → holders k (take size new) + has_rank k (at rs cell) ≡ holders k (take size rs) + has_rank k w
    counts = new_holders rs cell (found + 1) kind first second tail in_list under_list size s.held inside under

    once_more : (r : ℕ) → 0 < r → r ≤ found + 1 → holders r (take size new) ≡ 1
    once_more r p l =
        let old : has_rank r (at rs cell) ≡ 0 = rank_no r (at rs cell) (λ e. omega arith) in
        let c = counts r in
        elim (cases_eq r (found + 1)) [
          | inl e ↦
              (let one : has_rank r w ≡ 1 = rank_yes r w (sym e) in
              let none : holders r (take size rs) ≡ 0 = ap (λ (k : ℕ). holders k (take size rs)) e ∙ no_more in
              omega arith)
          | inr n ↦
              (let none : has_rank r w ≡ 0 = rank_no r w (λ e. n (sym e)) in
              let le : r ≤ found = omega arith in
              omega (arith, s.once r p le))
        ]

    pub entered_sound : Sound new points facts size (found + 1) head (tail + 1)
    entered_sound = record {
      few_points = s.few_points;
      few_facts = s.few_facts;
      product = s.product;
      some = s.some;
      held = omega (arith, s.held, new_length rs cell (found + 1) kind first second tail in_list under_list);
      counted =
          (let c = counts 0 in
          let one : has_rank 0 (at rs cell) ≡ 1 = rank_yes 0 (at rs cell) z in
          let none : has_rank 0 w ≡ 0 = rank_no 0 w (λ e. omega arith) in
          omega (arith, s.counted));
      ranks = each (λ c r. r.rank ≤ found + 1) (omega arith) (λ c h n. omega (arith, s.ranks c h));
      once = once_more;
      firsts = each (λ c r. r.first < size) first-in (λ c h n. s.firsts c h);
      seconds = each (λ c r. r.second < size) second-in (λ c h n. s.seconds c h);
      first_found = each (λ c r. leans_first r.kind ≡ true → 0 < (at new r.first).rank)
          (λ e. omega (arith, by_first e, stays first (by_first e)))
          (λ c h n e. let f = s.first_found c h e in omega (arith, stays (at rs c).first f));
      first_before = each (λ c r. leans_first r.kind ≡ true → (at new r.first).rank < r.rank)
          (λ e. omega (arith, stays first (by_first e), s.ranks first first-in))
          (λ c h n e. let f = s.first_found c h e in omega (arith, stays (at rs c).first f, s.first_before c h e));
      second_found = each (λ c r. leans_second r.kind ≡ true → 0 < (at new r.second).rank)
          (λ e. omega (arith, by-second e, stays second (by-second e)))
          (λ c h n e. let f = s.second_found c h e in omega (arith, stays (at rs c).second f));
      second_before = each (λ c r. leans_second r.kind ≡ true → (at new r.second).rank < r.rank)
          (λ e. omega (arith, stays second (by-second e), s.ranks second second-in))
          (λ c h n e. let f = s.second_found c h e in omega (arith, stays (at rs c).second f, s.second_before c h e));
      ordered = omega (arith, s.ordered);
      pushed = omega (arith, s.pushed);
      slots = λ k h. elim (cases_eq k tail) [
        | inl e ↦ subst (λ (j : ℕ). (at new j).slot < size) (sym e) (let q = slot_here rs cell (found + 1) kind first second tail in_list under_list in omega arith)
        | inr n ↦ (let q = slot_other rs cell (found + 1) kind first second tail in_list under_list k n in omega (arith, s.slots k h))
      ];
      waits = λ k l h. elim (cases_eq k tail) [
        | inl e ↦
            (let q : (at new k).slot ≡ cell = ap (λ (j : ℕ). (at new j).slot) e ∙ slot_here rs cell (found + 1) kind first second tail in_list under_list in
            let r : (at new (at new k).slot).rank ≡ found + 1 = ap (λ (j : ℕ). (at new j).rank) q ∙ ap (λ (x : Record). x.rank) here in
            omega arith)
        | inr n ↦
            (let q : (at new k).slot ≡ (at rs k).slot = slot_other rs cell (found + 1) kind first second tail in_list under_list k n in
            let lt : k < tail = omega arith in
            let f = s.waits k l lt in
            let r : (at new (at new k).slot).rank ≡ (at rs (at rs k).slot).rank = ap (λ (j : ℕ). (at new j).rank) q ∙ stays (at rs k).slot f in
            omega arith)
      ];
    }

-- another set of found facts changes none of it
module _ {rs : List Record} {points facts size found head tail : ℕ} (s : Sound rs points facts size found head tail) (b : ℕ) (x : FactSet) (in_size : b < size) where
  inside : b < length rs
  inside = omega (arith, s.held)

  abbrev ms : List Record
  ms = marked rs b x

  same : (c : ℕ) → plain (at ms c) ≡ plain (at rs c)
  same = plain_marked rs b x inside

  rank_same : (c : ℕ) → (at ms c).rank ≡ (at rs c).rank
  rank_same c = ap (λ (r : Record). r.rank) (same c)

  first_rank : (c : ℕ) → (at ms (at ms c).first).rank ≡ (at rs (at rs c).first).rank
  first_rank c = rank_same _ ∙ ap (λ (r : Record). (at rs r.first).rank) (same c)

  second_rank : (c : ℕ) → (at ms (at ms c).second).rank ≡ (at rs (at rs c).second).rank
  second_rank c = rank_same _ ∙ ap (λ (r : Record). (at rs r.second).rank) (same c)

  slot_rank : (c : ℕ) → (at ms (at ms c).slot).rank ≡ (at rs (at rs c).slot).rank
  slot_rank c = rank_same _ ∙ ap (λ (r : Record). (at rs r.slot).rank) (same c)

  leans_1 : (c : ℕ) → leans_first (at ms c).kind ≡ true → leans_first (at rs c).kind ≡ true
  leans_1 c e = sym (ap (λ (r : Record). leans_first r.kind) (same c)) ∙ e

  leans_2 : (c : ℕ) → leans_second (at ms c).kind ≡ true → leans_second (at rs c).kind ≡ true
  leans_2 c e = sym (ap (λ (r : Record). leans_second r.kind) (same c)) ∙ e

  pub marked_sound : Sound ms points facts size found head tail
  marked_sound = record {
    few_points = s.few_points;
    few_facts = s.few_facts;
    product = s.product;
    some = s.some;
    held = omega (arith, s.held, length_marked rs b x inside);
    counted = omega (arith, s.counted, holders_marked rs b x inside size s.held in_size 0);
    ranks = λ c h. omega (arith, s.ranks c h, rank_same c);
    once = λ r p l. holders_marked rs b x inside size s.held in_size r ∙ s.once r p l;
    firsts = λ c h. (let e = ap (λ (r : Record). r.first) (same c) in omega (arith, s.firsts c h));
    seconds = λ c h. (let e = ap (λ (r : Record). r.second) (same c) in omega (arith, s.seconds c h));
    first_found = λ c h e. omega (arith, s.first_found c h (leans_1 c e), first_rank c);
    first_before = λ c h e. omega (arith, s.first_before c h (leans_1 c e), first_rank c, rank_same c);
    second_found = λ c h e. omega (arith, s.second_found c h (leans_2 c e), second_rank c);
    second_before = λ c h e. omega (arith, s.second_before c h (leans_2 c e), second_rank c, rank_same c);
    ordered = s.ordered;
    pushed = s.pushed;
    slots = λ k h. (let e = ap (λ (r : Record). r.slot) (same k) in omega (arith, s.slots k h));
    waits = λ k l h. omega (arith, s.waits k l h, slot_rank k);
  }
