-- The found facts of the blocks.
use Rattle.std.proofs.Common.{◌≡◌, ℕ, suc, ◌+◌, ◌*◌, ◌/◌, ◌<◌, ◌≤◌, Bool, true, false, ◌&&◌, ◌||◌, ◌==◌, nat_lt, List, length, sym, ap, ◌∙◌, inl, inr, arith}
use Rattle.std.proofs.lemmas.Nat.{div-mul-add}
use Rattle.std.proofs.Math.Nat.{mul-le-mul_right, le-mul_of_pos_right}
use Rattle.std.proofs.lemmas.Bool.{cases_eq, cases_lt, eq-eqb, ne_eqb}
use Rattle.fact_set.specs.Sets.{has}
use Rattle.fact_set.specs.declared.FactSet.{FactSet}
use Rattle.moves.specs.declared.moves.Kind.{Kind}
use Rattle.records.specs.declared.record.Record.{Record}
use Rattle.table.specs.Records.{at, entered, marked}
use Rattle.table.proofs.Writing.{bare_here, bare_other, new_length}
use Rattle.table.proofs.Marks.{plain_marked, found_here, found_other}

pub lt_no : (a b : ℕ) → b ≤ a → nat_lt a b ≡ false
lt_no a b h = grind arith

pub lt_yes : (a b : ℕ) → a < b → nat_lt a b ≡ true
lt_yes a b h = grind arith

-- a set that has the facts below f that are found
pub found_yes : (h l f : Bool) → h ≡ (l && f) → h ≡ true → f ≡ true
found_yes h true f e y = sym e ∙ y
found_yes h false f e y = let z : ◌≡◌ {A = ℕ} 0 1 = cc in absurd (omega arith)

pub found_no : (h l f : Bool) → h ≡ (l && f) → h ≡ false → l ≡ true → f ≡ false
found_no h true f e y t = sym e ∙ y
found_no h false f e y t = let z : ◌≡◌ {A = ℕ} 0 1 = cc in absurd (omega arith)

-- the cells of a block are the table's
pub cell_below : (n f b e : ℕ) → b < n * f → e < f → b * f + e < n * f * f
cell_below n f b e h k = let z : suc b * f ≤ n * f * f = mul-le-mul_right f h in omega arith

-- and so is the record that has its found facts
pub block_below : (n f b : ℕ) → 0 < f → b < n * f → b < n * f * f
block_below n f b p h = let z : n * f ≤ n * f * f = le-mul_of_pos_right (n * f) p in omega arith

-- a number is that of one cell of one block
pub same_block : (f b e c d : ℕ) → e < f → d < f → b * f + e ≡ c * f + d → b ≡ c
same_block f b e c d h k q = sym (div-mul-add b f e h) ∙ ap (λ (x : ℕ). x / f) q ∙ div-mul-add c f d k

-- each block has the facts of its found cells
abbrev pub Blocks : List Record → ℕ → ℕ → Type 0
Blocks rs n f = (b : ℕ) (e : ℕ) → b < n * f → has (at rs b).found e ≡ (nat_lt e f && nat_lt 0 (at rs (b * f + e)).rank)

-- the cell of block b with fact e is written, and its fact put into the set s of the block
module _ (rs : List Record) (n f : ℕ) (b e : ℕ) (s : FactSet) (rank : ℕ) (kind : Kind) (first second tail : ℕ)
    (few : f ≤ 64) (block : b < n * f) (fact : e < f) (some : 0 < rank) (held : n * f * f ≤ length rs) (under : tail < length rs)
    (joined : (d : ℕ) → has s d ≡ (has (at (entered rs (b * f + e) rank kind first second tail) b).found d || (nat_lt d 64 && d == e))) where
  abbrev cell : ℕ
  cell = b * f + e

  abbrev es : List Record
  es = entered rs cell rank kind first second tail

  abbrev new : List Record
  new = marked es b s

  inside : cell < length rs
  inside = omega (arith, cell_below n f b e block fact)

  long : b < length es
  long = omega (arith, new_length rs cell rank kind first second tail inside under, block_below n f b (omega arith) block)

  rank_here : (at new cell).rank ≡ rank
  rank_here = ap (λ (r : Record). r.rank) (plain_marked es b s long cell) ∙ ap (λ (r : Record). r.rank) (bare_here rs cell rank kind first second tail inside under)

  rank_other : (c : ℕ) → (c ≡ cell → ⊥) → (at new c).rank ≡ (at rs c).rank
  rank_other c o = ap (λ (r : Record). r.rank) (plain_marked es b s long c) ∙ ap (λ (r : Record). r.rank) (bare_other rs cell rank kind first second tail inside under c o)

  found_entered : (c : ℕ) → (at es c).found ≡ (at rs c).found
  found_entered c = elim (cases_eq c cell) [
    | inl q ↦ ap (λ (j : ℕ). (at es j).found) q ∙ ap (λ (r : Record). r.found) (bare_here rs cell rank kind first second tail inside under) ∙ ap (λ (j : ℕ). (at rs j).found) (sym q)
    | inr o ↦ ap (λ (r : Record). r.found) (bare_other rs cell rank kind first second tail inside under c o)
  ]

  pub blocks_more : Blocks rs n f → Blocks new n f
  blocks_more old c d h = elim (cases_eq c b) [
    | inl q ↦ elim (cases_eq d e) [
      | inl p ↦
          (let l : has (at new c).found d ≡ has s d = ap (λ (j : ℕ). has (at new j).found d) q ∙ ap (λ (x : FactSet). has x d) (found_here es b s long) in
          let r : (at new (c * f + d)).rank ≡ rank = ap (λ (j : ℕ). (at new (j * f + d)).rank) q ∙ ap (λ (j : ℕ). (at new (b * f + j)).rank) p ∙ rank_here in
          let t : has s d ≡ true = joined d ∙ grind (arith, lt_yes d 64 (omega arith), eq-eqb d e p) in
          let u : nat_lt 0 (at new (c * f + d)).rank ≡ true = lt_yes 0 _ (omega arith) in
          l ∙ t ∙ sym (ap (λ (x : Bool). x && nat_lt 0 (at new (c * f + d)).rank) (lt_yes d f (omega arith)) ∙ u))
      | inr o ↦
          (let l : has (at new c).found d ≡ has s d = ap (λ (j : ℕ). has (at new j).found d) q ∙ ap (λ (x : FactSet). has x d) (found_here es b s long) in
          let t : has s d ≡ has (at rs b).found d = joined d ∙ grind (arith, ne_eqb d e o, found_entered b) in
          let r : (at new (c * f + d)).rank ≡ (at rs (c * f + d)).rank = rank_other (c * f + d) (λ z. o (let y : b * f + d ≡ b * f + e = sym (ap (λ (j : ℕ). j * f + d) q) ∙ z in omega arith)) in
          l ∙ t ∙ sym (ap (λ (j : ℕ). has (at rs j).found d) q) ∙ old c d h ∙ sym (ap (λ (x : ℕ). nat_lt d f && nat_lt 0 x) r))
    ]
    | inr o ↦
        (let l : has (at new c).found d ≡ has (at rs c).found d = ap (λ (x : FactSet). has x d) (found_other es b s long c o ∙ found_entered c) in
        elim (cases_lt d f) [
          | inl k ↦
              (let r : (at new (c * f + d)).rank ≡ (at rs (c * f + d)).rank = rank_other (c * f + d) (λ z. o (same_block f c d b e k fact z)) in
              l ∙ old c d h ∙ sym (ap (λ (x : ℕ). nat_lt d f && nat_lt 0 x) r))
          | inr k ↦
              (let z = lt_no d f k in
              l ∙ old c d h ∙ ap (λ (x : Bool). x && nat_lt 0 (at rs (c * f + d)).rank) z ∙ sym (ap (λ (x : Bool). x && nat_lt 0 (at new (c * f + d)).rank) z))
        ])
  ]
