-- A table as it is opened.
use Rattle.std.proofs.Common.{◌≡◌, ℕ, zero, suc, ◌*◌, ◌<◌, ◌≤◌, true, false, List, [], ◌∷◌, ◌++◌, Bool, ◌&&◌, ◌==◌, ◌+◌, nat_lt, map, length, take, drop, replicate, sym, refl, ap, ◌∙◌, inl, inr, mul-le-mul, mul-pos, arith}
use Rattle.std.proofs.lemmas.Bool.{cases_lt}
use Rattle.std.proofs.lemmas.Nat.Bits.{bit_at-zero}
use Rattle.fact_set.specs.Sets.{has}
use mathlib.Core.List.{map-append}
use Rattle.std.proofs.lemmas.List.{take_at, drop-map, length-replicate, length-append, length-map, get_or_append_left, get_or-replicate}
use Rattle.paths.specs.Does.{Handed, Newly}
use Rattle.paths.specs.Memory as memory
use Rattle.paths.specs.Tabled.{newly_in}
use Rattle.records.specs.Blank.{blank}
use Rattle.table.specs.Records.{at, holders, leans_first, leans_second}
use Rattle.table.specs.State.{rec, state_of}
use Rattle.records.specs.declared.record.Record.{Record}
use Rattle.table.proofs.Blocks.{Blocks, block_below, cell_below, lt_yes, lt_no}
use Rattle.table.proofs.Numbers.{some_facts}
use Rattle.table.proofs.Sounds.{Sound}

all_blank : (k : ℕ) → holders 0 (replicate k blank) ≡ k
all_blank zero = refl
all_blank (suc k) = omega (arith, all_blank k)

pub blank_records : (k : ℕ) → map rec (replicate k blank) ≡ replicate k memory.blank
blank_records zero = refl
blank_records (suc k) = ap (λ rs. memory.blank ∷ rs) (blank_records k)

pub few_cells : (n f : ℕ) → n ≤ 1000 → f ≤ 64 → n * f * f ≤ 4096000
few_cells n f hn hf = mul-le-mul (mul-le-mul hn hf) hf

pub some_cells : (n f : ℕ) → 1 ≤ n → 1 ≤ f → 0 < n * f * f
some_cells n f hn hf = mul-pos (mul-pos hn hf) hf

module _ (rs : List Record) (k : ℕ) (held : k ≤ length rs) where
  abbrev pub cleared : List Record
  cleared = replicate k blank ++ drop k rs

  at_blank : (c : ℕ) → c < k → at cleared c ≡ blank
  at_blank c h =
      let l : c < length (replicate k blank) = rw length-replicate h in
      get_or_append_left (replicate k blank) (drop k rs) blank c l ∙ get_or-replicate k c blank blank h

  front : take k cleared ≡ replicate k blank
  front = take_at (replicate k blank) (drop k rs) k (length-replicate k blank)

  no_lean : false ≡ true → ⊥
  no_lean e = let z : ◌≡◌ {A = ℕ} 0 1 = cc in omega arith

  pub opened_sound : (n f : ℕ) → n ≤ 1000 → f ≤ 64 → k ≡ n * f * f → 0 < k → Sound cleared n f k 0 0 0
  opened_sound n f hn hf e some = record {
    few_points = hn;
    few_facts = hf;
    product = e;
    some = some;
    held = omega (arith, length-append (replicate k blank) (drop k rs), length-replicate k blank);
    counted = (let h : holders 0 (take k cleared) ≡ k = ap (holders 0) front ∙ all_blank k in omega arith);
    ranks = λ c h. (let b = ap (λ (r : Record). r.rank) (at_blank c h) in omega arith);
    once = λ r p l. absurd (omega arith);
    firsts = λ c h. (let b = ap (λ (r : Record). r.first) (at_blank c h) in omega arith);
    seconds = λ c h. (let b = ap (λ (r : Record). r.second) (at_blank c h) in omega arith);
    first_found = λ c h l. absurd (no_lean (sym (ap (λ (r : Record). leans_first r.kind) (at_blank c h)) ∙ l));
    first_before = λ c h l. absurd (no_lean (sym (ap (λ (r : Record). leans_first r.kind) (at_blank c h)) ∙ l));
    second_found = λ c h l. absurd (no_lean (sym (ap (λ (r : Record). leans_second r.kind) (at_blank c h)) ∙ l));
    second_before = λ c h l. absurd (no_lean (sym (ap (λ (r : Record). leans_second r.kind) (at_blank c h)) ∙ l));
    ordered = omega arith;
    pushed = omega arith;
    slots = λ c h. (let b = ap (λ (r : Record). r.slot) (at_blank c h) in omega arith);
    waits = λ c p l. absurd (omega arith);
  }

  pub opened_blocks : (n f : ℕ) → k ≡ n * f * f → 0 < k → Blocks cleared n f
  opened_blocks n f e some b d h =
      let p : 0 < f = some_facts n f (omega arith) in
      let in_size : b < k = (let z = block_below n f b p h in omega arith) in
      let l : has (at cleared b).found d ≡ false = ap (λ (r : Record). has r.found d) (at_blank b in_size) ∙ ap (λ (x : ℕ). x == 1) (bit_at-zero d) in
      l ∙ elim (cases_lt d f) [
        | inl y ↦
            (let r : at cleared (b * f + d) ≡ blank = at_blank (b * f + d) (let z = cell_below n f b d h y in omega arith) in
            sym (ap (λ (x : Record). nat_lt d f && nat_lt 0 x.rank) r ∙ ap (λ (x : Bool). x && false) (lt_yes d f y)))
        | inr y ↦ sym (ap (λ (x : Bool). x && nat_lt 0 (at cleared (b * f + d)).rank) (lt_no d f y))
      ]

  pub opened_state : (n f : ℕ) → k ≡ n * f * f → state_of cleared n f 0 0 0 ≡ newly_in n f (map rec rs)
  opened_state n f e =
      let r : map rec cleared ≡ replicate (n * f * f) memory.blank ++ drop (n * f * f) (map rec rs) =
      map-append rec (replicate k blank) (drop k rs)
      ∙ ap (λ xs. xs ++ map rec (drop k rs)) (blank_records k)
      ∙ ap (λ xs. replicate k memory.blank ++ xs) (sym (drop-map rec k rs))
      ∙ ap (λ (j : ℕ). replicate j memory.blank ++ drop j (map rec rs)) e in
      λ i. record { points = n; facts = f; records = r i; found = 0; settled = 0; waiting = [] }

-- the table that is made
module _ (h : Handed) (n f k : ℕ) (points : n ≡ h.points) (facts : f ≡ h.facts) (cells : k ≡ h.points * h.facts * h.facts) where
  pub size_of : k ≡ n * f * f
  size_of = cells ∙ sym (ap (λ (x : ℕ). x * f * f) points ∙ ap (λ (x : ℕ). h.points * x * x) facts)

  module _ (rs : List Record) (held : k ≤ length rs) (new : List Record) (made : new ≡ replicate k blank ++ drop k rs) where
    pub new_state : state_of new n f 0 0 0 ≡ newly_in h.points h.facts (map rec rs)
    new_state =
        ap (λ (ys : List Record). state_of ys n f 0 0 0) made
        ∙ opened_state rs k held n f size_of
        ∙ ap (λ (x : ℕ). newly_in x f (map rec rs)) points
        ∙ ap (λ (x : ℕ). newly_in h.points x (map rec rs)) facts

    pub new_memory : new ≡ replicate (h.points * h.facts * h.facts) blank ++ drop (h.points * h.facts * h.facts) rs
    new_memory = made ∙ ap (λ (j : ℕ). replicate j blank ++ drop j rs) cells

    pub newly : Newly h (state_of new n f 0 0 0)
    newly = record {
      memory = map rec rs;
      room = (let e = length-map rs rec in omega arith);
      cleared = new_state;
    }
