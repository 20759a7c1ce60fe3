-- What trail answers and writes, by its questions in order; and its law.
use Rattle.std.proofs.Common.{◌≡◌, ℕ, ◌<◌, ◌≤◌, Bool, true, false, cond, T, List, ◌++◌, length, drop, Some, None, Option, sym, refl, ap, ◌∙◌, subst, zero-add, arith}
use Rattle.std.proofs.Math.Dec.{leb, ltb}
use Rattle.std.proofs.lemmas.Bool.{ltb-true, leb-true}
use Rattle.std.specs.Bool.{then_some}
use Rattle.paths.specs.Does.{Answer, gives, refuses, Turn, no, writes, fitting, memory_by, trail_turn, trail_turn_by, trail_answer, Trails}
use Rattle.paths.specs.Machine.{both}
use Rattle.paths.specs.Table.{cell, number_of}
use Rattle.paths.specs.Tabled.{Tabled, record_at, is_found}
use Rattle.paths.specs.Words.{deep_of, least_found}
use Rattle.paths.proofs.Numbers.{number_below}
use Rattle.paths.proofs.Told.{Least, least_is}
use Rattle.paths.proofs.Using.{usage}
use Rattle.table.specs.Told.{has_pair, least}
use Rattle.trail.specs.Trail.{ToldSo}
use Rattle.trail.specs.Walk.{Found, words_of, measured}

-- THE LEAST FOUND CELL OF A PAIR

both_parts : (a b : Bool) → both a b ≡ true → (a ≡ true) × (b ≡ true)
both_parts true b e = (refl, e)
both_parts false b e = let z : true ≡ false = sym e in absurd (let w : ◌≡◌ {A = ℕ} 0 1 = cc in omega arith)

true_is : (b : Bool) → T b → b ≡ true
true_is true h = refl
true_is false h = absurd h

module _ (t : Tabled) (n d : ℕ) where
  found_by : (c : ℕ) (o : Option ℕ) → n < t.points → d < t.facts → Least o t.facts n d t → o ≡ Some c → Found t c
  found_by c None h h' l e = let w : ◌≡◌ {A = ℕ} 0 1 = cc in absurd (omega arith)
  found_by c (Some x) h h' l e =
      let same : x ≡ c = cc in
      let y = number_of t.facts (cell n l.0 d) in
      subst (Found t) (sym l.2 ∙ same) (record {
        within = number_below t.points t.facts (cell n l.0 d) (h, l.1, h');
        ranked = ltb-true 0 (record_at t y).rank (true_is (is_found y t) l.3);
      })

  least_by : (c : ℕ) (b : Bool) → has_pair t n d ≡ b → cond b (least_found t.facts n d t) None ≡ Some c → Found t c
  least_by c false p e = let w : ◌≡◌ {A = ℕ} 0 1 = cc in absurd (omega arith)
  least_by c true p e =
      let inside = both_parts (ltb n t.points) (ltb d t.facts) p in
      found_by c (least_found t.facts n d t) (ltb-true n t.points inside.0) (ltb-true d t.facts inside.1) (least_is t.facts n d t) e

  -- it is one of the table's, and found
  pub least_stands : (c : ℕ) → least t n d ≡ Some c → Found t c
  least_stands c e = least_by c (has_pair t n d) refl e

-- WHETHER A TRAIL FITS

kept : (b : Bool) (m k : ℕ) → then_some b m ≡ Some k → (b ≡ true) × (m ≡ k)
kept true m k e = (refl, cc)
kept false m k e = let w : ◌≡◌ {A = ℕ} 0 1 = cc in absurd (omega arith)

lost : (b : Bool) (m : ℕ) → then_some b m ≡ None → b ≡ false
lost true m e = let w : ◌≡◌ {A = ℕ} 0 1 = cc in absurd (omega arith)
lost false m e = refl

module _ (t : Tabled) (c size room : ℕ) where
  abbrev fits : Bool
  fits = both (leb (length (words_of t c)) size) (leb (deep_of t c) room)

  pub measured_count : (k : ℕ) → measured t c size room ≡ Some k → length (words_of t c) ≡ k
  measured_count k e = (kept fits (length (words_of t c)) k e).1

  pub measured_size : (k : ℕ) → measured t c size room ≡ Some k → k ≤ size
  measured_size k e =
      let p = kept fits (length (words_of t c)) k e in
      let q = leb-true (length (words_of t c)) size (both_parts (leb (length (words_of t c)) size) (leb (deep_of t c) room) p.0).0 in
      let s = p.1 in
      omega arith

  pub measured_deep : (k : ℕ) → measured t c size room ≡ Some k → deep_of t c ≤ room
  measured_deep k e =
      leb-true (deep_of t c) room (both_parts (leb (length (words_of t c)) size) (leb (deep_of t c) room) (kept fits (length (words_of t c)) k e).0).1

-- THE QUESTIONS IN ORDER

module _ (t : Tabled) (n d : ℕ) (memory : List ℕ) (room : ℕ) where
  -- a turn tells what is answered and written
  by_turn : (turn : Turn) → trail_turn t n d memory room ≡ turn → Trails t n d memory room (trail_answer turn) (memory_by turn 0 memory)
  by_turn turn e = record { answers = ap trail_answer (sym e); holds = ap (λ (x : Turn). memory_by x 0 memory) (sym e) }

  pub refuses_13 : has_pair t n d ≡ false → Trails t n d memory room (refuses 13) memory
  refuses_13 e = by_turn (no 13) (ap (λ (b : Bool). cond b (trail_turn_by (least_found t.facts n d t) t (length memory) room) (no 13)) e)

  module _ (pair : has_pair t n d ≡ true) where
    of_pair : (o : Option ℕ) → least t n d ≡ o → trail_turn t n d memory room ≡ trail_turn_by o t (length memory) room
    of_pair o e =
        ap (λ (b : Bool). cond b (trail_turn_by (least_found t.facts n d t) t (length memory) room) (no 13)) pair
        ∙ ap (λ (x : Option ℕ). trail_turn_by x t (length memory) room)
        (sym (ap (λ (b : Bool). cond b (least_found t.facts n d t) None) pair) ∙ e)

    pub refuses_15 : least t n d ≡ None → Trails t n d memory room (refuses 15) memory
    refuses_15 e = by_turn (no 15) (of_pair None e)

    module _ (c : ℕ) (is : least t n d ≡ Some c) where
      pub refuses_17 : measured t c (length memory) room ≡ None → Trails t n d memory room (refuses 17) memory
      refuses_17 e =
          by_turn (no 17) (of_pair (Some c) is
          ∙ ap (λ (b : Bool). fitting b (words_of t c)) (lost (fits t c (length memory) room) (length (words_of t c)) e))

      pub gives_words : (k : ℕ) (memory' : List ℕ) → measured t c (length memory) room ≡ Some k → memory' ≡ words_of t c ++ drop k memory
          → Trails t n d memory room (gives k) memory'
      gives_words k memory' e h =
          let p = kept (fits t c (length memory) room) (length (words_of t c)) k e in
          let turn = of_pair (Some c) is ∙ ap (λ (b : Bool). fitting b (words_of t c)) p.0 in
          let does = by_turn (writes (words_of t c)) turn in
          record {
            answers = ap gives (sym p.1) ∙ does.answers;
            holds = h ∙ ap (λ (j : ℕ). words_of t c ++ drop j memory) (sym p.1 ∙ sym (zero-add (length (words_of t c)))) ∙ does.holds;
          }

-- THE LAW

pub told_so : (t : Tabled) (n d : ℕ) (memory : List ℕ) (room : ℕ) (answer : Answer) (memory' : List ℕ)
    → Trails t n d memory room answer memory' → ToldSo t n d memory room answer memory'
told_so t n d memory room answer memory' does =
    record { so = λ H sound first new starts s. (usage H sound first new).trailed starts t n d room answer memory memory' s does }

-- the answers and what a count tells, for the tactics
pub ruleset spelling = (refuses_13, refuses_15, refuses_17, gives_words, measured_count, measured_size, measured_deep)
