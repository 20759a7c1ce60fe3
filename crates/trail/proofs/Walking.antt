-- The two passes over a trail, over a walk and its memory for calls.
use Rattle.std.proofs.Common.{◌≡◌, ℕ, ◌+◌, ◌-◌, ◌<◌, ◌≤◌, true, List, length, set, Some, None, Ok, Err, Option, Result, sym, refl, ap, ◌∙◌, subst, arith}
use Rattle.moves.specs.Words.{encoded, fits}
use Rattle.paths.specs.Tabled.{Tabled}
use Rattle.paths.specs.Words.{deep_of}
use Rattle.records.specs.declared.record.Record.{Record}
use Rattle.stack.specs.declared.Full.{Full}
use Rattle.std.specs.Result.{IsOk}
use Rattle.trail.proofs.Steps.{most, stuck}
use Rattle.table.specs.State.{inner}
use Rattle.table.specs.declared.state.Core.{Core}
use Rattle.trail.specs.Walk.{Place, Turn, turn_at, Found, words_of, measured, left}
use Rattle.trail.specs.Stride.{opens, place_of, before_of, Within, Strode, Stuck, Strides}
use Rattle.trail.proofs.Calls.{height_is}
use Rattle.trail.specs.declared.walk.Walk.{Walk}
use Rattle.trail.specs.declared.walk.Stride.{Stride}
use Rattle.trail.proofs.Table.{led}
use Rattle.trail.proofs.Passing.{Counted, counting, count_on, too_long, too_deep, counted, Written, writing, write_on, written, same_word, has_word}

module _ (t : Tabled) (R c : ℕ) where
  -- n moves of the trail of the cell c are counted
  pub record Measuring (n : ℕ) (w : Walk) (calls : List Record) : Type 0 where
    pub room : length calls ≡ R
    pub height : w.height ≤ length calls
    pub on : Counted t R c n (Some (place_of calls w))

  -- its words from the place n on are written
  pub record Writing (n : ℕ) (o : Option Walk) (calls : List Record) (words : List ℕ) : Type 0 where
    pub room : length calls ≡ R
    pub height : Within calls o
    pub on : Written t R c n (before_of calls o) words

module _ (k : Core) (R c : ℕ) where
  pub measure_first : (calls : List Record) → Found (inner k) c → length calls ≡ R → Measuring (inner k) R c 0 (record { cell = c; height = 0 }) calls
  measure_first calls f l = record { room = l; height = omega arith; on = counting (inner k) (led k) R c f }

  module _ (n : ℕ) (w : Walk) (calls : List Record) (m : Measuring (inner k) R c n w calls) where
    low : length (opens calls w.height) ≤ R
    low = let e = height_is calls w.height m.height in let h = m.height in let r = m.room in omega arith

    pub measure_over : None ≡ measured (inner k) c n R
    measure_over = too_long (inner k) (led k) R c n w.cell (opens calls w.height) m.on

    pub measure_stuck : (room : ℕ) → Stuck (inner k) w calls → None ≡ measured (inner k) c room R
    measure_stuck room s =
        too_deep (inner k) (led k) R c n w.cell (opens calls w.height) m.on room s.returns
        (let e = height_is calls w.height m.height in let r = m.room in let f = s.full in omega arith)

    module _ (s : Stride) (calls' : List Record) (strode : Strode (inner k) w calls s calls') where
      next : before_of calls' s.before ≡ (turn_at (inner k) (place_of calls w)).before
      next = ap (λ (x : Turn). x.before) strode.turns

      pub measure_all : (room : ℕ) → s.before ≡ None → n < room → Some (n + 1) ≡ measured (inner k) c room R
      measure_all room e h =
          counted (inner k) (led k) R c n w.cell (opens calls w.height) m.on room
          (sym next ∙ ap (before_of calls') e) low h

      pub measure_on : (w' : Walk) → s.before ≡ Some w' → length calls' ≡ R → Measuring (inner k) R c (n + 1) w' calls'
      measure_on w' e l = record {
        room = l;
        height = subst (λ (o : Option Walk). Within calls' o) e strode.within;
        on = subst (Counted (inner k) R c (n + 1)) (sym next ∙ ap (before_of calls') e)
            (count_on (inner k) (led k) R c n w.cell (opens calls w.height) m.on low);
      }

  pub write_first : (calls : List Record) (words : List ℕ) → Found (inner k) c → deep_of (inner k) c ≤ length calls → length calls ≡ R
      → length words ≡ length (words_of (inner k) c) → Writing (inner k) R c (length words) (Some (record { cell = c; height = 0 })) calls words
  write_first calls words f h r l = record { room = r; height = omega arith; on = writing (inner k) (led k) R c f (omega arith) words l }

  pub write_some : (n : ℕ) (o : Option Walk) (calls : List Record) (words : List ℕ) → Writing (inner k) R c n o calls words → 0 < n → o ≡ None → ⊥
  write_some n o calls words m h e =
      let z : length (left (inner k) None) ≡ n = subst (λ (p : Option Walk). length (left (inner k) (before_of calls p)) ≡ n) e m.on.count in
      omega arith

  pub write_all : (o : Option Walk) (calls : List Record) (words : List ℕ) → Writing (inner k) R c 0 o calls words → words ≡ words_of (inner k) c
  write_all o calls words m = written (inner k) (led k) R c (before_of calls o) words m.on

  module _ (n : ℕ) (o : Option Walk) (w : Walk) (calls calls' : List Record) (words : List ℕ)
      (writing' : Writing (inner k) R c n o calls words) (is : o ≡ Some w) (r : Result Stride Full) (strides : Strides (inner k) w calls r calls') where
    now : Writing (inner k) R c n (Some w) calls words
    now = subst (λ (p : Option Walk). Writing (inner k) R c n p calls words) is writing'

    room_left : Stuck (inner k) w calls → ⊥
    room_left s =
        let e = height_is calls w.height now.height in
        let l = now.room in
        let f = s.full in
        let above : R < most (inner k) (Some (place_of calls w)) =
        stuck (inner k) (led k) R w.cell (opens calls w.height) now.on.stands.0 s.returns (omega arith) in
        let room = now.on.room in
        omega arith

    goes_on : (x : Result Stride Full) → Strides (inner k) w calls x calls' → IsOk x
    goes_on (Ok s) h = refl
    goes_on (Err e) h = absurd (room_left h)

    pub write_ok : IsOk r
    write_ok = goes_on r strides

    module _ (s : Stride) (e : r ≡ Ok s) where
      strode : Strode (inner k) w calls s calls'
      strode = subst (λ (x : Result Stride Full). Strides (inner k) w calls x calls') e strides

      pub write_word : fits s.arrives ≡ true
      write_word = has_word k.points k.facts w.cell s.arrives k.few_points k.few_facts now.on.stands.0.within strode.point strode.fact

      pub write_step : (word : ℕ) → 0 < n → n ≤ length words → word ≡ encoded s.arrives → length calls' ≡ R
          → Writing (inner k) R c (n - 1) s.before calls' (set words (n - 1) word)
      write_step word h h' word_is l =
          let at = turn_at (inner k) (place_of calls w) in
          let kind_is : s.arrives.kind ≡ at.kind = ap (λ (x : Turn). x.kind) strode.turns in
          let before_is : before_of calls' s.before ≡ at.before = ap (λ (x : Turn). x.before) strode.turns in
          let i : n ≡ n - 1 + 1 = omega arith in
          let on : Written (inner k) R c (n - 1 + 1) (Some (place_of calls w)) words =
          subst (λ (j : ℕ). Written (inner k) R c j (Some (place_of calls w)) words) i now.on in
          let same = same_word k.facts w.cell s.arrives at.kind kind_is strode.point strode.fact in
          record {
            room = l;
            height = strode.within;
            on = subst (λ (p : Option Place). Written (inner k) R c (n - 1) p (set words (n - 1) word)) (sym before_is)
                (write_on (inner k) (led k) R c (n - 1) w.cell (opens calls w.height) words on (omega arith) word (word_is ∙ same));
          }

-- where the passes begin and end, for the tactics
pub ruleset measuring = (measure_first, measure_over)

pub ruleset writing_words = (write_first, write_some, write_all)
