-- The tables of calls, step by step from the last point to the first.
use Rattle.std.proofs.Common.{◌≡◌, ℕ, ◌+◌, ◌<◌, ◌≤◌, cond, ◌≢◌, List, length, set, replicate, Some, None, Option, sym, refl, ap, ◌∙◌, subst, ⊎_elim, arith, Bool, true, false, nat_lt, [], ◌∷◌}
use Rattle.std.specs.List.{slice_get}
use Rattle.std.specs.Option.{option_map}
use Rattle.std.proofs.lemmas.List.{at_drop_all, get_or-set_same, get_or-set_other}
use Rattle.std.proofs.lemmas.Option.{slice_get_past}
use Rattle.std.proofs.lemmas.Bool.{cases_eq, cond-true, cond-false, eq-eqb, ne_eqb, lt-ltb, ltb-true}
use Rattle.listing.proofs.Lists.{drop_nth, nth_none}
use Rattle.listing.specs.Callers.{calls, first_call, call_from, call_after}
use Rattle.listing.specs.Lawful.{exists}
use Rattle.listing.specs.Meaning.{point}
use Rattle.listing.specs.declared.control.Control.{Control}
use Rattle.listing.specs.declared.control.Control.TheVariants.{Next, Goto, Test, Call, Ret}
use Rattle.listing.specs.declared.numbers.Point.{Point}
use Rattle.listing.specs.declared.numbers.Proc.{Proc}
use Rattle.draft.specs.Index.{told, called, bounded_call, bounded_calls}
use Rattle.draft.specs.Rules.{failing}
use Rattle.draft.proofs.Failing.{none_parts}
use Rattle.draft.proofs.Told.{told_empty}

is_call : (o : Option Control) (q : Proc) → called o ≡ Some q → o ≡ Some (Call q)
is_call None q h = let z : ◌≡◌ {A = ℕ} 0 1 = cc in absurd (omega arith)
is_call (Some Next) q h = let z : ◌≡◌ {A = ℕ} 0 1 = cc in absurd (omega arith)
is_call (Some (Goto k)) q h = let z : ◌≡◌ {A = ℕ} 0 1 = cc in absurd (omega arith)
is_call (Some (Test k)) q h = let z : ◌≡◌ {A = ℕ} 0 1 = cc in absurd (omega arith)
is_call (Some (Call p)) q h = let same : p ≡ q = cc in ap (λ r. Some (Call r)) same
is_call (Some Ret) q h = let z : ◌≡◌ {A = ℕ} 0 1 = cc in absurd (omega arith)

-- a call that counts is of one of 60 procedures
few_by : (p q : Proc) (b : Bool) → nat_lt p.0 60 ≡ b → called (Some (cond b (Call p) Next)) ≡ Some q → q.0 < 60
few_by p q true e h = let same : p ≡ q = cc in omega (arith, ltb-true p.0 60 e, ap (λ (r : Proc). r.0) same)
few_by p q false e h = let z : ◌≡◌ {A = ℕ} 0 1 = cc in absurd (omega arith)

pub few_called : (o : Option Control) (q : Proc) → called (option_map bounded_call o) ≡ Some q → q.0 < 60
few_called None q h = let z : ◌≡◌ {A = ℕ} 0 1 = cc in absurd (omega arith)
few_called (Some Next) q h = let z : ◌≡◌ {A = ℕ} 0 1 = cc in absurd (omega arith)
few_called (Some (Goto k)) q h = let z : ◌≡◌ {A = ℕ} 0 1 = cc in absurd (omega arith)
few_called (Some (Test k)) q h = let z : ◌≡◌ {A = ℕ} 0 1 = cc in absurd (omega arith)
few_called (Some (Call p)) q h = few_by p q (nat_lt p.0 60) refl h
few_called (Some Ret) q h = let z : ◌≡◌ {A = ℕ} 0 1 = cc in absurd (omega arith)

bounded_one : (count k : ℕ) (c : Control) → count ≤ 60 → exists count k c ≡ true → bounded_call c ≡ c
bounded_one count k Next few e = refl
bounded_one count k (Goto j) few e = refl
bounded_one count k (Test j) few e = refl
bounded_one count k (Call p) few e = cond-true _ _ _ (lt-ltb p.0 60 (omega (arith, ltb-true p.0 count e)))
bounded_one count k Ret few e = refl

-- where every callee exists, every call counts
pub bounded_same : (count k : ℕ) (cs : List Control) → count ≤ 60 → failing (exists count) k cs ≡ None → bounded_calls cs ≡ cs
bounded_same count k [] few h = refl
bounded_same count k (c ∷ cs) few h =
    let p = none_parts (exists count k c) (failing (exists count) (k + 1) cs) k h in
    ap (λ d. d ∷ bounded_calls cs) (bounded_one count k c few p.0) ∙ ap (λ ds. c ∷ ds) (bounded_same count (k + 1) cs few p.1)

-- there is no call from the end on
from_end : (cs : List Control) (n p : ℕ) → length cs ≤ n → call_from cs p n ≡ None
from_end cs n p h = at_drop_all (first_call p n) cs n h

after_end : (cs : List Control) (n : ℕ) → length cs ≤ n → call_after cs n (slice_get cs n) ≡ None
after_end cs n h = ap (call_after cs n) (slice_get_past cs n h)

module _ (cs : List Control) (n : ℕ) where
  step : (p : ℕ) (c : Control) → slice_get cs n ≡ Some c → call_from cs p n ≡ cond (calls p c) (Some (point n)) (call_from cs p (n + 1))
  step p c e = ap (first_call p n) (drop_nth cs n c e)

  -- at a call of q
  module _ (q : Proc) (here : called (slice_get cs n) ≡ Some q) where
    from_same : call_from cs q.0 n ≡ Some (point n)
    from_same = step q.0 (Call q) (is_call (slice_get cs n) q here) ∙ cond-true _ _ _ (eq-eqb q.0 q.0 refl)

    from_other : (p : ℕ) → p ≢ q.0 → call_from cs p n ≡ call_from cs p (n + 1)
    from_other p ne = step p (Call q) (is_call (slice_get cs n) q here) ∙ cond-false _ _ _ (ne_eqb q.0 p (λ e. ne (sym e)))

    after_call : call_after cs n (slice_get cs n) ≡ call_from cs q.0 (n + 1)
    after_call = ap (call_after cs n) (is_call (slice_get cs n) q here)

  -- where nothing is called
  from_quiet : (p : ℕ) (o : Option Control) → slice_get cs n ≡ o → called o ≡ None → call_from cs p n ≡ call_from cs p (n + 1)
  from_quiet p None e h = let past = nth_none cs n e in from_end cs n p past ∙ sym (from_end cs (n + 1) p (omega arith))
  from_quiet p (Some Next) e h = step p Next e
  from_quiet p (Some (Goto k)) e h = step p (Goto k) e
  from_quiet p (Some (Test k)) e h = step p (Test k) e
  from_quiet p (Some (Call q)) e h = let z : ◌≡◌ {A = ℕ} 0 1 = cc in absurd (omega arith)
  from_quiet p (Some Ret) e h = step p Ret e

  after_quiet : (o : Option Control) → called o ≡ None → call_after cs n o ≡ None
  after_quiet None h = refl
  after_quiet (Some Next) h = refl
  after_quiet (Some (Goto k)) h = refl
  after_quiet (Some (Test k)) h = refl
  after_quiet (Some (Call q)) h = let z : ◌≡◌ {A = ℕ} 0 1 = cc in absurd (omega arith)
  after_quiet (Some Ret) h = refl

-- the tables tell the calls from point n on
pub record Threaded (cs : List Control) (first next : List (Option Point)) (n : ℕ) : Type 0 where
  pub firsts : (p : ℕ) → told first p ≡ call_from cs p n
  pub nexts : (k : ℕ) → n ≤ k → told next k ≡ call_after cs k (slice_get cs k)
  pub blank : (k : ℕ) → k < n → told next k ≡ None

-- at the end they are empty
pub threaded_none : (cs : List Control) (n : ℕ) → length cs ≤ n → Threaded cs (replicate 60 None) (replicate 1000 None) n
threaded_none cs n h =
    record {
      firsts = λ p. told_empty 60 p ∙ sym (from_end cs n p h);
      nexts = λ k l. told_empty 1000 k ∙ sym (after_end cs k (omega arith));
      blank = λ k l. told_empty 1000 k;
    }

module _ (cs : List Control) (first next : List (Option Point)) (n : ℕ) (later : Threaded cs first next (n + 1)) where
  -- a call is the first of its procedure, and what was the first comes next
  pub threaded_call : (q : Proc) → called (slice_get cs n) ≡ Some q → q.0 < length first → n < length next → Threaded cs (set first q.0 (Some (point n))) (set next n (told first q.0)) n
  threaded_call q here room within = record { firsts = firsts_now; nexts = nexts_now; blank = blank_now }
    where
      firsts_now : (p : ℕ) → told (set first q.0 (Some (point n))) p ≡ call_from cs p n
      firsts_now p =
          ⊎_elim
          (λ e. subst (λ (r : ℕ). told (set first q.0 (Some (point n))) r ≡ call_from cs r n) (sym e) (get_or-set_same first q.0 (Some (point n)) None room ∙ sym (from_same cs n q here)))
          (λ ne. get_or-set_other first q.0 p (Some (point n)) None ne ∙ (later.firsts p ∙ sym (from_other cs n q here p ne)))
          (cases_eq p q.0)

      nexts_now : (k : ℕ) → n ≤ k → told (set next n (told first q.0)) k ≡ call_after cs k (slice_get cs k)
      nexts_now k l =
          ⊎_elim
          (λ e. subst (λ (r : ℕ). told (set next n (told first q.0)) r ≡ call_after cs r (slice_get cs r)) (sym e) (get_or-set_same next n (told first q.0) None within ∙ (later.firsts q.0 ∙ sym (after_call cs n q here))))
          (λ ne. get_or-set_other next n k (told first q.0) None ne ∙ later.nexts k (omega (arith, ne)))
          (cases_eq k n)

      blank_now : (k : ℕ) → k < n → told (set next n (told first q.0)) k ≡ None
      blank_now k l = let ne : k ≢ n = omega arith in get_or-set_other next n k (told first q.0) None ne ∙ later.blank k (omega arith)

  -- a point that has no call changes nothing
  pub threaded_quiet : called (slice_get cs n) ≡ None → Threaded cs first next n
  threaded_quiet quiet =
      record {
        firsts = λ p. later.firsts p ∙ sym (from_quiet cs n p (slice_get cs n) refl quiet);
        nexts = nexts_now;
        blank = λ k l. later.blank k (omega arith);
      }
    where
      nexts_now : (k : ℕ) → n ≤ k → told next k ≡ call_after cs k (slice_get cs k)
      nexts_now k l =
          ⊎_elim
          (λ e. subst (λ (r : ℕ). told next r ≡ call_after cs r (slice_get cs r)) (sym e) (later.blank n (omega arith) ∙ sym (after_quiet cs n (slice_get cs n) quiet)))
          (λ ne. later.nexts k (omega (arith, ne)))
          (cases_eq k n)
