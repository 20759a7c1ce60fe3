-- The law of reading holds of what reading answers.
use Rattle.std.proofs.Common.{◌≡◌, ℕ, zero, suc, ◌+◌, ◌-◌, ◌<◌, ◌≤◌, Bool, true, false, cond, eqb, leb, List, length, is_some, Some, None, Option, sym, refl, ap, ◌∙◌, subst, ⊎_elim, arith}
use Rattle.std.specs.List.{slice_get}
use Rattle.std.specs.Option.{option_map}
use Rattle.std.proofs.lemmas.List.{length-map}
use Rattle.std.proofs.lemmas.Bool.{cases_Bool, cases_lt, cond-true, cond-false, eq-eqb, ne_eqb, not_from_true, not_from_false, and_from, and_parts, and_left, and_right, leb-true, leb-false}
use Rattle.listing.proofs.Lists.{nth_map}
use Rattle.listing.specs.Lawful.{points_in_range, stays, exists}
use Rattle.listing.specs.Procedures.{rets, procedure, exit, ends_in_ret}
use Rattle.listing.specs.Statements.{controlled, is_ret}
use Rattle.listing.specs.declared.control.Control.{Control}
use Rattle.listing.specs.declared.statement.Statement.{Statement}
use Rattle.draft.specs.Questions.{number_of}
use Rattle.draft.specs.Rules.{failing, unless, has_ret, unended, crowded, foreign, astray, missing, or_else}
use Rattle.draft.specs.declared.question.Question.{Question}
use Rattle.draft.specs.declared.question.Question.TheVariants.{Size, Form, Ranges, Length, End, Procedures, Cells, Jumps, Callees}
use Rattle.draft.specs.declared.question.Refusal.{Refusal}
use Rattle.draft.specs.declared.question.Breach.{Breach}
use Rattle.draft.proofs.Failing.{Least, passing, failing_least}
use Rattle.draft.proofs.Flows.{exit_here, exit_ret, exit_inside, ret_counted}
use Rattle.grammar.specs.declared.name.Name.{Name}
use Rattle.text.specs.Lines.{lines}
use Rattle.text.specs.Reading.{written, flow_of, renumbered, formed, or_true, owned_of, outsized, misformed, unranged, miscounted, on_line, or_next, refused}
use Rattle.text.specs.Law.{only_at, of_line, of_statement, few_before, holds, Yes, FirstNo}
use Rattle.text.proofs.Refusals.{passed}
use Rattle.text.proofs.Written.{written_length}

-- the question of a number
abbrev question_of : ℕ → Question
question_of n =
    cond (eqb n 1) Size (cond (eqb n 2) Form (cond (eqb n 3) Ranges (cond (eqb n 4) Length (cond (eqb n 5) End
    (cond (eqb n 6) Procedures (cond (eqb n 7) Cells (cond (eqb n 8) Jumps Callees)))))))

asked_of : (q : Question) → question_of (number_of q) ≡ q
asked_of Size = refl
asked_of Form = refl
asked_of Ranges = refl
asked_of Length = refl
asked_of End = refl
asked_of Procedures = refl
asked_of Cells = refl
asked_of Jumps = refl
asked_of Callees = refl

-- the numbers are 1 to 9
in_range : (q : Question) → (1 ≤ number_of q) × (number_of q < 10)
in_range Size = (omega arith, omega arith)
in_range Form = (omega arith, omega arith)
in_range Ranges = (omega arith, omega arith)
in_range Length = (omega arith, omega arith)
in_range End = (omega arith, omega arith)
in_range Procedures = (omega arith, omega arith)
in_range Cells = (omega arith, omega arith)
in_range Jumps = (omega arith, omega arith)
in_range Callees = (omega arith, omega arith)

none_below : (q : Question) → number_of q < 1 → ⊥
none_below q l = omega (arith, (in_range q).0)

all_below : (q : Question) → number_of q < 10
all_below q = (in_range q).1

-- the no of one question at a place: it fails there, and nowhere before
pub record NoAt (t : List ℕ) (q : Question) (j : ℕ) : Type 0 where
  pub fails : holds q t j ≡ false
  pub least : (i : ℕ) → i < j → holds q t i ≡ true

-- a test at one place
module _ (k : ℕ) (b : Bool) where
  only_yes : unless b k ≡ None → (j : ℕ) → only_at k b j ≡ true
  only_yes h j = elim (eqb j k) as (λ e. cond e b true ≡ true) [ true ↦ passed b k h | false ↦ refl ]

  only_parts : (c : Bool) (m : ℕ) → unless c k ≡ Some m → (c ≡ false) × (k ≡ m)
  only_parts true m h = let z : ◌≡◌ {A = ℕ} 0 1 = cc in absurd (omega arith)
  only_parts false m h = (refl, cc)

  only_fails : (m : ℕ) → unless b k ≡ Some m → only_at k b m ≡ false
  only_fails m h = let p = only_parts b m h in cond-true _ _ _ (eq-eqb m k (sym p.1)) ∙ p.0

  only_least : (m : ℕ) → unless b k ≡ Some m → (j : ℕ) → j < m → only_at k b j ≡ true
  only_least m h j l = let p = only_parts b m h in cond-false _ _ _ (ne_eqb j k (λ e. omega (arith, e, p.1)))

-- a test of each statement
module _ {A : Type 0} (test : ℕ → A → Bool) (xs : List A) where
  or_passes : (n : ℕ) (o : Option A) → slice_get xs n ≡ o → ((x : A) → slice_get xs n ≡ Some x → test n x ≡ true) → or_true (test n) (slice_get xs n) ≡ true
  or_passes n None e h = ap (or_true (test n)) e
  or_passes n (Some x) e h = ap (or_true (test n)) e ∙ h x e

  of_yes : ((n : ℕ) (x : A) → slice_get xs n ≡ Some x → test n x ≡ true) → (j : ℕ) → of_statement test xs j ≡ true
  of_yes h zero = refl
  of_yes h (suc zero) = refl
  of_yes h (suc (suc n)) = or_passes n (slice_get xs n) refl (h n)

  of_fails : (n : ℕ) (x : A) → slice_get xs n ≡ Some x → test n x ≡ false → of_statement test xs (n + 2) ≡ false
  of_fails n x e f = let z : n + 2 ≡ suc (suc n) = omega arith in ap (of_statement test xs) z ∙ (ap (or_true (test n)) e ∙ f)

  of_least : (m : ℕ) → ((n : ℕ) (x : A) → n < m → slice_get xs n ≡ Some x → test n x ≡ true) → (j : ℕ) → j < m + 2 → of_statement test xs j ≡ true
  of_least m h zero l = refl
  of_least m h (suc zero) l = refl
  of_least m h (suc (suc n)) l = or_passes n (slice_get xs n) refl (λ x e. h n x (omega arith) e)

  failing_yes : failing test 0 xs ≡ None → (j : ℕ) → of_statement test xs j ≡ true
  failing_yes h = of_yes (λ n x e. let z : 0 + n ≡ n = omega arith in sym (ap (λ k. test k x) z) ∙ passing test xs 0 h n x e)

  failing_fails : (m : ℕ) → failing test 0 xs ≡ Some m → of_statement test xs (m + 2) ≡ false
  failing_fails m h =
      let r = failing_least test xs 0 m h in
      let i : m ≡ r.index = omega (arith, r.place) in
      of_fails m r.here (ap (slice_get xs) i ∙ r.stands) r.fails

  failing_before : (m : ℕ) → failing test 0 xs ≡ Some m → (j : ℕ) → j < m + 2 → of_statement test xs j ≡ true
  failing_before m h =
      let r = failing_least test xs 0 m h in
      of_least m (λ n x l e. let z : 0 + n ≡ n = omega arith in sym (ap (λ k. test k x) z) ∙ r.before n x (omega (arith, r.place)) e)

module _ (t : List ℕ) where
  form_yes : misformed t ≡ None → Yes t Form
  unfolding misformed
  form_yes h zero = refl
  form_yes h (suc j) = go (slice_get (lines t) j) refl
    where
      go : (o : Option (List ℕ)) → slice_get (lines t) j ≡ o → or_true (formed (suc j)) (slice_get (lines t) j) ≡ true
      go None e = ap (or_true (formed (suc j))) e
      go (Some l) e = let z : suc j ≡ 1 + j = omega arith in ap (or_true (formed (suc j))) e ∙ (ap (λ k. formed k l) z ∙ passing formed (lines t) 1 h j l e)

  form_no : (m : ℕ) → misformed t ≡ Some m → NoAt t Form m
  unfolding misformed
  form_no m h =
      let r = failing_least formed (lines t) 1 m h in
      let i : m ≡ suc r.index = omega (arith, r.place) in
      record {
        fails = ap (of_line formed (lines t)) i ∙ (ap (or_true (formed (suc r.index))) r.stands ∙ (ap (λ k. formed k r.here) (sym i) ∙ r.fails));
        least = λ j l. before r j (omega (arith, r.place));
      }
    where
      before : (r : Least formed (lines t) 1 m) (j : ℕ) → j < suc r.index → of_line formed (lines t) j ≡ true
      before r zero l = refl
      before r (suc j) l = go (slice_get (lines t) j) refl
        where
          go : (o : Option (List ℕ)) → slice_get (lines t) j ≡ o → or_true (formed (suc j)) (slice_get (lines t) j) ≡ true
          go None e = ap (or_true (formed (suc j))) e
          go (Some x) e = let z : suc j ≡ 1 + j = omega arith in ap (or_true (formed (suc j))) e ∙ (ap (λ k. formed k x) z ∙ r.before j x (omega arith) e)

  -- the last line
  end_place : misformed t ≡ None → miscounted t ≡ None → length (flow_of t) - 1 + 2 ≡ length (lines t)
  unfolding miscounted
  end_place w s =
      let some : 1 ≤ length (written t) = leb-true 1 (length (written t)) (and_parts _ _ (passed (points_in_range (length (written t))) 0 s)).0 in
      omega (arith, length-map (written t) controlled, written_length t w)

  end_yes : unended (flow_of t) ≡ None → Yes t End
  unfolding unended
  end_yes h j = elim (eqb j (length (lines t))) as (λ e. cond e (ends_in_ret (flow_of t)) true ≡ true) [ true ↦ passed (ends_in_ret (flow_of t)) (length (flow_of t) - 1) h | false ↦ refl ]

  end_no : misformed t ≡ None → miscounted t ≡ None → (m : ℕ) → unended (flow_of t) ≡ Some m → NoAt t End (m + 2)
  unfolding unended
  end_no w s m h =
      let p = only_parts (length (flow_of t) - 1) (ends_in_ret (flow_of t)) (ends_in_ret (flow_of t)) m h in
      let k : m + 2 ≡ length (lines t) = omega (arith, p.1, end_place w s) in
      record {
        fails = cond-true _ _ _ (eq-eqb (m + 2) (length (lines t)) k) ∙ p.0;
        least = λ j l. cond-false _ _ _ (ne_eqb j (length (lines t)) (λ e. omega arith));
      }

  -- the 61st `ret`
  few_passes : (n : ℕ) (c : Control) → slice_get (flow_of t) n ≡ Some c → (is_ret c ≡ true → procedure (flow_of t) n ≡ 60 → ⊥) → few_before (flow_of t) n c ≡ true
  few_passes n c e h =
      not_from_false _
      (⊎_elim
      (λ r. and_right (is_ret c) _ (ne_eqb (procedure (flow_of t) n) 60 (h r)))
      (λ f. and_left (is_ret c) _ f)
      (cases_Bool (is_ret c)))

  procedures_yes : crowded (flow_of t) ≡ None → Yes t Procedures
  unfolding crowded
  procedures_yes h =
      of_yes (few_before (flow_of t)) (flow_of t)
      (λ n c e. few_passes n c e
      (λ r p. let few : rets (flow_of t) ≤ 60 = leb-true (rets (flow_of t)) 60 (passed (leb (rets (flow_of t)) 60) (exit (flow_of t) 60) h) in
      omega (arith, ret_counted (flow_of t) n (ap has_ret e ∙ r), p)))

  some_ret : (o : Option Control) → has_ret o ≡ true → (c : Control) × (o ≡ Some c) × (is_ret c ≡ true)
  some_ret None h = let z : ◌≡◌ {A = ℕ} 0 1 = cc in absurd (omega arith)
  some_ret (Some c) h = (c, refl, h)

  procedures_no : (m : ℕ) → crowded (flow_of t) ≡ Some m → NoAt t Procedures (m + 2)
  unfolding crowded
  procedures_no m h =
      let cs = flow_of t in
      let p = only_parts (exit cs 60) (leb (rets cs) 60) (leb (rets cs) 60) m h in
      let many : 60 < rets (flow_of t) = leb-false (rets cs) 60 p.0 in
      let there : exit (flow_of t) 60 ≡ m = p.1 in
      let c = some_ret (slice_get cs m) (ap (λ n. has_ret (slice_get cs n)) (sym there) ∙ exit_ret cs 60 many) in
      let home : procedure (flow_of t) m ≡ 60 = ap (procedure cs) (sym there) ∙ exit_inside cs 60 many in
      record {
        fails = of_fails (few_before cs) cs m c.0 c.1 (not_from_true _ (and_from _ _ c.2 (eq-eqb (procedure cs m) 60 home)));
        least = of_least (few_before cs) cs m
            (λ n d l e. few_passes n d e (λ r q. omega (arith, l, there, sym (ap (exit cs) q) ∙ exit_here cs n (ap has_ret e ∙ r))));
      }

  -- foreign cells: of the statements as they are written
  owned_at : (n : ℕ) (s : Statement Name) → slice_get (written t) n ≡ Some s → owned_of t n ≡ is_some (renumbered t s)
  owned_at n s e = ap (or_true (λ x. is_some (renumbered t x))) e

  cells_yes : foreign (flow_of t) (owned_of t) ≡ None → Yes t Cells
  unfolding foreign
  cells_yes h =
      of_yes (λ n s. is_some (renumbered t s)) (written t)
      (λ n s e.
      let z : 0 + n ≡ n = omega arith in
      sym (owned_at n s e) ∙ (sym (ap (owned_of t) z) ∙ passing (λ k c. owned_of t k) (flow_of t) 0 h n (controlled s) (nth_map controlled (written t) n ∙ ap (option_map controlled) e)))

  written_some : (n : ℕ) (c : Control) (o : Option (Statement Name)) → slice_get (written t) n ≡ o → option_map controlled o ≡ Some c → (s : Statement Name) × (slice_get (written t) n ≡ Some s)
  written_some n c None e h = let z : ◌≡◌ {A = ℕ} 0 1 = cc in absurd (omega arith)
  written_some n c (Some s) e h = (s, e)

  cells_no : (m : ℕ) → foreign (flow_of t) (owned_of t) ≡ Some m → NoAt t Cells (m + 2)
  unfolding foreign
  cells_no m h =
      let r = failing_least (λ k c. owned_of t k) (flow_of t) 0 m h in
      let i : m ≡ r.index = omega (arith, r.place) in
      let w = written_some m r.here (slice_get (written t) m) refl (sym (nth_map controlled (written t) m) ∙ (ap (slice_get (flow_of t)) i ∙ r.stands)) in
      record {
        fails = of_fails (λ n s. is_some (renumbered t s)) (written t) m w.0 w.1 (sym (owned_at m w.0 w.1) ∙ r.fails);
        least = of_least (λ n s. is_some (renumbered t s)) (written t) m
            (λ n s l e.
            let z : 0 + n ≡ n = omega arith in
            sym (owned_at n s e)
            ∙ (sym (ap (owned_of t) z) ∙ r.before n (controlled s) (omega (arith, r.place)) (nth_map controlled (written t) n ∙ ap (option_map controlled) e)));
      }

  -- every question before number k is answered yes
  abbrev Before : ℕ → Type 0
  Before k = (q : Question) → number_of q < k → Yes t q

  -- what the law says of a refusal, or of none
  abbrev pub Outcome : Option Refusal → Type 0
  Outcome None = (q : Question) → Yes t q
  Outcome (Some r) = FirstNo t r

  one_more : (q : Question) → Before (number_of q) → Yes t q → Before (number_of q + 1)
  one_more q b y p l =
      ⊎_elim
      (λ less. b p less)
      (λ same. let e : number_of p ≡ number_of q = omega arith in subst (λ (x : Question). Yes t x) (sym (asked_of q) ∙ (ap question_of (sym e) ∙ asked_of p)) y)
      (cases_lt (number_of p) (number_of q))

  refusal : (q : Question) (j : ℕ) → Before (number_of q) → NoAt t q j → FirstNo t (record { question = q; place = j })
  refusal q j b n = record { fails = n.fails; least = n.least; earlier = b }

  -- one question about the text, and what comes after it
  next_law : (q : Question) (o : Option ℕ) (later : Option Refusal) → Before (number_of q) → (o ≡ None → Yes t q) → ((j : ℕ) → o ≡ Some j → NoAt t q j)
      → (o ≡ None → Before (number_of q + 1) → Outcome later) → Outcome (or_next q o later)
  next_law q None later b y n go = go refl (one_more q b (y refl))
  next_law q (Some j) later b y n go = refusal q j b (n j refl)

  -- one question about statements, and what comes after it
  else_law : (q : Question) (o : Option ℕ) (later : Option Breach) → Before (number_of q) → (o ≡ None → Yes t q) → ((m : ℕ) → o ≡ Some m → NoAt t q (m + 2))
      → (Before (number_of q + 1) → Outcome (option_map on_line later)) → Outcome (option_map on_line (or_else q o later))
  else_law q None later b y n go = go (one_more q b (y refl))
  else_law q (Some m) later b y n go = refusal q (m + 2) b (n m refl)

  by_failing : (q : Question) (test : ℕ → Control → Bool) → ((j : ℕ) → holds q t j ≡ of_statement test (flow_of t) j) → (m : ℕ) → failing test 0 (flow_of t) ≡ Some m → NoAt t q (m + 2)
  by_failing q test is m h =
      record { fails = is (m + 2) ∙ failing_fails test (flow_of t) m h; least = λ j l. is j ∙ failing_before test (flow_of t) m h j l }

  outcome : Outcome (refused t)
  unfolding outsized unranged miscounted astray missing
  outcome =
      next_law Size (outsized t) _ (λ q l. absurd (none_below q l)) (only_yes 0 _) (λ j h. record { fails = only_fails 0 _ j h; least = only_least 0 _ j h })
      (λ a b1. next_law Form (misformed t) _ b1 form_yes form_no
      (λ w b2. next_law Ranges (unranged t) _ b2 (only_yes 1 _) (λ j h. record { fails = only_fails 1 _ j h; least = only_least 1 _ j h })
      (λ r b3. next_law Length (miscounted t) _ b3 (only_yes 0 _) (λ j h. record { fails = only_fails 0 _ j h; least = only_least 0 _ j h })
      (λ s b4. else_law End (unended (flow_of t)) _ b4 end_yes (end_no w s)
      (λ b5. else_law Procedures (crowded (flow_of t)) _ b5 procedures_yes procedures_no
      (λ b6. else_law Cells (foreign (flow_of t) (owned_of t)) _ b6 cells_yes cells_no
      (λ b7. else_law Jumps (astray (flow_of t)) _ b7 (failing_yes (stays (flow_of t)) (flow_of t)) (by_failing Jumps (stays (flow_of t)) (λ j. refl))
      (λ b8. else_law Callees (missing (flow_of t)) _ b8 (failing_yes (exists (rets (flow_of t))) (flow_of t)) (by_failing Callees (exists (rets (flow_of t))) (λ j. refl))
      (λ b9 q. b9 q (all_below q))))))))))

-- what was found of the questions is what their law says
pub as_found : (t : List ℕ) (o : Option Refusal) → refused t ≡ o → Outcome t o
as_found t o e = subst (Outcome t) e (outcome t)
