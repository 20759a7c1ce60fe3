-- One portion after the other.
use Rattle.std.proofs.Common.{◌≡◌, ℕ, zero, suc, ◌+◌, ◌-◌, ◌*◌, ◌<◌, ◌≤◌, Bool, eqb, ◌⊎◌, List, [], ◌∷◌, ◌++◌, length, IfOk, Some, None, Ok, Err, Option, Result, sym, refl, ap, ◌∙◌, inl, inr, append_assoc, arith}
use Rattle.paths.specs.Does.{Handed, Open, Answer, gives, refuses, counts_fit, work_no, answer_by, left_by, Works, worked}
use Rattle.paths.specs.Machine.{both}
use Rattle.records.specs.Faults.{number_of}
use Rattle.records.specs.declared.fault.Fault.{Fault}
use Rattle.std.proofs.lemmas.List.{append-nil}
use Rattle.std.proofs.lemmas.Bool.{cond-true, eq-eqb, cases_lt}
use Rattle.table.specs.Told as told
use Rattle.table.specs.Told.{Stops, CountsStay, tallied}
use Rattle.records.specs.declared.tallies.Tallies.{Tallies}
use Rattle.paths.specs.Tabled.{Tabled}
use Rattle.paths.specs.Usage.{Standing}
use Rattle.paths.specs.declared.worklist.End.{End}
use Rattle.progress.specs.Progress.{worked_on, tallies_line, while_waiting, lines, last, enough}
use Rattle.progress.specs.Told.{WorkedOff}

module _ (h : Handed) (k : ℕ) (end : End) where
  -- where nothing waits, nothing is told and nothing is done
  pub lines_none : (n : ℕ) (t : Tabled) → t.waiting ≡ [] → lines n h k end t ≡ []
  unfolding lines
  lines_none zero t e = refl
  lines_none (suc n) t e = ap (λ w. while_waiting {X = List ℕ} w [] (tallies_line (worked_on h k end t) ++ lines n h k end (worked_on h k end t))) e

  pub last_none : (n : ℕ) (t : Tabled) → t.waiting ≡ [] → last n h k end t ≡ t
  unfolding last
  last_none zero t e = refl
  last_none (suc n) t e = ap (λ w. while_waiting {X = Tabled} w t (last n h k end (worked_on h k end t))) e

  still_waiting : {X : Type 0} (w : List ℕ) (rest more : X) → 0 < length w → while_waiting w rest more ≡ more
  still_waiting [] rest more l = absurd (omega arith)
  still_waiting (c ∷ cs) rest more l = refl

  -- a portion
  pub lines_more : (n i : ℕ) (t u : Tabled) → i < n → 0 < length t.waiting → u ≡ worked_on h k end t → (out : List ℕ)
      → (out ++ tallies_line u) ++ lines (n - (i + 1)) h k end u ≡ out ++ lines (n - i) h k end t
  unfolding lines
  lines_more n i t u l w e out =
      let j : ℕ = n - (i + 1) in
      let q : n - i ≡ suc j = omega arith in
      append_assoc out (tallies_line u) (lines j h k end u)
      ∙ ap (λ (x : Tabled). out ++ (tallies_line x ++ lines j h k end x)) e
      ∙ ap (λ (ls : List ℕ). out ++ ls) (sym (still_waiting t.waiting [] (tallies_line (worked_on h k end t) ++ lines j h k end (worked_on h k end t)) w))
      ∙ ap (λ (a : ℕ). out ++ lines a h k end t) (sym q)

  pub last_more : (n i : ℕ) (t u : Tabled) → i < n → 0 < length t.waiting → u ≡ worked_on h k end t → last (n - (i + 1)) h k end u ≡ last (n - i) h k end t
  unfolding last
  last_more n i t u l w e =
      let j : ℕ = n - (i + 1) in
      let q : n - i ≡ suc j = omega arith in
      ap (last j h k end) e
      ∙ sym (still_waiting t.waiting t (last j h k end (worked_on h k end t)) w)
      ∙ ap (λ (a : ℕ). last a h k end t) (sym q)

  -- after some portions: what is told and what is left make the whole; each has settled a cell, or none waits
  pub record Underway (first t : Tabled) (out : List ℕ) : Type 0 where
    pub portions : ℕ
    pub told : out ++ lines (enough h - portions) h k end t ≡ lines (enough h) h k end first
    pub leaves : last (enough h - portions) h k end t ≡ last (enough h) h k end first
    pub moved : (portions ≤ t.settled) ⊎ (t.waiting ≡ [])
    pub counts : CountsStay first t
    pub row : (opened : Tabled) (accepted : List (ℕ × ℕ)) → Standing h opened accepted (Open first) → Standing h opened accepted (Open t)

  pub begun : (t : Tabled) (out : List ℕ) → out ≡ [] → Underway t t out
  begun t out e =
      let z : enough h - 0 ≡ enough h = omega arith in
      record {
        portions = 0;
        told = ap (λ (b : List ℕ). b ++ lines (enough h - 0) h k end t) e ∙ ap (λ (j : ℕ). lines j h k end t) z;
        leaves = ap (λ (j : ℕ). last j h k end t) z;
        moved = inl (omega arith);
        counts = record { points = refl; facts = refl };
        row = λ opened accepted st. st;
      }

  pub ended : (first t : Tabled) (out : List ℕ) → Underway first t out → t.waiting ≡ [] → WorkedOff h k end (enough h) first out t
  ended first t out w none =
      let n : ℕ = enough h - w.portions in
      record {
        told = sym (append-nil out) ∙ sym (ap (λ (b : List ℕ). out ++ b) (lines_none n t none)) ∙ w.told;
        leaves = sym (last_none n t none) ∙ w.leaves;
        done = none;
        row = w.row;
      }

  -- a portion leads on from where a row of calls led
  pub stands : (first : Tabled) (starts : List (ℕ × ℕ)) (t u : Tabled) (answer : Answer) → Works h k end t answer u
      → Standing h first starts (Open t) → Standing h first starts (Open u)
  stands first starts t u answer works st = record { calls = _; row = worked st.row (λ _ _. refl) works; starts_are = st.starts_are }

-- a table that has the program's and the problem's counts is worked on
pub fits : (h : Handed) (t : Tabled) → t.points ≡ h.points → t.facts ≡ h.facts → work_no h t ≡ None
fits h t p f =
    cond-true {A = Option ℕ} (counts_fit h t) None (Some 12)
    (ap (λ (b : Bool). both b (eqb h.facts t.facts)) (eq-eqb h.points t.points (sym p)) ∙ eq-eqb h.facts t.facts (sym f))

module _ (h : Handed) (k : ℕ) (end : End) (t u : Tabled) (none : work_no h t ≡ None) where
  pub works_on : (answer : Answer) → Works h k end t answer u → u ≡ worked_on h k end t
  works_on answer w = w.leaves ∙ ap (λ (o : Option ℕ). left_by o t (worked_on h k end t)) none

  -- a portion settles a cell, or none waits then
  pub moves_on : (r : Result ℕ Fault) → Works h k end t (told.number_given r) u → IfOk r (λ n. u.settled ≡ t.settled + n) → IfOk r (λ n. Stops k n u.waiting) → 0 < k
      → (t.settled ≤ u.settled) × ((t.settled + 1 ≤ u.settled) ⊎ (u.waiting ≡ []))
  moves_on (Ok n) w e s p = (
    omega arith,
    elim (cases_lt 0 n) [
      | inl m ↦ inl (omega arith)
      | inr z ↦ inr (s.none_left (omega arith))
    ],
  )
  moves_on (Err f) w e s p =
      let no : refuses (number_of f) ≡ gives (u.settled - t.settled) = w.answers ∙ ap (λ (o : Option ℕ). answer_by o (u.settled - t.settled)) none in
      let z : ◌≡◌ {A = ℕ} 0 1 = cc in
      absurd (omega arith)

-- how many cells may still be settled, and whether one waits
abbrev pub any_of : List ℕ → ℕ
any_of [] = 0
any_of (c ∷ cs) = 1

abbrev pub cells_of : Tabled → ℕ
cells_of t = t.points * t.facts * t.facts

abbrev pub left_over : Tabled → ℕ
left_over t = cells_of t - t.settled + any_of t.waiting

-- where the tallies tell that a cell waits
pub some_wait : (t : Tabled) (r : Tallies) → r ≡ tallied t → r.found ≡ r.settled + r.waiting → r.found ≤ cells_of t → 0 < r.waiting
    → (t.settled < cells_of t) × (0 < length t.waiting)
some_wait t r e sum bound some =
    let settled : r.settled ≡ t.settled = ap (λ (x : Tallies). x.settled) e in
    let waiting : r.waiting ≡ length t.waiting = ap (λ (x : Tallies). x.waiting) e in
    (omega arith, omega arith)

any_most : (w : List ℕ) → any_of w ≤ 1
any_most [] = omega arith
any_most (c ∷ cs) = omega arith

any_some : (w : List ℕ) → 0 < length w → any_of w ≡ 1
any_some [] l = absurd (omega arith)
any_some (c ∷ cs) l = refl

-- a portion leaves less
pub less_left : (t u : Tabled) → t.settled < cells_of t → 0 < length t.waiting → CountsStay t u → t.settled ≤ u.settled
    → (t.settled + 1 ≤ u.settled) ⊎ (u.waiting ≡ []) → left_over u < left_over t
less_left t u below waits same grows moved =
    let cells : cells_of u ≡ cells_of t = ap (λ (x : ℕ). x * u.facts * u.facts) same.points ∙ ap (λ (x : ℕ). t.points * x * x) same.facts in
    let some = any_some t.waiting waits in
    let most = any_most u.waiting in
    elim moved [
      | inl l ↦ omega arith
      | inr e ↦ (let z : any_of u.waiting ≡ 0 = ap any_of e in omega arith)
    ]

module _ (h : Handed) (k : ℕ) (end : End) (first t u : Tabled) (out : List ℕ) (w : Underway h k end first t out) where
  -- one portion more
  pub portion_more : (r : Result ℕ Fault) → work_no h t ≡ None → Works h k end t (told.number_given r) u → IfOk r (λ n. u.settled ≡ t.settled + n) → IfOk r (λ n. Stops k n u.waiting) → CountsStay t u
      → 0 < k → t.settled < h.points * h.facts * h.facts → 0 < length t.waiting → Underway h k end first u (out ++ tallies_line u)
  portion_more r none works count stops same some below waits =
      let i : ℕ = w.portions in
      let on : u ≡ worked_on h k end t = works_on h k end t u none (told.number_given r) works in
      let moved : i ≤ t.settled = elim w.moved [
        | inl l ↦ l
        | inr e ↦ (let z = ap length e in absurd (omega arith))
      ] in
      let within : i < enough h = omega arith in
      record {
        portions = i + 1;
        told = lines_more h k end (enough h) i t u within waits on out ∙ w.told;
        leaves = last_more h k end (enough h) i t u within waits on ∙ w.leaves;
        moved = elim (moves_on h k end t u none r works count stops some).1 [
          | inl l ↦ inl (omega arith)
          | inr e ↦ inr e
        ];
        counts = record { points = same.points ∙ w.counts.points; facts = same.facts ∙ w.counts.facts };
        row = λ opened accepted st. stands h k end opened accepted t u (told.number_given r) works (w.row opened accepted st);
      }
