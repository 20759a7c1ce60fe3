use Rattle.std.proofs.Common.{◌≡◌, ℕ, ◌≤◌, cond, ltb, List, [], ◌∷◌, length, vec_items, sym, refl, ap, ◌∙◌, inl, inr, arith}
use Rattle.std.proofs.lemmas.Bool.{cases_lt, lt-ltb, le-ltb, ltb-false, cond-true, cond-false}
use Rattle.paths.specs.Does.{gives, refuses, Open, Closed, close_answer, close_after}
use Rattle.table.specs.State.{row, inner}
use Rattle.table.specs.declared.state.Core.{Core}
use Rattle.table.proofs.Rows.{row_first, row_none}
use Rattle.table.proofs.Sounds.{sound, found_size}
use Rattle.table.proofs.state.Core.any_waits.Goals as goal

-- the row is empty where its ends meet, and else it is not
asked : {X : Type 0} (F : List ℕ → X) (yes_is no-is : X) (t : Core) → ((x : ℕ) (xs : List ℕ) → F (x ∷ xs) ≡ yes_is) → F [] ≡ no-is
    → F (row (vec_items t.records) t.head t.tail) ≡ cond (ltb t.head t.tail) yes_is no-is
asked F a b t some none = elim (cases_lt t.head t.tail) [
  | inl l ↦
      (let low : t.tail ≤ length (vec_items t.records) = omega (arith, found_size (sound t), t.pushed, t.held) in
      ap F (row_first (vec_items t.records) t.head t.tail l low) ∙ some _ _ ∙ sym (cond-true (ltb t.head t.tail) a b (lt-ltb t.head t.tail l)))
  | inr l ↦
      (let e : t.head ≡ t.tail = omega (arith, t.ordered) in
      ap F (row_none (vec_items t.records) t.head t.tail e) ∙ none ∙ sym (cond-false (ltb t.head t.tail) a b (le-ltb t.head t.tail l)))
]

pub returns : goal.returns
returns c =
    let t = c.args.self.now in
    record {
      answer = asked close_answer (refuses 14) (gives 0) t (λ x xs. refl) refl;
      after = asked (λ w. close_after w (inner t)) (Open (inner t)) (Closed (inner t)) t (λ x xs. refl) refl;
      ends = λ e. (let l = ltb-false t.head t.tail e in omega (arith, t.ordered));
    }
