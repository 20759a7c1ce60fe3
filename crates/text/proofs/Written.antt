-- What the lines of a text whose lines have their form say.
use Rattle.std.proofs.Common.{◌≡◌, ℕ, zero, suc, ◌+◌, ◌-◌, true, false, List, [], ◌∷◌, length, drop, is_some, Some, None, Option, sym, refl, ap, ◌∙◌, add-one, arith}
use Rattle.std.specs.List.{slice_get}
use Rattle.std.proofs.lemmas.List.{length-drop}
use Rattle.std.proofs.lemmas.Bool.{cond-false, ne_eqb}
use Rattle.listing.proofs.Lists.{nth_drop_one}
use Rattle.draft.proofs.Failing.{passing}
use Rattle.grammar.specs.Grammar.{then, statement}
use Rattle.text.specs.Lines.{lines}
use Rattle.text.specs.Reading.{kept, collect, formed, misformed, written}

module _ {A B : Type 0} (f : A → Option B) where
  kept_nth : (o : Option B) (ys : List B) (xs : List A) (x : A) (n : ℕ) → o ≡ f x → is_some o ≡ true → ((m : ℕ) → slice_get ys m ≡ then (slice_get xs m) f) → slice_get (kept o ys) n ≡ then (slice_get (x ∷ xs) n) f
  kept_nth None ys xs x n e s ih = let z : ◌≡◌ {A = ℕ} 0 1 = cc in absurd (omega arith)
  kept_nth (Some y) ys xs x zero e s ih = e
  kept_nth (Some y) ys xs x (suc n) e s ih = ih n

  -- where f gives something of every element, what it collects stands where the elements stand
  pub collect_nth : (xs : List A) → ((k : ℕ) (x : A) → slice_get xs k ≡ Some x → is_some (f x) ≡ true) → (n : ℕ) → slice_get (collect f xs) n ≡ then (slice_get xs n) f
  collect_nth [] h n = refl
  collect_nth (x ∷ xs) h n = kept_nth (f x) (collect f xs) xs x n refl (h 0 x refl) (collect_nth xs (λ k. h (suc k)))

  kept_length : (o : Option B) (ys : List B) → is_some o ≡ true → length (kept o ys) ≡ suc (length ys)
  kept_length None ys s = let z : ◌≡◌ {A = ℕ} 0 1 = cc in absurd (omega arith)
  kept_length (Some y) ys s = refl

  pub collect_length : (xs : List A) → ((k : ℕ) (x : A) → slice_get xs k ≡ Some x → is_some (f x) ≡ true) → length (collect f xs) ≡ length xs
  collect_length [] h = refl
  collect_length (x ∷ xs) h = kept_length (f x) (collect f xs) (h 0 x refl) ∙ ap suc (collect_length xs (λ k. h (suc k)))

module _ (t : List ℕ) (whole : misformed t ≡ None) where
  -- each line after the first says a statement
  says : (k : ℕ) (l : List ℕ) → slice_get (drop 1 (lines t)) k ≡ Some l → is_some (statement l) ≡ true
  unfolding misformed
  says k l e =
      let yes = passing formed (lines t) 1 whole (suc k) l (sym (nth_drop_one (lines t) k) ∙ e) in
      sym (cond-false _ _ _ (ne_eqb (1 + suc k) 1 (λ z. omega arith))) ∙ yes

  -- the statement at point n is that of the line after n + 1 others
  pub written_nth : (n : ℕ) → slice_get (written t) n ≡ then (slice_get (lines t) (n + 1)) statement
  unfolding written
  written_nth n = collect_nth statement (drop 1 (lines t)) says n ∙ ap (λ o. then o statement) (nth_drop_one (lines t) n ∙ ap (slice_get (lines t)) (sym (add-one n)))

  pub written_length : length (written t) ≡ length (lines t) - 1
  unfolding written
  written_length = collect_length statement (drop 1 (lines t)) says ∙ length-drop 1 (lines t)

pub none_from : {A : Type 0} (o : Option A) → is_some o ≡ false → o ≡ None
none_from None e = refl
none_from (Some x) e = let z : ◌≡◌ {A = ℕ} 0 1 = cc in absurd (omega arith)
