-- What a program tells of its procedures.
use Rattle.std.proofs.Common.{◌≡◌, ℕ, zero, suc, ◌+◌, ◌<◌, Bool, true, false, cond, List, [], ◌∷◌, ◌++◌, length, Some, None, append_assoc, add-one, sym, refl, ap, ◌∙◌, arith}
use Rattle.std.specs.List.{slice_get, filter, range_with_len}
use Rattle.std.proofs.lemmas.List.{length-map}
use Rattle.std.proofs.lemmas.Bool.Decides.{nat_tests}
use Rattle.listing.specs.Meaning.{Meaning, below, point, flow, size, procs, exit_of}
use Rattle.listing.specs.Procedures.{bump, exit}
use Rattle.listing.specs.Statements.{controlled}
use Rattle.listing.specs.declared.numbers.Point.{Point}
use Rattle.listing.specs.declared.numbers.Proc.{Proc}
use Rattle.draft.proofs.Flows.{exit_within}
use Rattle.overview.specs.Outlined.{calls_at, calls_from, section, section_text, sections}
use Rattle.overview.specs.declared.section.Section.{Section}

below_is : {A : Type 0} (k n : ℕ) (x y : A) → Some y ≡ below k n x → (k < n) × (y ≡ x)
below_is k n x y e = grind (arith, nat_tests)

-- the exit of a procedure is a point of the program
pub exit_within_size : (m : Meaning) (p : Proc) (n : Point) → Some n ≡ exit_of m p → n.0 < size m
exit_within_size m p n e =
    let b = below_is p.0 (procs m) (point (exit (flow m) p.0)) n e in
    omega (arith, exit_within (flow m) p.0 b.0, ap (λ (k : Point). k.0) b.1, length-map m.statements controlled)

-- the calls, counted among the points one by one
pub calls_counted : (m : Meaning) (n k : ℕ) → length (filter (λ i. calls_at (slice_get m.statements i)) (range_with_len n k)) ≡ calls_from m n k
calls_counted m n zero = refl
calls_counted m n (suc k) = counted (calls_at (slice_get m.statements n)) (filter (λ i. calls_at (slice_get m.statements i)) (range_with_len (n + 1) k)) ∙ ap (bump (calls_at (slice_get m.statements n))) (calls_counted m (n + 1) k)
  where
    counted : (b : Bool) (xs : List ℕ) → length (cond b (n ∷ xs) xs) ≡ bump b (length xs)
    counted true xs = refl
    counted false xs = refl

-- one line more
pub line_more : (m : Meaning) (p : ℕ) (s : Section) (front was now : List ℕ) → Some s ≡ below p (procs m) (section m p)
    → now ≡ was ++ (section_text s ++ (10 ∷ [])) → was ≡ front ++ sections m p → now ≡ front ++ sections m (p + 1)
line_more m p s front was now some line held =
    line
    ∙ ap (λ x. was ++ (section_text x ++ (10 ∷ []))) (below_is p (procs m) (section m p) s some).1
    ∙ ap (λ b. b ++ (section_text (section m p) ++ (10 ∷ []))) held
    ∙ append_assoc front (sections m p) (section_text (section m p) ++ (10 ∷ []))
    ∙ ap (λ k. front ++ sections m k) (sym (add-one p))

-- each procedure has a line
pub some_line : (m : Meaning) (p : ℕ) → p < procs m → None ≡ below p (procs m) (section m p) → ⊥
some_line m p l e = grind (arith, nat_tests)
