-- How long the lines of a table's pairs are.
use Rattle.std.proofs.Common.{◌≡◌, ℕ, suc, ◌+◌, ◌*◌, ◌/◌, ◌%◌, ◌<◌, ◌≤◌, true, false, List, [], ◌∷◌, ◌++◌, length, sym, ap, ◌∙◌, subst, arith}
use Rattle.std.proofs.lemmas.List.{append-nil, length-append}
use Rattle.std.proofs.lemmas.List.Concat.{flat_map-append}
use Rattle.paths.specs.Page.{line_text, lines_text, foot_text, pairs_of, report_text}
use Rattle.paths.specs.Tabled.{Tabled}
use Rattle.std.specs.Option.{is_some}
use Rattle.table.specs.Told.{least}
use Rattle.report.specs.Pairs.{pairs_before}
use Rattle.report.proofs.Numbered.{none_here, some_here, before_all}

-- the pairs with a number below k, and the bytes of their lines
pub record Counted (t : Tabled) (k pairs bytes : ℕ) : Type 0 where
  pub listed : pairs ≡ length (pairs_before k t)
  pub written : bytes ≡ length (lines_text (pairs_before k t))
  pub few : bytes ≤ 54 * k

module _ (t : Tabled) (k f pairs bytes : ℕ) (o : ℕ) (same : f ≡ t.facts) (some : 0 < t.facts) (within : k < t.points * t.facts) (so : Counted t k pairs bytes) where
  -- the pair with the number k has no found cell
  pub counted_none : is_some (least t (k / f) (k % f)) ≡ false → Counted t (k + 1) pairs bytes
  counted_none e =
      let n : k + 1 ≡ suc k = omega arith in
      let b : pairs_before (k + 1) t ≡ pairs_before k t =
      ap (λ (m : ℕ). pairs_before m t) n ∙ none_here t k some within (subst (λ (x : ℕ). is_some (least t (k / x) (k % x)) ≡ false) same e) in
      record {
        listed = so.listed ∙ sym (ap length b);
        written = so.written ∙ sym (ap (λ (xs : List (ℕ × ℕ)). length (lines_text xs)) b);
        few = (let h = so.few in omega arith);
      }

  -- it has one, and so a line
  pub counted_one : is_some (least t (k / f) (k % f)) ≡ true → o ≡ length (line_text (k / f, k % f)) → o ≤ 54 → Counted t (k + 1) (pairs + 1) (bytes + o)
  counted_one e line few =
      let n : k + 1 ≡ suc k = omega arith in
      let b : pairs_before (k + 1) t ≡ pairs_before k t ++ ((k / f, k % f) ∷ []) =
      ap (λ (m : ℕ). pairs_before m t) n ∙ some_here t k some within (subst (λ (x : ℕ). is_some (least t (k / x) (k % x)) ≡ true) same e)
      ∙ ap (λ (x : ℕ). pairs_before k t ++ ((k / x, k % x) ∷ [])) (sym same) in
      let l : length (pairs_before (k + 1) t) ≡ length (pairs_before k t) + 1 = ap length b ∙ length-append (pairs_before k t) ((k / f, k % f) ∷ []) in
      let one : lines_text ((k / f, k % f) ∷ []) ≡ line_text (k / f, k % f) = append-nil (line_text (k / f, k % f)) in
      let w : length (lines_text (pairs_before (k + 1) t)) ≡ length (lines_text (pairs_before k t)) + length (line_text (k / f, k % f)) =
      ap (λ (xs : List (ℕ × ℕ)). length (lines_text xs)) b
      ∙ ap length (flat_map-append line_text (pairs_before k t) ((k / f, k % f) ∷ []))
      ∙ length-append (lines_text (pairs_before k t)) (lines_text ((k / f, k % f) ∷ []))
      ∙ ap (λ (xs : List ℕ). length (lines_text (pairs_before k t)) + length xs) one in
      record {
        listed = (let h = so.listed in omega arith);
        written = (let h = so.written in omega arith);
        few = (let h = so.few in omega arith);
      }

-- all pairs, and the foot
pub whole_length : (t : Tabled) (k pairs bytes foot : ℕ) → k ≡ t.points * t.facts → Counted t k pairs bytes → foot ≡ length (foot_text pairs t.settled)
    → bytes + foot ≡ length (report_text t)
whole_length t k pairs bytes foot all so last =
    let b : pairs_before k t ≡ pairs_of t = ap (λ (m : ℕ). pairs_before m t) all ∙ before_all t in
    let p : pairs ≡ length (pairs_of t) = so.listed ∙ ap length b in
    let w : bytes ≡ length (lines_text (pairs_of t)) = so.written ∙ ap (λ (xs : List (ℕ × ℕ)). length (lines_text xs)) b in
    let l : foot ≡ length (foot_text (length (pairs_of t)) t.settled) = last ∙ ap (λ (n : ℕ). length (foot_text n t.settled)) p in
    let z = length-append (lines_text (pairs_of t)) (foot_text (length (pairs_of t)) t.settled) in
    omega arith
