-- What a line's answer tells of the pairs that are left.
use Rattle.std.proofs.Common.{◌≡◌, ℕ, ◌+◌, ◌-◌, ◌<◌, ◌≤◌, Bool, true, false, List, [], ◌∷◌, ◌++◌, length, take, drop, refl, sym, ap, ◌∙◌, append_assoc, arith, leb}
use Rattle.std.proofs.lemmas.Bool.{leb-true, leb-false}
use Rattle.std.proofs.lemmas.List.{length-append, length-take-le, length-drop, drop_at, drop-drop}
use Rattle.paths.specs.Does.{gives, refuses, no, writes, fitting, line_turn_by, line_answer}
use Rattle.paths.specs.Page.{line_text, put_at}
use Rattle.records.specs.Faults.{number_of}
use Rattle.records.specs.declared.fault.Fault.{Fault}
use Rattle.records.specs.declared.fault.Fault.TheVariants.{Memory, Counts, Range, Waiting, Unreached, Unwritten, Full}

-- the turn writes the line of the first pair
pub record Written (xs : List (ℕ × ℕ)) (place size : ℕ) : Type 0 where
  pub pair : ℕ × ℕ
  pub others : List (ℕ × ℕ)
  pub next : xs ≡ pair ∷ others
  pub turn : line_turn_by xs place size ≡ writes (line_text pair)
  pub fits : place + length (line_text pair) ≤ size

pub written : (xs : List (ℕ × ℕ)) (place size : ℕ) → gives 1 ≡ line_answer (line_turn_by xs place size) → Written xs place size
written [] place size e = let z : ◌≡◌ {A = ℕ} 0 1 = cc in absurd (omega arith)
written (x ∷ xs) place size e = go (leb (place + length (line_text x)) size) refl e
  where
    go : (b : Bool) → leb (place + length (line_text x)) size ≡ b → gives 1 ≡ line_answer (fitting b (line_text x)) → Written (x ∷ xs) place size
    go true same e' = record {
      pair = x;
      others = xs;
      next = refl;
      turn = ap (λ (b : Bool). fitting b (line_text x)) same;
      fits = leb-true (place + length (line_text x)) size same;
    }
    go false same e' = let z : ◌≡◌ {A = ℕ} 0 1 = cc in absurd (omega arith)

-- the first does not fit
pub record Unfit (q : ℕ) (xs : List (ℕ × ℕ)) (place size : ℕ) : Type 0 where
  pub number : q ≡ 17
  pub pair : ℕ × ℕ
  pub others : List (ℕ × ℕ)
  pub next : xs ≡ pair ∷ others
  pub turn : line_turn_by xs place size ≡ no 17
  pub full : size < place + length (line_text pair)

pub unfit : (q : ℕ) (xs : List (ℕ × ℕ)) (place size : ℕ) → refuses q ≡ line_answer (line_turn_by xs place size) → Unfit q xs place size
unfit q [] place size e = let z : ◌≡◌ {A = ℕ} 0 1 = cc in absurd (omega arith)
unfit q (x ∷ xs) place size e = go (leb (place + length (line_text x)) size) refl e
  where
    go : (b : Bool) → leb (place + length (line_text x)) size ≡ b → refuses q ≡ line_answer (fitting b (line_text x)) → Unfit q (x ∷ xs) place size
    go true same e' = let z : ◌≡◌ {A = ℕ} 0 1 = cc in absurd (omega arith)
    go false same e' = record {
      number = cc;
      pair = x;
      others = xs;
      next = refl;
      turn = ap (λ (b : Bool). fitting b (line_text x)) same;
      full = leb-false (place + length (line_text x)) size same;
    }

-- of the refusals, the seventeenth is that of what does not fit
pub is_full : (f : Fault) → number_of f ≡ 17 → f ≡ Full
is_full Memory e = absurd (omega arith)
is_full Counts e = absurd (omega arith)
is_full Range e = absurd (omega arith)
is_full Waiting e = absurd (omega arith)
is_full Unreached e = absurd (omega arith)
is_full Unwritten e = absurd (omega arith)
is_full Full e = refl

-- what is written leaves a page's length
pub same_size : (place : ℕ) (new page : List ℕ) → place + length new ≤ length page → length (put_at place new page) ≡ length page
same_size place new page h =
    let a = length-append (take place page) (new ++ drop (place + length new) page) in
    let b = length-append new (drop (place + length new) page) in
    let c = length-take-le place page (omega arith) in
    let d = length-drop (place + length new) page in
    omega arith

-- and what stands behind it
pub behind : (place : ℕ) (new page : List ℕ) → place + length new ≤ length page → drop (place + length new) (put_at place new page) ≡ drop (place + length new) page
behind place new page h =
    let rest = drop (place + length new) page in
    let l : length (take place page ++ new) ≡ place + length new =
    length-append (take place page) new ∙ ap (λ (n : ℕ). n + length new) (length-take-le place page (omega arith)) in
    ap (drop (place + length new)) (sym (append_assoc (take place page) new rest)) ∙ drop_at (take place page ++ new) rest (place + length new) l

-- what is the same from a place on is the same from a later one on
pub still_same : (xs ys : List ℕ) (i j : ℕ) → i ≤ j → drop i xs ≡ drop i ys → drop j xs ≡ drop j ys
still_same xs ys i j l e =
    let k : j ≡ i + (j - i) = omega arith in
    ap (λ (n : ℕ). drop n xs) k ∙ (sym (drop-drop (j - i) i xs) ∙ ap (drop (j - i)) e ∙ drop-drop (j - i) i ys) ∙ ap (λ (n : ℕ). drop n ys) (sym k)
