-- A number, a name and operands are read just where they are written so.
use Rattle.std.proofs.Common.{◌≡◌, ℕ, ◌<◌, ◌≤◌, Bool, true, false, cond, eqb, List, [], ◌∷◌, length, get_or, Some, None, decimal, Option, sym, refl, ap, ◌∙◌, subst, ⊎_elim, arith}
use Rattle.std.specs.Option.{option_map}
use Rattle.std.specs.Str.{all_ascii_digits}
use Rattle.std.proofs.lemmas.Str.Parse.{digits_value_short}
use Rattle.std.proofs.lemmas.Fmt.{decimal-digits_value, digits_decimal, digits_value-decimal, length-decimal-le, decimal_nonempty, first_decimal, decimal_digit}
use Rattle.std.proofs.lemmas.Bool.{cond-true, cond-false, cases_Bool, cases_lt, eqb-true}
use Rattle.std.proofs.lemmas.Bool.Decides.{nat_tests}
use Rattle.grammar.specs.declared.name.Name.{Name}
use Rattle.grammar.specs.declared.name.Name.TheVariants.{Global, Local}
use Rattle.grammar.specs.Words.{value_on, short, number, name}
use Rattle.grammar.specs.Grammar.{pair, last, next, one, two, three, target, branch, called, counts}
use Rattle.grammar.specs.Spelling.{name_spelt, SmallName}
use Rattle.grammar.proofs.Numerals.{read_on, own, value_is}

-- what a `cond` with `None` gave
pub given_some : {A : Type 0} (b : Bool) (o : Option A) (a : A) → cond b o None ≡ Some a → (b ≡ true) × (o ≡ Some a)
given_some true o a h = (refl, h)
given_some false o a h = let z : ◌≡◌ {A = ℕ} 0 1 = cc in absurd (omega arith)

-- words that `read` takes just where `print` writes them
pub record Spells {A : Type 0} (read : List ℕ → Option A) (print : A → List ℕ) (Fit : A → Type 0) : Type 0 where
  pub prints : (w : List ℕ) (a : A) → read w ≡ Some a → (w ≡ print a) × Fit a
  pub reads : (a : A) → Fit a → read (print a) ≡ Some a

number_prints : (w : List ℕ) (n : ℕ) → number w ≡ Some n → (w ≡ decimal n) × (n < 10000)
number_prints w n h =
    let p = given_some (short w) (value_on 0 w) n h in
    let q = given_some (all_ascii_digits w) (Some (read_on 0 w)) n (sym (value_is 0 w) ∙ p.1) in
    let e : read_on 0 w ≡ n = some_same q.1 in
    let s : short w ≡ true = p.0 in
    let one : 0 < length w = grind (arith, nat_tests) in
    let four : length w ≤ 4 = grind (arith, nat_tests) in
    let lead : get_or w 0 0 ≡ 48 → length w ≡ 1 = λ z. grind (arith, nat_tests) in
    let small : read_on 0 w < 10000 = digits_value_short own w 4 q.0 four in
    (sym (decimal-digits_value own w q.0 one lead (omega arith)) ∙ ap decimal e, omega (arith, e, small))
  where
    some_same : {x y : ℕ} → Some x ≡ Some y → x ≡ y
    some_same z = cc

number_reads : (n : ℕ) → n < 10000 → number (decimal n) ≡ Some n
number_reads n h =
    let ds : all_ascii_digits (decimal n) ≡ true = digits_decimal own n (omega arith) in
    let v : read_on 0 (decimal n) ≡ n = digits_value-decimal own n (omega arith) in
    let one : 0 < length (decimal n) = decimal_nonempty n (omega arith) in
    let four : length (decimal n) ≤ 4 = length-decimal-le 4 n (omega arith) (omega arith) (omega arith) in
    let ok : short (decimal n) ≡ true = ⊎_elim
    (λ z. let e : n ≡ 0 = omega arith in ap short (ap decimal e ∙ decimal_digit 0 (omega arith)))
    (λ p. let first : 48 < get_or (decimal n) 0 0 = first_decimal n (omega arith) (omega arith) in grind (arith, nat_tests))
    (cases_lt n 1) in
    cond-true _ _ _ ok ∙ (value_is 0 (decimal n) ∙ (cond-true _ _ _ ds ∙ ap Some v))

pub number_spells : Spells number decimal (λ n. n < 10000)
number_spells = record { prints = number_prints; reads = number_reads }

pub mapped_some : {A B : Type 0} (f : A → B) (o : Option A) (b : B) → option_map f o ≡ Some b → (a : A) × (o ≡ Some a) × (f a ≡ b)
mapped_some f None b h = let z : ◌≡◌ {A = ℕ} 0 1 = cc in absurd (omega arith)
mapped_some f (Some a) b h = (a, refl, some_in h)
  where
    some_in : {C : Type 0} {x y : C} → Some x ≡ Some y → x ≡ y
    some_in z = cc

from_letter : (f : ℕ → Name) (k : ℕ) → ((n : ℕ) → name_spelt (f n) ≡ k ∷ decimal n) → ((n : ℕ) → n < 10000 → SmallName (f n)) → (c : ℕ) (w : List ℕ) (x : Name) → c ≡ k → option_map f (number w) ≡ Some x → (c ∷ w ≡ name_spelt x) × SmallName x
from_letter f k spells fit c w x e h =
    let m = mapped_some f (number w) x h in
    let p = number_prints w m.0 m.1 in
    subst (λ (y : Name). (c ∷ w ≡ name_spelt y) × SmallName y) m.2
    (ap (λ a. a ∷ w) e ∙ (ap (λ d. k ∷ d) p.0 ∙ sym (spells m.0)), fit m.0 p.1)

name_prints : (w : List ℕ) (x : Name) → name w ≡ Some x → (w ≡ name_spelt x) × SmallName x
name_prints [] x h = let z : ◌≡◌ {A = ℕ} 0 1 = cc in absurd (omega arith)
name_prints (c ∷ w) x h =
    ⊎_elim
    (λ g. from_letter Global 103 (λ n. refl) (λ n s. s) c w x (eqb-true c 103 g) (sym (cond-true _ _ _ g) ∙ h))
    (λ g. let q = given_some (eqb c 108) (option_map Local (number w)) x (sym (cond-false _ _ _ g) ∙ h) in
    from_letter Local 108 (λ n. refl) (λ n s. s) c w x (eqb-true c 108 q.0) q.1)
    (cases_Bool (eqb c 103))

name_reads : (x : Name) → SmallName x → name (name_spelt x) ≡ Some x
name_reads (Global i) h = ap (option_map Global) (number_reads i h)
name_reads (Local i) h = ap (option_map Local) (number_reads i h)

pub name_spells : Spells name name_spelt SmallName
name_spells = record { prints = name_prints; reads = name_reads }

-- the same of a list of words
pub record SpellsAll {A : Type 0} (read : List (List ℕ) → Option A) (print : A → List (List ℕ)) (Fit : A → Type 0) : Type 0 where
  pub prints : (ws : List (List ℕ)) (a : A) → read ws ≡ Some a → (ws ≡ print a) × Fit a
  pub reads : (a : A) → Fit a → read (print a) ≡ Some a

module _ {A : Type 0} {read : List ℕ → Option A} {print : A → List ℕ} {Fit : A → Type 0} (s : Spells read print Fit) where
  last_prints : (ws : List (List ℕ)) (a : A) → last read ws ≡ Some a → (ws ≡ print a ∷ []) × Fit a
  last_prints [] a h = let z : ◌≡◌ {A = ℕ} 0 1 = cc in absurd (omega arith)
  last_prints (w ∷ []) a h = let p = s.prints w a h in (ap (λ v. v ∷ []) p.0, p.1)
  last_prints (w ∷ x ∷ ws) a h = let z : ◌≡◌ {A = ℕ} 0 1 = cc in absurd (omega arith)

  pub last_spells : SpellsAll (last read) (λ a. print a ∷ []) Fit
  last_spells = record { prints = last_prints; reads = s.reads }

pub pair_some : {A B : Type 0} (o : Option A) (u : Option B) (q : A × B) → pair o u ≡ Some q → (o ≡ Some q.0) × (u ≡ Some q.1)
pair_some None u q h = let z : ◌≡◌ {A = ℕ} 0 1 = cc in absurd (omega arith)
pair_some (Some a) None q h = let z : ◌≡◌ {A = ℕ} 0 1 = cc in absurd (omega arith)
pair_some {A = A} {B = B} (Some a) (Some b) q h =
    let e : ◌≡◌ {A = A × B} (a, b) q = cc in
    (ap (λ (z : A × B). Some z.0) e, ap (λ (z : A × B). Some z.1) e)

module _ {A B : Type 0} {read : List ℕ → Option A} {print : A → List ℕ} {Fit : A → Type 0} {rest : List (List ℕ) → Option B} {write : B → List (List ℕ)} {Fits : B → Type 0} (s : Spells read print Fit) (t : SpellsAll rest write Fits) where
  next_prints : (ws : List (List ℕ)) (q : A × B) → next read rest ws ≡ Some q → (ws ≡ print q.0 ∷ write q.1) × (Fit q.0 × Fits q.1)
  next_prints [] q h = let z : ◌≡◌ {A = ℕ} 0 1 = cc in absurd (omega arith)
  next_prints (w ∷ ws) q h =
      let p = pair_some (read w) (rest ws) q h in
      let a = s.prints w q.0 p.0 in
      let b = t.prints ws q.1 p.1 in
      (ap (λ v. v ∷ ws) a.0 ∙ ap (λ vs. print q.0 ∷ vs) b.0, (a.1, b.1))

  next_reads : (q : A × B) → Fit q.0 × Fits q.1 → next read rest (print q.0 ∷ write q.1) ≡ Some q
  next_reads q f = ap (λ o. pair o (rest (write q.1))) (s.reads q.0 f.0) ∙ ap (option_map (λ b. (q.0, b))) (t.reads q.1 f.1)

  pub next_spells : SpellsAll (next read rest) (λ q. print q.0 ∷ write q.1) (λ q. Fit q.0 × Fits q.1)
  next_spells = record { prints = next_prints; reads = next_reads }

pub one_spells : SpellsAll one (λ a. name_spelt a ∷ []) SmallName
one_spells = last_spells name_spells

pub two_spells : SpellsAll two (λ q. name_spelt q.0 ∷ name_spelt q.1 ∷ []) (λ q. SmallName q.0 × SmallName q.1)
two_spells = next_spells name_spells one_spells

pub three_spells : SpellsAll three (λ q. name_spelt q.0 ∷ name_spelt q.1.0 ∷ name_spelt q.1.1 ∷ []) (λ q. SmallName q.0 × (SmallName q.1.0 × SmallName q.1.1))
three_spells = next_spells name_spells two_spells

pub target_spells : SpellsAll target (λ k. decimal k ∷ []) (λ k. k < 10000)
target_spells = last_spells number_spells

pub branch_spells : SpellsAll branch (λ q. name_spelt q.0 ∷ decimal q.1 ∷ []) (λ q. SmallName q.0 × (q.1 < 10000))
branch_spells = next_spells name_spells target_spells

pub called_spells : SpellsAll called (λ q. name_spelt q.0 ∷ decimal q.1.0 ∷ name_spelt q.1.1 ∷ []) (λ q. SmallName q.0 × ((q.1.0 < 10000) × SmallName q.1.1))
called_spells = next_spells name_spells (next_spells number_spells one_spells)

pub counts_spells : SpellsAll counts (λ q. decimal q.0 ∷ decimal q.1 ∷ []) (λ q. (q.0 < 10000) × (q.1 < 10000))
counts_spells = next_spells number_spells target_spells
