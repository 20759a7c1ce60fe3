-- The statements of a listing that is read are told as its own lines.
use Rattle.std.proofs.Common.{◌≡◌, ℕ, ◌+◌, ◌≤◌, Bool, true, false, cond, ltb, not, List, is_some, Some, None, Option, sym, refl, ap, ◌∙◌, subst, arith}
use Rattle.std.specs.List.{slice_get}
use Rattle.std.specs.Option.{option_map}
use Rattle.std.proofs.lemmas.Bool.{cond-true, cond-false, ltb-true}
use Rattle.listing.specs.declared.numbers.Cell.{Cell}
use Rattle.listing.specs.declared.statement.Statement.{Statement}
use Rattle.listing.specs.declared.statement.Statement.TheVariants.{Set, Move, Add, Read, Send, Goto, Test, Call, Ret, Trim}
use Rattle.draft.specs.declared.question.Refusal.{Refusal}
use Rattle.grammar.specs.Grammar.{then, statement}
use Rattle.grammar.specs.Spelling.{line_of, words_of}
use Rattle.grammar.specs.declared.name.Name.{Name}
use Rattle.grammar.specs.declared.name.Name.TheVariants.{Global, Local}
use Rattle.grammar.proofs.Prints.{mapped_some}
use Rattle.grammar.proofs.Spelt.{statement_spelt}
use Rattle.statement_text.specs.Named.{name_of, named}
use Rattle.text.specs.Cells.{cell_of, numbered}
use Rattle.text.specs.Lines.{lines}
use Rattle.text.specs.Mapped.{both, all_three}
use Rattle.text.specs.Reading.{counted, written, renumbered, meaning_of, refused, accepted, answered}
use Rattle.text.proofs.Accepted.{answered_yes}
use Rattle.text.proofs.Lawful.{meant_nth}
use Rattle.text.proofs.Written.{written_nth}
use Rattle.explanation.specs.Beside.{Lined, LinedBy, OwnLines}

-- THE NAME OF A CELL IS THAT BY WHICH IT WAS NUMBERED

below_some : {A : Type 0} (b : Bool) (x y : A) → cond b (Some x) None ≡ Some y → (b ≡ true) × (x ≡ y)
below_some true x y h = (refl, cc)
below_some false x y h = let z : ◌≡◌ {A = ℕ} 0 1 = cc in absurd (omega arith)

both_some : {A B C : Type 0} (f : A → B → C) (x : Option A) (y : Option B) (r : C) → both f x y ≡ Some r → (a : A) × (b : B) × (x ≡ Some a) × (y ≡ Some b) × (f a b ≡ r)
both_some f None y r h = let z : ◌≡◌ {A = ℕ} 0 1 = cc in absurd (omega arith)
both_some f (Some a) y r h = let m = mapped_some (f a) y r h in (a, m.0, refl, m.1, m.2)

all_some : {A B C D : Type 0} (f : A → B → C → D) (x : Option A) (y : Option B) (z : Option C) (r : D) → all_three f x y z ≡ Some r
    → (a : A) × (b : B) × (c : C) × (x ≡ Some a) × (y ≡ Some b) × (z ≡ Some c) × (f a b c ≡ r)
all_some f None y z r h = let w : ◌≡◌ {A = ℕ} 0 1 = cc in absurd (omega arith)
all_some f (Some a) y z r h = let m = both_some (f a) y z r h in (a, m.0, m.1, refl, m.2, m.3, m.4)

module _ (g l : ℕ) where
  not_below : (c : ℕ) → g ≤ c → ltb c g ≡ false
  not_below c h = go (ltb c g) refl
    where
      go : (b : Bool) → ltb c g ≡ b → ltb c g ≡ false
      go true e = absurd (omega (arith, ltb-true c g e))
      go false e = e

  name_back : (x : Name) (c : Cell) → cell_of g l x ≡ Some c → name_of g c ≡ x
  name_back (Global i) c h =
      let p = below_some (ltb i g) (record { 0 = i }) c h in
      let e : i ≡ c.0 = ap (λ (d : Cell). d.0) p.1 in
      cond-true _ _ _ (ap (λ (k : ℕ). ltb k g) (sym e) ∙ p.0) ∙ ap Global (sym e)
  name_back (Local i) c h =
      let p = below_some (ltb i l) (record { 0 = g + i }) c h in
      let e : g + i ≡ c.0 = ap (λ (d : Cell). d.0) p.1 in
      cond-false _ _ _ (not_below c.0 (omega arith)) ∙ ap (λ (k : ℕ). Local k) (omega arith)

  one_back : (make : Cell → Statement Cell) (to : Name → Statement Name) → ((c : Cell) → named g (make c) ≡ to (name_of g c))
      → (x : Name) (y : Statement Cell) → option_map make (cell_of g l x) ≡ Some y → named g y ≡ to x
  one_back make to names x y h =
      let m = mapped_some make (cell_of g l x) y h in
      ap (named g) (sym m.2) ∙ names m.0 ∙ ap to (name_back x m.0 m.1)

  two_back : (make : Cell → Cell → Statement Cell) (to : Name → Name → Statement Name) → ((c d : Cell) → named g (make c d) ≡ to (name_of g c) (name_of g d))
      → (u v : Name) (y : Statement Cell) → both make (cell_of g l u) (cell_of g l v) ≡ Some y → named g y ≡ to u v
  two_back make to names u v y h =
      let m = both_some make (cell_of g l u) (cell_of g l v) y h in
      ap (named g) (sym m.4) ∙ names m.0 m.1 ∙ ap (λ (z : Name). to z (name_of g m.1)) (name_back u m.0 m.2) ∙ ap (λ (z : Name). to u z) (name_back v m.1 m.3)

  three_back : (d s t : Name) (y : Statement Cell) → all_three Add (cell_of g l d) (cell_of g l s) (cell_of g l t) ≡ Some y → named g y ≡ Add d s t
  three_back d s t y h =
      let m = all_some Add (cell_of g l d) (cell_of g l s) (cell_of g l t) y h in
      ap (named g) (sym m.6)
      ∙ ap (λ (z : Name). Add z (name_of g m.1) (name_of g m.2)) (name_back d m.0 m.3)
      ∙ ap (λ (z : Name). Add d z (name_of g m.2)) (name_back s m.1 m.4)
      ∙ ap (λ (z : Name). Add d s z) (name_back t m.2 m.5)

  named_back : (x : Statement Name) (y : Statement Cell) → numbered g l x ≡ Some y → named g y ≡ x
  named_back (Set d) y h = one_back Set Set (λ c. refl) d y h
  named_back (Move d s) y h = two_back Move Move (λ c e. refl) d s y h
  named_back (Add d s t) y h = three_back d s t y h
  named_back (Read d) y h = one_back Read Read (λ c. refl) d y h
  named_back (Send s) y h = one_back Send Send (λ c. refl) s y h
  named_back (Goto k) y h = let e : Goto k ≡ y = cc in ap (named g) (sym e)
  named_back (Test s k) y h = one_back (λ c. Test c k) (λ c. Test c k) (λ c. refl) s y h
  named_back (Call d p s) y h = two_back (λ c. Call c p) (λ c. Call c p) (λ c e. refl) d s y h
  named_back (Ret s) y h = one_back Ret Ret (λ c. refl) s y h
  named_back (Trim d s) y h = two_back Trim Trim (λ c e. refl) d s y h

-- THE LINES

then_some : {A B : Type 0} (o : Option A) (f : A → Option B) (b : B) → then o f ≡ Some b → (a : A) × (o ≡ Some a) × (f a ≡ Some b)
then_some None f b h = let z : ◌≡◌ {A = ℕ} 0 1 = cc in absurd (omega arith)
then_some (Some a) f b h = (a, refl, h)

module _ (t : List ℕ) (yes : accepted t ≡ true) where
  lined : Lined (lines t) (meaning_of t)
  lined n s e =
      let a = answered_yes t yes in
      let w = then_some (slice_get (written t) n) (renumbered t) s (sym (meant_nth t a n) ∙ e) in
      let k = then_some (slice_get (lines t) (n + 1)) statement w.0 (sym (written_nth t a.form n) ∙ w.1) in
      let spelt = (statement_spelt k.0 (statement k.0) refl).only w.0 k.2 in
      k.1 ∙ ap (λ (x : List ℕ). Some x) (spelt.0 ∙ ap (λ (x : Statement Name). line_of (words_of x)) (sym (named_back (counted t).globals (counted t).locals w.0 s w.2)))

pub own_lines : (t : List ℕ) → OwnLines t
own_lines t = go (refused t) refl
  where
    go : (o : Option Refusal) → refused t ≡ o → LinedBy (lines t) (answered (refused t) (meaning_of t))
    go None e = subst (λ (p : Option Refusal). LinedBy (lines t) (answered p (meaning_of t))) (sym e) (lined t (ap (λ (p : Option Refusal). not (is_some p)) e))
    go (Some r) e = subst (λ (p : Option Refusal). LinedBy (lines t) (answered p (meaning_of t))) (sym e) _
