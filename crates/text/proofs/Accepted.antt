-- What holds of a text to which no question has a no.
use Rattle.std.proofs.Common.{◌≡◌, ℕ, ◌+◌, Bool, true, false, cond, ltb, List, [], ◌∷◌, Some, None, Option, refl, ap, ◌∙◌, subst, arith}
use Rattle.std.specs.Option.{option_map}
use Rattle.std.proofs.lemmas.Bool.{and_from, not-true, lt-ltb, ltb-true}
use Rattle.listing.specs.Lawful.{each, owns}
use Rattle.text.specs.Mapped.{both, all_three}
use Rattle.listing.specs.Statements.{controlled, cells_of}
use Rattle.listing.specs.declared.numbers.Cell.{Cell}
use Rattle.listing.specs.declared.statement.Statement.{Statement}
use Rattle.listing.specs.declared.statement.Statement.TheVariants.{Set, Move, Add, Read, Send, Goto, Test, Call, Ret, Trim}
use Rattle.draft.specs.Rules.{unended, crowded, foreign, astray, missing, or_else}
use Rattle.draft.specs.declared.question.Question.{Question}
use Rattle.draft.specs.declared.question.Refusal.{Refusal}
use Rattle.draft.specs.declared.question.Breach.{Breach}
use Rattle.grammar.specs.declared.name.Name.{Name}
use Rattle.grammar.specs.declared.name.Name.TheVariants.{Global, Local}
use Rattle.grammar.proofs.Prints.{mapped_some}
use Rattle.text.specs.Cells.{cell_of, numbered}
use Rattle.text.specs.Reading.{flow_of, owned_of, outsized, misformed, unranged, miscounted, on_line, or_next, refused, accepted}
use Rattle.text.proofs.Written.{none_from}

-- every question is answered yes
pub record Answered (t : List ℕ) : Type 0 where
  pub size : outsized t ≡ None
  pub form : misformed t ≡ None
  pub ranges : unranged t ≡ None
  pub count : miscounted t ≡ None
  pub end : unended (flow_of t) ≡ None
  pub procedures : crowded (flow_of t) ≡ None
  pub cells : foreign (flow_of t) (owned_of t) ≡ None
  pub jumps : astray (flow_of t) ≡ None
  pub callees : missing (flow_of t) ≡ None

next_quiet : (q : Question) (o : Option ℕ) (later : Option Refusal) → or_next q o later ≡ None → (o ≡ None) × (later ≡ None)
next_quiet q None later h = (refl, h)
next_quiet q (Some j) later h = let z : ◌≡◌ {A = ℕ} 0 1 = cc in absurd (omega arith)

else_quiet : (q : Question) (o : Option ℕ) (later : Option Breach) → or_else q o later ≡ None → (o ≡ None) × (later ≡ None)
else_quiet q None later h = (refl, h)
else_quiet q (Some j) later h = let z : ◌≡◌ {A = ℕ} 0 1 = cc in absurd (omega arith)

mapped_none : {A B : Type 0} (f : A → B) (o : Option A) → option_map f o ≡ None → o ≡ None
mapped_none f None h = refl
mapped_none f (Some x) h = let z : ◌≡◌ {A = ℕ} 0 1 = cc in absurd (omega arith)

pub answered_yes : (t : List ℕ) → accepted t ≡ true → Answered t
answered_yes t a =
    let p = next_quiet _ (outsized t) _ (none_from (refused t) (not-true _ a)) in
    let q = next_quiet _ (misformed t) _ p.1 in
    let r = next_quiet _ (unranged t) _ q.1 in
    let s = next_quiet _ (miscounted t) _ r.1 in
    let u = else_quiet _ (unended (flow_of t)) _ (mapped_none on_line _ s.1) in
    let v = else_quiet _ (crowded (flow_of t)) _ u.1 in
    let w = else_quiet _ (foreign (flow_of t) (owned_of t)) _ v.1 in
    let x = else_quiet _ (astray (flow_of t)) _ w.1 in
    let y = else_quiet _ (missing (flow_of t)) _ x.1 in
    record { size = p.0; form = q.0; ranges = r.0; count = s.0; end = u.0; procedures = v.0; cells = w.0; jumps = x.0; callees = y.0 }

-- a cell of the program's is one of the first g + l
below_some : {A : Type 0} (b : Bool) (x y : A) → cond b (Some x) None ≡ Some y → (b ≡ true) × (x ≡ y)
below_some true x y h = (refl, cc)
below_some false x y h = let z : ◌≡◌ {A = ℕ} 0 1 = cc in absurd (omega arith)

both_some : {A B C : Type 0} (f : A → B → C) (x : Option A) (y : Option B) (r : C) → both f x y ≡ Some r → (a : A) × (b : B) × (x ≡ Some a) × (y ≡ Some b) × (f a b ≡ r)
both_some f None y r h = let z : ◌≡◌ {A = ℕ} 0 1 = cc in absurd (omega arith)
both_some f (Some a) y r h = let m = mapped_some (f a) y r h in (a, m.0, refl, m.1, m.2)

module _ (g l : ℕ) where
  own_cell : (x : Name) (c : Cell) → cell_of g l x ≡ Some c → ltb c.0 (g + l) ≡ true
  own_cell (Global i) c h =
      let p = below_some (ltb i g) (record { 0 = i }) c h in
      let e : i ≡ c.0 = ap (λ (d : Cell). d.0) p.1 in
      lt-ltb c.0 (g + l) (omega (arith, e, ltb-true i g p.0))
  own_cell (Local i) c h =
      let p = below_some (ltb i l) (record { 0 = g + i }) c h in
      let e : g + i ≡ c.0 = ap (λ (d : Cell). d.0) p.1 in
      lt-ltb c.0 (g + l) (omega (arith, e, ltb-true i l p.0))

  -- numbering keeps what a statement does to control, and names own cells only
  abbrev KeptBy : Statement Name → Statement Cell → Type 0
  KeptBy s y = (controlled y ≡ controlled s) × (owns (g + l) y ≡ true)

  one_kept : (make : Cell → Statement Cell) (s : Statement Name) → ((c : Cell) → controlled (make c) ≡ controlled s) → ((c : Cell) → cells_of (make c) ≡ c ∷ [])
      → (x : Name) (y : Statement Cell) → option_map make (cell_of g l x) ≡ Some y → KeptBy s y
  one_kept make s same names x y h =
      let m = mapped_some make (cell_of g l x) y h in
      subst (λ (z : Statement Cell). KeptBy s z) m.2
      (same m.0, ap (each (λ c. ltb c.0 (g + l))) (names m.0) ∙ and_from _ true (own_cell x m.0 m.1) refl)

  two_kept : (make : Cell → Cell → Statement Cell) (s : Statement Name) → ((c d : Cell) → controlled (make c d) ≡ controlled s) → ((c d : Cell) → cells_of (make c d) ≡ c ∷ d ∷ [])
      → (u v : Name) (y : Statement Cell) → both make (cell_of g l u) (cell_of g l v) ≡ Some y → KeptBy s y
  two_kept make s same names u v y h =
      let m = both_some make (cell_of g l u) (cell_of g l v) y h in
      subst (λ (z : Statement Cell). KeptBy s z) m.4
      (same m.0 m.1, ap (each (λ c. ltb c.0 (g + l))) (names m.0 m.1) ∙ and_from _ _ (own_cell u m.0 m.2) (and_from _ true (own_cell v m.1 m.3) refl))

  add_kept : (d s t : Name) (o : Option Cell) → cell_of g l d ≡ o → (y : Statement Cell) → all_three Add o (cell_of g l s) (cell_of g l t) ≡ Some y → KeptBy (Add d s t) y
  add_kept d s t None e y h = let z : ◌≡◌ {A = ℕ} 0 1 = cc in absurd (omega arith)
  add_kept d s t (Some c) e y h =
      let m = both_some (Add c) (cell_of g l s) (cell_of g l t) y h in
      subst (λ (z : Statement Cell). KeptBy (Add d s t) z) m.4
      (refl, and_from _ _ (own_cell d c e) (and_from _ _ (own_cell s m.0 m.2) (and_from _ true (own_cell t m.1 m.3) refl)))

  pub numbered_keeps : (s : Statement Name) (y : Statement Cell) → numbered g l s ≡ Some y → KeptBy s y
  numbered_keeps (Set d) y h = one_kept Set (Set d) (λ c. refl) (λ c. refl) d y h
  numbered_keeps (Move d s) y h = two_kept Move (Move d s) (λ c e. refl) (λ c e. refl) d s y h
  numbered_keeps (Add d s t) y h = add_kept d s t (cell_of g l d) refl y h
  numbered_keeps (Read d) y h = one_kept Read (Read d) (λ c. refl) (λ c. refl) d y h
  numbered_keeps (Send s) y h = one_kept Send (Send s) (λ c. refl) (λ c. refl) s y h
  numbered_keeps (Goto k) y h = let e : Goto k ≡ y = cc in subst (λ (z : Statement Cell). KeptBy (Goto k) z) e (refl, refl)
  numbered_keeps (Test s k) y h = one_kept (λ c. Test c k) (Test s k) (λ c. refl) (λ c. refl) s y h
  numbered_keeps (Call d p s) y h = two_kept (λ c. Call c p) (Call d p s) (λ c e. refl) (λ c e. refl) d s y h
  numbered_keeps (Ret s) y h = one_kept Ret (Ret s) (λ c. refl) (λ c. refl) s y h
  numbered_keeps (Trim d s) y h = two_kept Trim (Trim d s) (λ c e. refl) (λ c e. refl) d s y h
