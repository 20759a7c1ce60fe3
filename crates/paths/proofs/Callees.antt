-- A lawful program's callees have entries and exits.
use Rattle.std.proofs.Common.{◌≡◌, ℕ, ◌<◌, Bool, true, false, cond, ltb, Some, None, sym, refl, ap, ◌∙◌, arith}
use Rattle.std.proofs.lemmas.Bool.{cond-true, lt-ltb, ltb-true}
use Rattle.listing.specs.Lawful.{is_lawful}
use Rattle.listing.specs.Meaning.{Meaning, below, proc, flow, procs, size, statement_at, procedure_at, entry_of, exit_of}
use Rattle.listing.specs.Procedures.{procedure}
use Rattle.listing.specs.declared.numbers.Cell.{Cell}
use Rattle.listing.specs.declared.numbers.Point.{Point}
use Rattle.listing.specs.declared.numbers.Proc.{Proc}
use Rattle.listing.specs.declared.statement.Statement.TheVariants.{Call}
use Rattle.listing.proofs.Parts.{parts}
use Rattle.flow.specs.Relation.{Rule, Within, Few}
use Rattle.paths.specs.Law.{Sound}
use Rattle.paths.proofs.Listed.{listing}
use Rattle.paths.specs.Does.{handed}

pub below_none : {A : Type 0} (k n : ℕ) (x : A) → k < n → None ≡ below k n x → ⊥
below_none k n x l e = let h : None ≡ Some x = e ∙ cond-true _ _ _ (lt-ltb k n l) in let z : ◌≡◌ {A = ℕ} 0 1 = cc in omega arith

pub below_some : {A : Type 0} (k n : ℕ) (x y : A) → Some y ≡ below k n x → (k < n) × (x ≡ y)
below_some k n x y e = go (ltb k n) refl e
  where
    go : (b : Bool) → ltb k n ≡ b → Some y ≡ cond b (Some x) None → (k < n) × (x ≡ y)
    go true t h = (ltb-true k n t, cc)
    go false t h = let z : ◌≡◌ {A = ℕ} 0 1 = cc in absurd (omega arith)

module _ (m : Meaning) (lawful : is_lawful m ≡ true) where
  pub callee_below : (n : Point) (D : Cell) (q : Proc) (S : Cell) → Some (Call D q S) ≡ statement_at m n → q.0 < procs m
  callee_below n D q S e = (listing m lawful).callee n.0 D q S (sym e)

  pub has_entry : (n : Point) (D : Cell) (q : Proc) (S : Cell) → Some (Call D q S) ≡ statement_at m n → None ≡ entry_of m q → ⊥
  has_entry n D q S e h = below_none q.0 (procs m) _ (callee_below n D q S e) h

  pub has_exit : (n : Point) (D : Cell) (q : Proc) (S : Cell) → Some (Call D q S) ≡ statement_at m n → None ≡ exit_of m q → ⊥
  has_exit n D q S e h = below_none q.0 (procs m) _ (callee_below n D q S e) h

  -- the procedure of a point is one of the program's
  pub home_entry : (n : Point) (p : Proc) → Some p ≡ procedure_at m n → None ≡ entry_of m p → ⊥
  home_entry n p e h =
      let b = below_some n.0 (size m) (proc (procedure (flow m) n.0)) p e in
      let is : procedure (flow m) n.0 ≡ p.0 = ap (λ (q : Proc). q.0) b.1 in
      below_none p.0 (procs m) _ (omega (arith, is, (listing m lawful).proc_within n.0 b.0)) h

-- what a program and a problem of the interfaces mean is sound
pub sound : (m : Meaning) → is_lawful m ≡ true → (rule : Rule) (f : ℕ) → Within f rule → Few f → Sound (handed m rule f)
sound m e rule f w few = record { lawful = listing m e; bounded = w; few_points = (parts m e).few_points; few_facts = few.most }
