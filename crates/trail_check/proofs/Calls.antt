-- A lawful program's callees have entries and exits.
use Rattle.std.proofs.Common.{◌≡◌, true, Some, None, Option, arith}
use Rattle.std.proofs.lemmas.Grind.{common_steps}
use Rattle.listing.specs.Lawful.{is_lawful}
use Rattle.listing.specs.Meaning.{Meaning, statement_at, entry_of, exit_of}
use Rattle.listing.specs.declared.numbers.Cell.{Cell}
use Rattle.listing.specs.declared.numbers.Point.{Point}
use Rattle.listing.specs.declared.numbers.Proc.{Proc}
use Rattle.listing.specs.declared.statement.Statement.{Statement}
use Rattle.listing.specs.declared.statement.Statement.TheVariants.{Call}
use Rattle.paths.proofs.Callees.{has_entry, has_exit}
use Rattle.trail_check.specs.Rules.{called}

-- the parts of a call
called_is : (o : Option (Statement Cell)) (s : Statement Cell) (q : Proc) → Some (s, q) ≡ called o → (D : Cell) × (S : Cell) × (Some (Call D q S) ≡ o)
called_is o s q e = grind (arith, common_steps)

module _ (m : Meaning) (lawful : is_lawful m ≡ true) (n : Point) (s : Statement Cell) (q : Proc) (e : Some (s, q) ≡ called (statement_at m n)) where
  pub callee_entry : None ≡ entry_of m q → ⊥
  callee_entry h = let k = called_is (statement_at m n) s q e in has_entry m lawful n k.0 q k.1 k.2 h

  pub callee_exit : None ≡ exit_of m q → ⊥
  callee_exit h = let k = called_is (statement_at m n) s q e in has_exit m lawful n k.0 q k.1 k.2 h
