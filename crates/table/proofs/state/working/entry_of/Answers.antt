use Rattle.std.proofs.Common.{◌≡◌, true, Some, None, Option, sym, ap, inl, inr, arith}
use Rattle.std.proofs.lemmas.Bool.{cases_lt}
use Rattle.listing.specs.Lawful.{is_lawful}
use Rattle.listing.specs.Meaning.{Meaning, flow, procs, point, entry_of}
use Rattle.listing.specs.Procedures.{entry}
use Rattle.listing.specs.declared.numbers.Point.{Point}
use Rattle.listing.specs.declared.numbers.Proc.{Proc}
use Rattle.paths.proofs.Callees.{below_none, below_some}
use Rattle.paths.proofs.Listed.{listing}
use Rattle.table.specs.Settling.{Enters}
use Rattle.table.proofs.state.working.entry_of.Goals as goal

entered : (m : Meaning) → is_lawful m ≡ true → (p : Proc) (o : Option Point) → o ≡ entry_of m p → Enters m p o
entered m lawful p None e = elim (cases_lt p.0 (procs m)) [
  | inl l ↦ absurd (below_none p.0 (procs m) (point (entry (flow m) p.0)) l e)
  | inr l ↦ l
]
entered m lawful p (Some n) e =
    let b = below_some p.0 (procs m) (point (entry (flow m) p.0)) n e in
    let is : n.0 ≡ entry (flow m) p.0 = sym (ap (λ (k : Point). k.0) b.1) in
    record { below = b.0; entry = is; within = (let w = (listing m lawful).entry_within p.0 b.0 in omega arith) }

pub returns : goal.returns
returns g c = entered (g.P.Program.meaning c.args.program.now) (g.P.Program.lawful c.args.program.now) c.args.p c.entry.result c.entry.ensures
