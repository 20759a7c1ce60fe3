-- What the one test of a lawful program says, part by part.
use Rattle.std.proofs.Common.{◌≡◌, ◌+◌, ◌≤◌, true}
use Rattle.std.proofs.lemmas.Bool.{and_parts, leb-true}
use Rattle.listing.specs.Lawful.{each, every, owns, stays, exists, is_lawful}
use Rattle.listing.specs.Meaning.{Meaning, size, procs, flow}
use Rattle.listing.specs.Procedures.{ends_in_ret}

pub record Lawful (m : Meaning) : Type 0 where
  pub few_globals : m.globals ≤ 31
  pub some_locals : 1 ≤ m.locals
  pub few_locals : m.locals ≤ 32
  pub some_points : 1 ≤ size m
  pub few_points : size m ≤ 1000
  pub end : ends_in_ret (flow m) ≡ true
  pub few_procedures : procs m ≤ 60
  pub cells : each (owns (m.globals + m.locals)) m.statements ≡ true
  pub jumps : every (stays (flow m)) 0 (flow m) ≡ true
  pub callees : every (exists (procs m)) 0 (flow m) ≡ true

pub parts : (m : Meaning) → is_lawful m ≡ true → Lawful m
parts m e =
    let a = and_parts _ _ e in
    let b = and_parts _ _ a.1 in
    let c = and_parts _ _ b.1 in
    let d = and_parts _ _ c.1 in
    let f = and_parts _ _ d.1 in
    let g = and_parts _ _ f.1 in
    let cells = and_parts _ _ a.0 in
    let locals = and_parts _ _ cells.1 in
    let points = and_parts _ _ b.0 in
    record {
      few_globals = leb-true _ _ cells.0;
      some_locals = leb-true _ _ locals.0;
      few_locals = leb-true _ _ locals.1;
      some_points = leb-true _ _ points.0;
      few_points = leb-true _ _ points.1;
      end = c.0;
      few_procedures = leb-true _ _ d.0;
      cells = f.0;
      jumps = g.0;
      callees = g.1;
    }
