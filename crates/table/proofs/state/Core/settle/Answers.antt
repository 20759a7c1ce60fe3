use Rattle.std.proofs.Common.{◌≡◌, ℕ, Some, sym, ap, ◌∙◌, arith}
use Rattle.listing.specs.declared.numbers.Cell.{Cell}
use Rattle.listing.specs.declared.statement.Statement.{Statement}
use Rattle.listing.specs.declared.statement.Statement.TheVariants.{Call, Ret}
use Rattle.listing.specs.Meaning.{size}
use Rattle.listing.proofs.Lists.{nth_none}
use Rattle.paths.proofs.Callees.{callee_below}
use Rattle.paths.specs.Table.{number_of}
use Rattle.paths.specs.Supergraph.{graph_of}
use Rattle.paths.specs.Tabled.{cell_at, settle}
use Rattle.table.specs.Settling.{Stands}
use Rattle.table.specs.State.{inner, cell_of, Inside, Found}
use Rattle.table.specs.declared.sites.Site.{Site}
use Rattle.table.specs.declared.sites.Spot.{Spot}
use Rattle.table.specs.declared.state.Core.{Core}
use Rattle.table.proofs.Numbers.{number_back}
use Rattle.table.proofs.Settles.{at_spot, plain, call, goes_on, behind, callable}
use Rattle.table.proofs.state.Core.settle.Goals as goal

-- the cell that is settled stands in the table
standing : (t : Core) (spot : Spot) (c : ℕ) (s : Statement Cell) → cell_of spot ≡ cell_at t.facts c → Inside t spot → Found t c
    → Stands t (record { spot = spot; cell = c; statement = s })
standing t spot c s e inside found = record {
  inside = inside;
  number = sym (ap (number_of t.facts) e ∙ number_back t.facts c);
  found = found;
}

pub returns-in_default : goal.returns-in_default
returns-in_default g c =
    let m = g.P.Program.meaning c.args.on.now.program.now in
    let p = c.spot-spot.result.point in
    absurd (let z = nth_none m.statements p.0 (sym c.in_default.ensures.value) in omega (arith, c.spot-spot.ensures.inside.point, c.requires.serves.points))

pub returns-in_default-callee_of : goal.returns-in_default-callee_of
returns-in_default-callee_of g c =
    let m = g.P.Program.meaning c.args.on.now.program.now in
    let k = c.in-Call in
    absurd (let b = callee_below m (g.P.Program.lawful c.args.on.now.program.now) c.spot-spot.result.point k.to k.callee k.argument
    (ap Some (sym k.is) ∙ c.in-Some.ensures.value) in omega (arith, c.in_default-callee_of.ensures.callee))

pub settle_call-requires : goal.settle_call-requires
settle_call-requires g c =
    let m = g.P.Program.meaning c.args.on.now.program.now in
    let lawful = g.P.Program.lawful c.args.on.now.program.now in
    let k = c.in-Call in
    let spot = c.spot-spot in
    record {
      site = standing _ _ _ _ spot.ensures.value spot.ensures.inside c.requires.found;
      next = behind m lawful _ c.requires.serves.points spot.result.point k.to k.callee k.argument (ap Some (sym k.is) ∙ c.in-Some.ensures.value);
      callee = callable m lawful _ c.requires.serves.points k.callee _ c.in-Some-callee_of.ensures.callee;
    }

pub settle_ret-requires : goal.settle_ret-requires
settle_ret-requires g c =
    let spot = c.spot-spot in
    record { recalls = c.in-Some.ensures.recalls; points = c.requires.serves.points; stands = standing _ _ _ _ spot.ensures.value spot.ensures.inside c.requires.found }

pub settle_plain-requires : goal.settle_plain-requires
settle_plain-requires g c =
    let m = g.P.Program.meaning c.args.on.now.program.now in
    let spot = c.spot-spot in
    record {
      stands = standing _ _ _ _ spot.ensures.value spot.ensures.inside c.requires.found;
      onward = goes_on m (g.P.Program.lawful c.args.on.now.program.now) _ c.requires.serves.points spot.result.point c.in-Some.statement c.in-Some.ensures.value;
    }

pub returns-in-Some-callee_of : goal.returns-in-Some-callee_of
returns-in-Some-callee_of g c =
    let m = g.P.Program.meaning c.args.on.now.program.now in
    let Q = g.Q.Problem.relation c.args.on.now.problem.now in
    let F = c.args.self.now.facts in
    let k = c.in-Call in
    let spot = c.spot-spot in
    let t = inner c.args.self.now in
    let value : cell_of spot.result ≡ cell_at F c.args.cell = spot.ensures.value in
    let number : c.args.cell ≡ number_of F (cell_of spot.result) = sym (ap (number_of F) value ∙ number_back F c.args.cell) in
    let x : Site = record { spot = spot.result; cell = c.args.cell; statement = c.in-Some.statement } in
    record {
      kept = c.settle_call.ensures.kept;
      recalls = c.in-Some-callee_of.ensures.recalls;
      after =
          c.settle_call.ensures.after
          ∙ call m Q F x number k.to k.callee k.argument k.is c.in-Some-callee_of.callee c.in-Some-callee_of.ensures.callee t
          ∙ at_spot m Q F spot.result c.args.cell (Some (Call k.to k.callee k.argument)) t value (ap Some (sym k.is) ∙ c.in-Some.ensures.value)
          ∙ ap (λ (f : ℕ). settle (graph_of m) Q (size m) f (cell_at f c.args.cell) t) c.requires.serves.facts;
    }

pub returns-in-Ret : goal.returns-in-Ret
returns-in-Ret g c =
    let m = g.P.Program.meaning c.args.on.now.program.now in
    let Q = g.Q.Problem.relation c.args.on.now.problem.now in
    let F = c.args.self.now.facts in
    let spot = c.spot-spot in
    let t = inner c.args.self.now in
    let value : cell_of spot.result ≡ cell_at F c.args.cell = spot.ensures.value in
    record {
      kept = c.settle_ret.ensures.kept;
      recalls = c.settle_ret.ensures.recalls;
      after = c.settle_ret.ensures.after ∙ at_spot m Q F spot.result c.args.cell (Some (Ret c.in-Ret.from)) t value (ap Some (sym c.in-Ret.is) ∙ c.in-Some.ensures.value)
          ∙ ap (λ (f : ℕ). settle (graph_of m) Q (size m) f (cell_at f c.args.cell) t) c.requires.serves.facts;
    }

pub returns-in_default-statement : goal.returns-in_default-statement
returns-in_default-statement g c =
    let m = g.P.Program.meaning c.args.on.now.program.now in
    let Q = g.Q.Problem.relation c.args.on.now.problem.now in
    let F = c.args.self.now.facts in
    let spot = c.spot-spot in
    let t = inner c.args.self.now in
    let value : cell_of spot.result ≡ cell_at F c.args.cell = spot.ensures.value in
    let number : c.args.cell ≡ number_of F (cell_of spot.result) = sym (ap (number_of F) value ∙ number_back F c.args.cell) in
    let x : Site = record { spot = spot.result; cell = c.args.cell; statement = c.in-Some.statement } in
    record {
      kept = c.settle_plain.ensures.kept;
      recalls = c.in-Some.ensures.recalls;
      after = c.settle_plain.ensures.after ∙ plain m Q F x number c.in_default-statement.not-Call c.in_default-statement.not-Ret t ∙ at_spot m Q F spot.result c.args.cell (Some c.in-Some.statement) t value c.in-Some.ensures.value
          ∙ ap (λ (f : ℕ). settle (graph_of m) Q (size m) f (cell_at f c.args.cell) t) c.requires.serves.facts;
    }
