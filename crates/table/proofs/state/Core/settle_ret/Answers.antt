use Rattle.std.proofs.Common.{ℕ, ◌<◌, Option, sym, ap, ◌∙◌, subst, arith}
use Rattle.listing.specs.Callers.{call_from}
use Rattle.listing.specs.Meaning.{flow, size, proc}
use Rattle.listing.specs.Procedures.{procedure}
use Rattle.listing.specs.declared.numbers.Point.{Point}
use Rattle.listing.specs.declared.numbers.Proc.{Proc}
use Rattle.paths.proofs.Callees.{below_none, below_some}
use Rattle.table.specs.State.{inner}
use Rattle.table.proofs.Callers.{Progress, left, at_first, at_next, fewer, no_statement, after_call}
use Rattle.table.specs.Settling.{answers}
use Rattle.table.specs.declared.sites.ReturnSite.{ReturnSite}
use Rattle.table.proofs.Turns.{alike}
use Rattle.table.proofs.Kept.{kept_same, kept_then, stands_still}
use Rattle.table.proofs.state.Core.settle_ret.Goals as goal

pub returns-in_default : goal.returns-in_default
returns-in_default g c =
    let m = g.P.Program.meaning c.args.on.now.program.now in
    absurd (below_none c.args.exit.spot.point.0 (size m) (proc (procedure (flow m) c.args.exit.spot.point.0)) (omega (arith, c.requires.points, c.requires.stands.inside.point)) c.in_default.ensures)

pub loop-next-init : goal.loop-next-init
loop-next-init g c =
    let x = c.args in
    let m = g.P.Program.meaning x.on.now.program.now in
    let home = (below_some x.exit.spot.point.0 (size m) (proc (procedure (flow m) x.exit.spot.point.0)) c.in-Some.home c.in-Some.ensures).1 in
    let from = c.first_caller-next.ensures ∙ ap (λ (p : Proc). call_from (flow m) p.0 0) (sym home) in
    (kept_same _, c.requires.recalls, at_first m (g.Q.Problem.relation x.on.now.problem.now) (x.self.now.facts) x.returned x.exit (inner x.self.now) c.first_caller-next.result from)

pub returns-in_default-statement : goal.returns-in_default-statement
returns-in_default-statement g c =
    let x = c.args in
    let m = g.P.Program.meaning x.on.now.program.now in
    let Q = g.Q.Problem.relation x.on.now.problem.now in
    let F = x.self.now.facts in
    let start = inner x.self.now in
    let at = c.in-Some-next.at in
    let here = subst (λ (o : Option Point). Progress m Q F x.returned x.exit start o (inner c.loop-next.self)) c.in-Some-next.is c.loop-next.invariant.2 in
    absurd (no_statement m Q F x.returned x.exit start at c.in_default-statement.ensures.value here.1)

pub answer_call-requires : goal.answer_call-requires
answer_call-requires g c =
    let x = c.args in
    let m = g.P.Program.meaning x.on.now.program.now in
    let Q = g.Q.Problem.relation x.on.now.problem.now in
    let F = x.self.now.facts in
    let start = inner x.self.now in
    let at = c.in-Some-next.at in
    let here = subst (λ (o : Option Point). Progress m Q F x.returned x.exit start o (inner c.loop-next.self)) c.in-Some-next.is c.loop-next.invariant.2 in
    let k = c.loop-next.invariant.0 in
    let next = after_call m Q F x.returned x.exit start (g.P.Program.lawful x.on.now.program.now) at c.in-Some-statement.statement c.in-Some-statement.ensures.value here.1 in
    record { exit = stands_still _ _ _ k c.requires.stands; next = omega (arith, k.points, c.requires.points) }

pub loop-next-preserved : goal.loop-next-preserved
loop-next-preserved g c =
    let x = c.args in
    let m = g.P.Program.meaning x.on.now.program.now in
    let Q = g.Q.Problem.relation x.on.now.problem.now in
    let F = x.self.now.facts in
    let start = inner x.self.now in
    let at = c.in-Some-next.at in
    let here = subst (λ (o : Option Point). Progress m Q F x.returned x.exit start o (inner c.loop-next.self)) c.in-Some-next.is c.loop-next.invariant.2 in
    let k = c.loop-next.invariant.0 in
    let site : ReturnSite = record { exit = x.exit; caller = record { at = at; statement = c.in-Some-statement.statement; result = x.returned } } in
    let after = alike (λ (F : ℕ). answers Q F site) F c.loop-next.self.facts (inner c.loop-next.self) (inner c.answer_call.new.self) k.facts c.answer_call.ensures.after in (
      kept_then _ _ _ c.loop-next.invariant.0 c.answer_call.ensures.kept,
      c.in-Some-statement.ensures.recalls,
      at_next m Q F x.returned x.exit start at c.in-Some-statement.statement c.in-Some-statement.ensures.value here.1
          (inner c.loop-next.self) (inner c.answer_call.new.self) here.0 c.requires.stands.number after c.next_caller-next.result c.next_caller-next.ensures,
    )

pub loop-next-smaller : goal.loop-next-smaller
loop-next-smaller g c =
    let x = c.args in
    let m = g.P.Program.meaning x.on.now.program.now in
    let Q = g.Q.Problem.relation x.on.now.problem.now in
    let F = x.self.now.facts in
    let start = inner x.self.now in
    let at = c.in-Some-next.at in
    let here = subst (λ (o : Option Point). Progress m Q F x.returned x.exit start o (inner c.loop-next.self)) c.in-Some-next.is c.loop-next.invariant.2 in
    let f = fewer m Q F x.returned x.exit start at c.in-Some-statement.statement c.in-Some-statement.ensures.value here.1 c.next_caller-next.result c.next_caller-next.ensures in
    subst (λ (o : Option Point). left (size m) c.next_caller-next.result < left (size m) o) (sym c.in-Some-next.is) f

pub returns : goal.returns
returns g c =
    let x = c.args in
    record {
      kept = c.loop-next.invariant.0;
      recalls = c.loop-next.invariant.1;
      after = subst (λ (o : Option Point). Progress (g.P.Program.meaning x.on.now.program.now) (g.Q.Problem.relation x.on.now.problem.now) (x.self.now.facts) x.returned x.exit (inner x.self.now) o (inner c.loop-next.self)) c.in_default-next.is c.loop-next.invariant.2;
    }
