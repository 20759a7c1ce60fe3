use Rattle.std.proofs.Common.{ℕ, ◌+◌, ◌-◌, ◌<◌, sym, ◌∙◌, arith}
use Rattle.flow.specs.Relation.{Rule}
use Rattle.table.specs.Settling.{enters, enters_at}
use Rattle.table.specs.State.{inner}
use Rattle.table.proofs.Coming.{enter_idle, entry_yes, entry_no}
use Rattle.table.proofs.Kept.{call_still}
use Rattle.table.proofs.Sets.{Cut, cut_is}
use Rattle.table.proofs.Turns.{no_turn, next_turn, skip_turns, taken_yes}
use Rattle.table.proofs.state.Core.enter_callee.Goals as goal

pub loop-e-init : goal.loop-e-init
loop-e-init g c = (no_turn _ _, omega arith, c.back_already-back.ensures (g.Q.Problem.relation c.args.problem.now))

pub enter_at-back-requires : goal.enter_at-back-requires
enter_at-back-requires g c =
    let s = c.args.self.now in
    let k = c.loop-e.invariant.0.kept in
    let cut : Cut s.facts c.targets.result c.intersection-entries.result = cut_is s.facts _ _ _ c.below.ensures c.intersection-entries.ensures in
    let yes = entry_yes s.facts s.few_facts _ _ _ c.loop-e.next cut c.from.ensures c.in-Some.e.0 c.in-Some.ensures.in_set in
    record {
      entered = record { call = call_still _ _ _ k c.requires; fact = omega (arith, k.facts, yes.1) };
      back = c.loop-e.invariant.2;
    }

pub loop-e-smaller : goal.loop-e-smaller
loop-e-smaller g c =
    let s = c.args.self.now in
    let t = c.loop-e.self in
    let u = c.enter_at-back.new.self in
    let e = c.in-Some.e.0 in
    let cut : Cut s.facts c.targets.result c.intersection-entries.result = cut_is s.facts _ _ _ c.below.ensures c.intersection-entries.ensures in
    let yes = entry_yes s.facts s.few_facts _ _ _ c.loop-e.next cut c.from.ensures e c.in-Some.ensures.in_set in
    let less : u.facts - (e + 1) < t.facts - c.loop-e.next = omega (arith, yes.1, yes.2, c.enter_at-back.ensures.kept.facts, c.loop-e.invariant.0.kept.facts) in
    less

pub loop-e-preserved : goal.loop-e-preserved
loop-e-preserved g c =
    let Q : Rule = g.Q.Problem.relation c.args.problem.now in
    let s = c.args.self.now in
    let t = c.loop-e.self in
    let u = c.enter_at-back.new.self in
    let x = c.args.call in
    let e = c.in-Some.e.0 in
    let inv = c.loop-e.invariant in
    let first = c.in-Some.ensures in
    let cut : Cut s.facts c.targets.result c.intersection-entries.result = cut_is s.facts _ _ _ c.below.ensures c.intersection-entries.ensures in
    let yes = entry_yes s.facts s.few_facts _ _ _ c.loop-e.next cut c.from.ensures e first.in_set in
    let w = skip_turns (λ (F : ℕ). enters Q F x) s t c.loop-e.next e inv.0 yes.2
    (λ d m l. enter_idle Q s.facts x d (inner t) (sym (c.targets.ensures d) ∙ entry_no s.facts s.few_facts _ _ _ c.loop-e.next cut c.from.ensures d (first.none_before d l) m (omega (arith, yes.1)))) in
    let k = c.enter_at-back.ensures.kept in (
      next_turn (λ (F : ℕ). enters Q F x) s t u e w k
          (taken_yes _ (enters_at Q t.facts x e) (inner t) (inner u) (sym (sym (c.targets.ensures e) ∙ yes.0)) c.enter_at-back.ensures.after),
      omega (arith, yes.1, k.facts, inv.0.kept.facts),
      c.enter_at-back.ensures.back,
    )

pub returns-clause-after : goal.returns-clause-after
returns-clause-after g c =
    let Q : Rule = g.Q.Problem.relation c.args.problem.now in
    let s = c.args.self.now in
    let t = c.loop-e.self in
    let x = c.args.call in
    let inv = c.loop-e.invariant in
    let none = c.in_default.ensures in
    let cut : Cut s.facts c.targets.result c.intersection-entries.result = cut_is s.facts _ _ _ c.below.ensures c.intersection-entries.ensures in
    let w = skip_turns (λ (F : ℕ). enters Q F x) s t c.loop-e.next s.facts inv.0 (omega (arith, inv.1, inv.0.kept.facts))
    (λ d m l. enter_idle Q s.facts x d (inner t) (sym (c.targets.ensures d) ∙ entry_no s.facts s.few_facts _ _ _ c.loop-e.next cut c.from.ensures d (none d) m l)) in
    w.after
