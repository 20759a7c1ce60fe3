use Rattle.std.proofs.Common.{◌≡◌, ℕ, ◌+◌, ◌*◌, ◌-◌, ◌<◌, Bool, sym, ap, ◌∙◌, arith}
use Rattle.flow.specs.Relation.{Rule}
use Rattle.paths.specs.Tabled.{is_found}
use Rattle.table.specs.Settling.{comes_back}
use Rattle.table.specs.State.{inner, block_of}
use Rattle.table.proofs.Coming.{come_idle, still_back, more_back, exit_yes, exit_no}
use Rattle.table.proofs.Kept.{entry_still}
use Rattle.table.proofs.Turns.{next_turn, skip_turns}
use Rattle.table.proofs.state.Core.all_come_back.Goals as goal

pub come_back-requires : goal.come_back-requires
come_back-requires g c =
    let s = c.args.self.now in
    let t = c.loop-z.self in
    let k = c.loop-z.invariant.0.kept in
    let now : ℕ → Bool = λ d. is_found (c.block-exits.result * t.facts + d) (inner t) in
    let yes = exit_yes t.facts _ _ _ _ c.loop-z.next now c.found_in.ensures c.difference.ensures c.from.ensures c.in-Some.z.0 c.in-Some.ensures.in_set in
    let at : c.block-exits.result ≡ block_of t.facts c.args.call.callee.exit.0 c.args.e.0 =
    c.block-exits.ensures.value ∙ ap (λ (f : ℕ). block_of f c.args.call.callee.exit.0 c.args.e.0) (sym k.facts) in
    record {
      entered = entry_still _ _ _ _ k c.requires.entered;
      left = yes.0;
      found = ap (λ (b : ℕ). is_found (b * t.facts + c.in-Some.z.0) (inner t)) (sym at) ∙ yes.1;
    }

pub loop-z-smaller : goal.loop-z-smaller
loop-z-smaller g c =
    let t = c.loop-z.self in
    let u = c.come_back.new.self in
    let z = c.in-Some.z.0 in
    let now : ℕ → Bool = λ d. is_found (c.block-exits.result * t.facts + d) (inner t) in
    let yes = exit_yes t.facts _ _ _ _ c.loop-z.next now c.found_in.ensures c.difference.ensures c.from.ensures z c.in-Some.ensures.in_set in
    let less : u.facts - (z + 1) < t.facts - c.loop-z.next = omega (arith, yes.0, yes.2, c.come_back.ensures.kept.facts) in
    less

pub loop-z-preserved : goal.loop-z-preserved
loop-z-preserved g c =
    let Q : Rule = g.Q.Problem.relation c.args.problem.now in
    let s = c.args.self.now in
    let t = c.loop-z.self in
    let u = c.come_back.new.self in
    let x = c.args.call in
    let e = c.args.e.0 in
    let z = c.in-Some.z.0 in
    let inv = c.loop-z.invariant in
    let first = c.in-Some.ensures in
    let now : ℕ → Bool = λ d. is_found (c.block-exits.result * t.facts + d) (inner t) in
    let at : c.block-exits.result ≡ block_of t.facts x.callee.exit.0 e =
    c.block-exits.ensures.value ∙ ap (λ (f : ℕ). block_of f x.callee.exit.0 e) (sym inv.0.kept.facts) in
    let yes = exit_yes t.facts _ _ _ _ c.loop-z.next now c.found_in.ensures c.difference.ensures c.from.ensures z first.in_set in
    let w = skip_turns (λ (F : ℕ). comes_back Q F x e) s t c.loop-z.next z inv.0 yes.2
    (λ d m l. come_idle Q x e d s.facts t (sym inv.0.kept.facts) (λ y. inv.2 d
    (exit_no t.facts _ _ _ _ c.loop-z.next now c.found_in.ensures c.difference.ensures c.from.ensures d (first.none_before d l) m (omega (arith, yes.0))
    (ap (λ (b : ℕ). is_found (b * t.facts + d) (inner t)) at ∙ y)))) in
    let k = c.come_back.ensures.kept in (
      next_turn (λ (F : ℕ). comes_back Q F x e) s t u z w k c.come_back.ensures.after,
      omega (arith, yes.0, k.facts),
      more_back Q x _ _ _ z u (still_back Q x _ t u k inv.2) c.come_back.ensures.back c.only.ensures c.union-back.ensures,
    )

pub returns : goal.returns
returns g c =
    let Q : Rule = g.Q.Problem.relation c.args.problem.now in
    let s = c.args.self.now in
    let t = c.loop-z.self in
    let x = c.args.call in
    let e = c.args.e.0 in
    let inv = c.loop-z.invariant in
    let none = c.in_default.ensures in
    let now : ℕ → Bool = λ d. is_found (c.block-exits.result * t.facts + d) (inner t) in
    let at : c.block-exits.result ≡ block_of t.facts x.callee.exit.0 e =
    c.block-exits.ensures.value ∙ ap (λ (f : ℕ). block_of f x.callee.exit.0 e) (sym inv.0.kept.facts) in
    let w = skip_turns (λ (F : ℕ). comes_back Q F x e) s t c.loop-z.next s.facts inv.0 (omega (arith, inv.1, inv.0.kept.facts))
    (λ d m l. come_idle Q x e d s.facts t (sym inv.0.kept.facts) (λ y. inv.2 d
    (exit_no t.facts _ _ _ _ c.loop-z.next now c.found_in.ensures c.difference.ensures c.from.ensures d (none d) m (omega (arith, inv.0.kept.facts))
    (ap (λ (b : ℕ). is_found (b * t.facts + d) (inner t)) at ∙ y)))) in
    record { kept = w.kept; after = w.after; back = inv.2 }
