use Rattle.std.proofs.Common.{◌≡◌, ℕ, ◌+◌, ◌-◌, sym, refl, ap, ◌∙◌, arith}
use Rattle.paths.specs.Does.{Handed}
use Rattle.paths.specs.Handing.{handed_by}
use Rattle.paths.specs.Tabled.{work}
use Rattle.table.specs.State.{inner}
use Rattle.table.proofs.Kept.{found_moved, spare_moved}
use Rattle.table.proofs.Works.{one_turn, idle, taken_count, none_taken, none_waits, in_portions}
use Rattle.table.proofs.state.Core.settle_each.Goals as goal

pub loop-done-init : goal.loop-done-init
loop-done-init g c =
    let h : Handed = handed_by g.P.Program g.Q.Problem c.args.on.now in
    let z : c.args.k - 0 ≡ c.args.k = omega arith in (
      ap (λ (j : ℕ). work h.graph h.rule h.points h.facts j c.args.end (inner c.args.self.now)) z,
      omega arith,
      refl,
      refl,
      refl,
      c.requires.recalls,
    )

pub settle-requires : goal.settle-requires
settle-requires g c =
    let inv = c.loop-done.invariant in
    let v = c.take.ensures.moved in
    record {
      recalls = inv.5;
      serves = record { points = v.points ∙ inv.2 ∙ c.requires.serves.points; facts = v.facts ∙ inv.3 ∙ c.requires.serves.facts };
      found = found_moved _ _ _ v c.in-Some.ensures.found;
    }

pub loop-done-preserved : goal.loop-done-preserved
loop-done-preserved g c =
    let h : Handed = handed_by g.P.Program g.Q.Problem c.args.on.now in
    let inv = c.loop-done.invariant in
    let t = inner c.loop-done.self in
    let u = inner c.take.new.self in
    let v = c.take.ensures.moved in
    let kept = c.settle.ensures.kept in
    let value = c.in-Some.ensures.value in
    let count = taken_count h.graph h.rule h.points h.facts c.args.end c.in-Some.cell t u value c.take.ensures.after in (
      one_turn h.graph h.rule h.points h.facts c.args.end c.args.k c.loop-done.done c.in-Some.cell t u (inner c.settle.new.self) _
          c.loop-done-test.true value c.take.ensures.after c.settle.ensures.after inv.0,
      omega (arith, kept.settled, count, inv.1),
      kept.points ∙ v.points ∙ inv.2,
      kept.facts ∙ v.facts ∙ inv.3,
      kept.spare ∙ spare_moved _ _ v ∙ inv.4,
      c.settle.ensures.recalls,
    )

pub returns-in_default : goal.returns-in_default
returns-in_default g c =
    let h : Handed = handed_by g.P.Program g.Q.Problem c.args.on.now in
    let inv = c.loop-done.invariant in
    let t = inner c.loop-done.self in
    let value = c.in_default.ensures.value in
    let same = none_taken h.graph h.rule h.points h.facts c.args.end t (inner c.take.new.self) value c.take.ensures.after in
    let after = same ∙ sym (idle h.graph h.rule h.points h.facts c.args.end (c.args.k - c.loop-done.done) t value) ∙ inv.0 in
    let count : (inner c.take.new.self).settled ≡ (inner c.args.self.now).settled + c.loop-done.done = ap (λ x. x.settled) same ∙ inv.1 in
    record {
      count = omega arith;
      after = after;
      counts = record { points = c.take.ensures.moved.points ∙ inv.2; facts = c.take.ensures.moved.facts ∙ inv.3 };
      stops = record {
        most = omega (arith, c.loop-done-test.true);
        none_left = λ _. ap (λ x. x.waiting) same ∙ none_waits h.graph h.rule h.points h.facts c.args.end t value;
      };
      portions = in_portions h c.args.end c.args.k (inner c.args.self.now) _ after;
      spare = spare_moved _ _ c.take.ensures.moved ∙ inv.4;
    }

pub returns : goal.returns
returns g c =
    let h : Handed = handed_by g.P.Program g.Q.Problem c.args.on.now in
    let inv = c.loop-done.invariant in
    let z : c.args.k - c.loop-done.done ≡ 0 = omega (arith, c.loop-done-test.false) in
    let after = sym (ap (λ (j : ℕ). work h.graph h.rule h.points h.facts j c.args.end (inner c.loop-done.self)) z) ∙ inv.0 in
    record {
      count = omega (arith, inv.1, c.loop-done-test.false, c.loop-done.auto.done-end);
      after = after;
      counts = record { points = inv.2; facts = inv.3 };
      stops = record { most = omega arith; none_left = λ l. absurd (omega arith) };
      portions = in_portions h c.args.end c.args.k (inner c.args.self.now) _ after;
      spare = inv.4;
    }
