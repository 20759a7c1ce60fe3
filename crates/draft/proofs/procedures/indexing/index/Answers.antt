use Rattle.std.proofs.Common.{◌≡◌, ◌<◌, length, refl, sym, ap, ◌∙◌, arith}
use Rattle.std.specs.List.{slice_get}
use Rattle.std.proofs.lemmas.Bool.{leb-true}
use Rattle.std.proofs.lemmas.List.{length-set}
use Rattle.listing.specs.Meaning.{below, point, proc}
use Rattle.listing.specs.Procedures.{bump, rets, procedure, exit}
use Rattle.listing.specs.declared.numbers.Point.{Point}
use Rattle.draft.specs.Told.{told}
use Rattle.draft.specs.Rules.{has_ret}
use Rattle.draft.proofs.Flows.{procedure_more, procedure_all, exit_here, exit_within, crowded_at, crowded_none}
use Rattle.draft.proofs.Told.{told_none, told_more, below_within}
use Rattle.draft.proofs.procedures.indexing.index.Goals as goal
use Rattle.draft.proofs.procedures.indexing.index.Goals.{then-is_ret+else-from-eq-MOST_PROCEDURES, else-is_ret}

pub loop-n-init : goal.loop-n-init
loop-n-init g c =
    let cs = g.D.Draft.flow c.args.draft.now in
    record {
      points = refl;
      procedures = refl;
      few = omega arith;
      count = refl;
      homes = told_none (λ k. proc (procedure cs k)) 1000;
      exits = told_none (λ p. point (exit cs p)) 60;
    }

pub returns-then-from-eq-MOST_PROCEDURES : goal.returns-then-from-eq-MOST_PROCEDURES
returns-then-from-eq-MOST_PROCEDURES g c =
    crowded_at (g.D.Draft.flow c.args.draft.now) c.loop-n.n
    (sym (c.is_ret.ensures ∙ ap has_ret c.control.ensures) ∙ c.if-is_ret.true)
    (sym c.loop-n.invariant.count ∙ (sym c.from-then-is_ret.ensures ∙ c.if-from-eq-MOST_PROCEDURES.true))

pub loop-n-preserved : goal.loop-n-preserved
loop-n-preserved g c =
    let cs = g.D.Draft.flow c.args.draft.now in
    let n = c.loop-n.n in
    let inv = c.loop-n.invariant in
    let flag : has_ret (slice_get (g.D.Draft.flow c.args.draft.now) c.loop-n.n) ≡ c.is_ret.result = sym (c.is_ret.ensures ∙ ap has_ret c.control.ensures) in
    let more = procedure_more cs n in
    let within : c.loop-n.n < length c.loop-n.homes = omega (arith, leb-true _ _ (g.D.Draft.few c.args.draft.now), c.points-n-end.ensures, inv.points) in
    let homes = told_more (λ k. proc (procedure cs k)) c.loop-n.homes c.from.result n (proc c.loop-n.count) c.from.ensures (ap proc inv.count) within inv.homes in
    elim c.if-is_ret.branch [
      | then-is_ret+else-from-eq-MOST_PROCEDURES w ↦
          let ret = flag ∙ w.if-is_ret.true in
          let here = ap point (sym (exit_here cs n ret) ∙ ap (exit cs) (sym inv.count)) in
          let few : c.loop-n.count < 60 = omega (arith, inv.few, w.from-then-is_ret.ensures, w.if-from-eq-MOST_PROCEDURES.false) in
          let exits = told_more (λ p. point (exit cs p)) c.loop-n.exits w.from-then-is_ret-2.result c.loop-n.count (point n) w.from-then-is_ret-2.ensures here (omega (arith, few, inv.procedures)) inv.exits in
          record {
            points = length-set _ _ _ ∙ inv.points;
            procedures = ap length w.exits-is ∙ (length-set _ _ _ ∙ inv.procedures);
            few = omega (arith, w.count-is);
            count = omega (arith, w.count-is, inv.count, more, ap (λ b. bump b (procedure cs n)) ret);
            homes = homes;
            exits = λ p. ap (λ xs. told xs p) w.exits-is ∙ (exits p ∙ ap (λ m. below p m (point (exit cs p))) (sym w.count-is));
          }
      | else-is_ret w ↦
          record {
            points = length-set _ _ _ ∙ inv.points;
            procedures = ap length w.exits-is ∙ inv.procedures;
            few = omega (arith, w.count-is);
            count = omega (arith, w.count-is, inv.count, more, ap (λ b. bump b (procedure cs n)) (flag ∙ w.if-is_ret.false));
            homes = homes;
            exits = λ p. ap (λ xs. told xs p) w.exits-is ∙ (inv.exits p ∙ ap (λ m. below p m (point (exit cs p))) (sym w.count-is));
          }
    ]

pub invariant_of-result : goal.invariant_of-result
invariant_of-result g c =
    let cs = g.D.Draft.flow c.args.draft.now in
    let inv = c.loop-n.invariant in
    let all = procedure_all cs c.loop-n.n (omega (arith, c.points-n-end.ensures)) in
    record {
      few = inv.few;
      inside = λ p x e.
          let q = below_within p _ _ x (sym (inv.exits p) ∙ e) in
          omega (arith, leb-true _ _ (g.D.Draft.few c.args.draft.now), exit_within cs p (omega (arith, q.0, inv.count, all)), ap (λ (y : Point). y.0) q.1);
    }

pub returns : goal.returns
returns g c =
    let cs = g.D.Draft.flow c.args.draft.now in
    let inv = c.loop-n.invariant in
    let all = procedure_all cs c.loop-n.n (omega (arith, c.points-n-end.ensures)) in
    let count : c.loop-n.count ≡ rets (g.D.Draft.flow c.args.draft.now) = inv.count ∙ all in
    let end : c.loop-n.n ≡ length (g.D.Draft.flow c.args.draft.now) = omega (arith, c.points-n-end.ensures) in (
      record {
        count = count;
        homes = λ n. inv.homes n ∙ ap (λ m. below n m (proc (procedure cs n))) end;
        exits = λ p. inv.exits p ∙ ap (λ m. below p m (point (exit cs p))) count;
      },
      crowded_none cs (omega (arith, count, inv.few)),
    )
