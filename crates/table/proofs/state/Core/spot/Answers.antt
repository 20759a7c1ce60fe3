use Rattle.std.proofs.Common.{◌≡◌, ℕ, ◌/◌, ◌<◌, sym, ap, subst, arith}
use Rattle.paths.specs.Tabled.{cell_at}
use Rattle.table.specs.declared.state.Core.{Core}
use Rattle.table.proofs.Numbers.{some_facts, point_below, rest_below}
use Rattle.table.proofs.state.Core.spot.Goals as goal

some_here : (t : Core) → 0 < t.facts
some_here t = some_facts t.points t.facts (omega (arith, t.product, t.some))

point_here : (t : Core) (c f : ℕ) → c < t.size → f ≡ t.facts → c / f / f < t.points
point_here t c f h e =
    subst (λ (x : ℕ). c / x / x < t.points) (sym e) (point_below t.points t.facts c (some_here t) (omega (arith, t.product)))

pub overflow_cast-result : goal.overflow_cast-result
overflow_cast-result c =
    let t = c.args.self.now in
    omega (arith, point_here t c.args.cell c.from-facts.result c.requires c.from-facts.ensures, t.few_points)

pub returns : goal.returns
returns c =
    let t = c.args.self.now in
    let e = c.from-facts.ensures in
    let f = c.from-facts.result in
    let some : 0 < f = omega (arith, some_here t) in
    record {
      value = ap (λ (x : ℕ). cell_at x c.args.cell) e;
      inside = record {
        point = point_here t c.args.cell f c.requires e;
        origin = omega (arith, rest_below (c.args.cell / f) f some);
        fact = omega (arith, rest_below c.args.cell f some);
      };
    }
