use Rattle.std.proofs.Common.{◌≡◌, ◌≤◌, ℕ, subst, ⊎_elim, arith}
use Rattle.std.proofs.lemmas.Bool.{cases_lt}
use Rattle.paths.specs.Does.{Handed}
use Rattle.paths.specs.Handing.{handed_by}
use Rattle.paths.specs.Tabled.{work}
use Rattle.table.specs.State.{inner}
use Rattle.table.proofs.Works.{few_all, in_portions}
use Rattle.table.proofs.state.Core.settle_some.Goals as goal

-- either none waits after the first, or they are all that were asked for
pub returns-then-first-lt-SETTLED_FIRST-clause-after : goal.returns-then-first-lt-SETTLED_FIRST-clause-after
returns-then-first-lt-SETTLED_FIRST-clause-after g c =
    let h : Handed = handed_by g.P.Program g.Q.Problem c.args.on.now in
    let t = inner c.args.self.now in
    let u = inner c.settle_each-first.new.self in
    let e = c.settle_each-first.ensures in
    let few : c.min.result ≤ c.args.k = omega (arith, c.min.ensures) in
    ⊎_elim
    (λ l. few_all h c.args.end c.args.k c.min.result t u few e.portions (e.stops.none_left l))
    (λ l. let all : c.min.result ≡ c.args.k =
    ⊎_elim (λ a. omega (arith, l, a, c.min.ensures)) (λ b. omega (arith, l, b.1, e.stops.most, c.min.ensures)) c.then-first-lt-SETTLED_FIRST.either in
    subst (λ (n : ℕ). u ≡ work h.graph h.rule h.points h.facts n c.args.end t) all e.after)
    (cases_lt c.settle_each-first.result c.min.result)

pub returns-then-first-lt-SETTLED_FIRST-clause-portions : goal.returns-then-first-lt-SETTLED_FIRST-clause-portions
returns-then-first-lt-SETTLED_FIRST-clause-portions g c =
    in_portions (handed_by g.P.Program g.Q.Problem c.args.on.now) c.args.end c.args.k (inner c.args.self.now) _
    (returns-then-first-lt-SETTLED_FIRST-clause-after g c)
