use Rattle.std.proofs.Common.{◌≡◌, ◌&&◌, nat_lt, subst, ℕ, arith}
use Rattle.fact_set.specs.Sets.{has}
use Rattle.flow.proofs.Gathered.{gathered}
use Rattle.flow.proofs.gathering.facts_where.Goals as goal

pub loop-d-preserved : goal.loop-d-preserved
loop-d-preserved g c holds agrees k =
    let next = gathered holds c.loop-d.d k (omega arith) in
    let before = c.loop-d.invariant holds agrees k in
    let added = c.only_if.ensures k in
    let both = c.union-facts.ensures k in
    let is = agrees (record { 0 = c.loop-d.d }) c.test.result c.test.ensures in
    cc

pub returns : goal.returns
returns g c holds agrees e =
    let all : c.loop-d.d ≡ c.args.count = omega arith in
    subst (λ (n : ℕ). has c.loop-d.facts e ≡ (nat_lt e n && holds e)) all (c.loop-d.invariant holds agrees e)
