use Rattle.std.proofs.Common.{ℕ, ◌+◌, ◌*◌, Bool, sym, ap, ◌∙◌}
use Rattle.paths.specs.Tabled.{is_found}
use Rattle.table.specs.State.{inner}
use Rattle.table.proofs.Sets.{full, nothing}
use Rattle.table.proofs.state.Core.back_already.Goals as goal

pub returns-else-is_some : goal.returns-else-is_some
returns-else-is_some c Q z h e l y =
    let t = c.args.self.now in
    let none = nothing c.difference.result c.first.result c.first.ensures (sym c.is_some.ensures ∙ c.if-is_some.false) e in
    let now : ℕ → Bool = λ d. is_found (c.block-next.result * t.facts + d) (inner t) in
    ap (λ (b : ℕ). is_found (b * t.facts + e) (inner t)) (sym c.block-next.ensures.value)
    ∙ full t.facts t.few_facts _ _ _ now c.below-all.ensures c.found_in.ensures c.difference.ensures e none l
