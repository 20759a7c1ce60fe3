use Rattle.std.proofs.Common.{◌≡◌, ℕ, ◌+◌, ◌*◌, ◌<◌, Bool, true, sym, ap, ◌∙◌, inl, inr, arith}
use Rattle.std.proofs.lemmas.Bool.{cases_eq}
use Rattle.fact_set.specs.Sets.{has}
use Rattle.paths.specs.Tabled.{is_found}
use Rattle.table.specs.State.{inner, block_of}
use Rattle.table.proofs.Sets.{cut_is, diff_no, nothing}
use Rattle.table.proofs.state.Core.has_all.Goals as goal

pub loop-b-init : goal.loop-b-init
loop-b-init c = (cut_is c.args.self.now.facts _ _ _ c.below.ensures c.intersection-facts.ensures, λ b l. absurd (omega arith))

pub loop-b-preserved : goal.loop-b-preserved
loop-b-preserved c =
    let t = c.args.self.now in
    let F = t.facts in
    let y = c.args.facts in
    let inv = c.loop-b.invariant in
    let none = nothing c.difference.result c.first.result c.first.ensures (sym c.is_some.ensures ∙ c.if-is_some.false) in
    let at : c.block.result ≡ block_of F c.args.point.0 c.loop-b.b = c.block.ensures.value in
    let now : ℕ → Bool = λ e. is_found (c.block.result * F + e) (inner t) in
    let here : (e : ℕ) → e < F → has y e ≡ true → now e ≡ true =
    λ e l h. diff_no F t.few_facts y _ _ _ now inv.0 c.found_in-found.ensures c.difference.ensures e (none e) l h in (
      inv.0,
      λ b l e k h. elim (cases_eq b c.loop-b.b) [
        | inl q ↦ ap (λ (j : ℕ). is_found (block_of F c.args.point.0 j * F + e) (inner t)) q ∙ ap (λ (j : ℕ). is_found (j * F + e) (inner t)) (sym at) ∙ here e k h
        | inr o ↦ inv.1 b (omega arith) e k h
      ],
    )

pub returns : goal.returns
returns c = λ _ b l. c.loop-b.invariant.1 b (omega (arith, c.loop-b-test.false))
