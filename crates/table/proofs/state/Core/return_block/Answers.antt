use Rattle.std.proofs.Common.{◌≡◌, ℕ, ◌+◌, ◌*◌, ◌<◌, sym, ap, ◌∙◌, arith}
use Rattle.fact_set.specs.Sets.{has}
use Rattle.paths.specs.Machine.{both}
use Rattle.paths.specs.Tabled.{is_found}
use Rattle.table.specs.Settling.{finds}
use Rattle.table.specs.State.{inner, block_of}
use Rattle.table.specs.declared.sites.Lead.TheVariants as lead
use Rattle.table.proofs.Returning.{is_of, source_below, is_source, source_is, no_source, one_source}
use Rattle.table.proofs.state.Core.return_block.Goals as goal

pub returns-in_default-clause-after : goal.returns-in_default-clause-after
returns-in_default-clause-after c =
    let t = c.args.self.now in
    let F = t.facts in
    let x = c.args.from in
    let b = c.args.b.0 in
    let s = c.args.site in
    no_source F x c.args.with s b (inner t) (λ f l.
    sym (ap (λ (k : ℕ). both (is_found (k * F + f) (inner t)) (has x f)) c.block-calls.ensures.value)
    ∙ sym (source_is F c.block-calls.result f _ x _ (inner t) l (c.found_in.ensures f) (c.intersection.ensures f))
    ∙ c.in_default.ensures f)

pub find_each-requires-clause-led : goal.find_each-requires-clause-led
find_each-requires-clause-led c =
    let t = c.args.self.now in
    let F = t.facts in
    let f = c.in-Some.f.0 in
    let first = c.in-Some.ensures in
    let l = source_below F f _ _ c.args.from _ (c.found_in.ensures f) (c.intersection.ensures f) first.in_set in
    let y = is_source F c.block-calls.result f _ c.args.from _ (inner t) (c.found_in.ensures f) (c.intersection.ensures f) first.in_set in (
      is_of t c.cell.result (c.cell.ensures.within l) (ap (λ (k : ℕ). is_found k (inner t)) c.cell.ensures.value ∙ y),
      c.requires.stands.exit.found,
    )

pub returns-clause-after : goal.returns-clause-after
returns-clause-after c =
    let t = c.args.self.now in
    let u = c.find_each.new.self in
    let F = t.facts in
    let x = c.args.from in
    let y = c.args.with in
    let b = c.args.b.0 in
    let s = c.args.site in
    let f = c.in-Some.f.0 in
    let first = c.in-Some.ensures in
    let at : c.block-calls.result ≡ block_of F s.caller.at.0 b = c.block-calls.ensures.value in
    let next : c.block.result ≡ block_of F (s.caller.at.0 + 1) b = c.block.ensures.value in
    let l = source_below F f _ _ x _ (c.found_in.ensures f) (c.intersection.ensures f) first.in_set in
    let told : (g : ℕ) → g < F → both (is_found (block_of F s.caller.at.0 b * F + g) (inner t)) (has x g) ≡ has c.intersection.result g =
    λ g m. sym (ap (λ (k : ℕ). both (is_found (k * F + g) (inner t)) (has x g)) at)
    ∙ sym (source_is F c.block-calls.result g _ x _ (inner t) m (c.found_in.ensures g) (c.intersection.ensures g)) in
    let number : c.cell.result ≡ block_of F s.caller.at.0 b * F + f = c.cell.ensures.value ∙ ap (λ (k : ℕ). k * F + f) at in
    one_source F x y s b (inner t) f l (λ g m. told g (omega arith) ∙ first.none_before g m) (told f l ∙ first.in_set) (inner u)
    (c.find_each.ensures.after ∙ ap (λ (k : ℕ). finds F y (lead.Return k s.exit.cell) c.block.result (inner t)) number
    ∙ ap (λ (k : ℕ). finds F y (lead.Return (block_of F s.caller.at.0 b * F + f) s.exit.cell) k (inner t)) next)
    (λ e m h.
    let kf = c.find_each.ensures.kept.facts in
    ap (λ (k : ℕ). is_found (k * F + e) (inner u)) (sym next) ∙ ap (λ (g : ℕ). is_found (c.block.result * g + e) (inner u)) (sym kf)
    ∙ c.find_each.ensures.all e (omega arith) h)
