use Rattle.std.proofs.Common.{◌≡◌, ◌-◌, length, Some, sym, ap, ◌∙◌, arith}
use Rattle.std.specs.List.{slice_get}
use Rattle.std.proofs.lemmas.Bool.{cond-true, cond-false}
use Rattle.draft.specs.Rules.{unended, has_ret}
use Rattle.draft.proofs.Flows.{ends_last}
use Rattle.draft.proofs.examine.no_last_ret.Goals as goal

pub returns-then-is_ret : goal.returns-then-is_ret
unfolding unended
returns-then-is_ret g c =
    let cs = g.D.Draft.flow c.args.draft.now in
    let last : c.saturating_sub.result ≡ length (g.D.Draft.flow c.args.draft.now) - 1 = omega (arith, c.points.ensures) in
    let there = ap has_ret (c.control.ensures ∙ ap (slice_get cs) last) in
    sym (cond-true _ _ _ (ends_last cs ∙ (sym there ∙ sym c.if-is_ret.ensures)))

pub returns-else-is_ret : goal.returns-else-is_ret
unfolding unended
returns-else-is_ret g c =
    let cs = g.D.Draft.flow c.args.draft.now in
    let last : c.saturating_sub.result ≡ length (g.D.Draft.flow c.args.draft.now) - 1 = omega (arith, c.points.ensures) in
    let there = ap has_ret (c.control.ensures ∙ ap (slice_get cs) last) in
    sym (cond-false _ _ _ (ends_last cs ∙ (sym there ∙ sym c.if-is_ret.ensures)) ∙ ap Some (sym last))
