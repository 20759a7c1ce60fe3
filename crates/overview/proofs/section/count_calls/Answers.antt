use Rattle.std.proofs.Common.{◌≡◌, ◌-◌, length, rules, tests, refl, ◌∙◌}
use Rattle.std.specs.List.{slice_get, filter, range_with_len}
use Rattle.std.proofs.lemmas.Iterator.{YieldsList-from_range}
use Rattle.std.proofs.lemmas.Iterator.Consumers.{YieldsList-from_filter, YieldsList-at, count_from_yields_List}
use Rattle.overview.specs.Outlined.{calls_at}
use Rattle.overview.proofs.Sections.{calls_counted}
use Rattle.overview.proofs.section.count_calls.Goals as goal

pub returns : goal.returns
returns g c =
    let m = g.P.Program.meaning c.args.program.now in
    let n = c.args.points.start in
    let k = c.args.points.end - n in
    let counted : c.count.result ≡ length (filter (λ i. calls_at (slice_get m.statements i)) (range_with_len n k)) =
    count_from_yields_List c.filter.result _ c.count.ensures.ran
    (YieldsList-from_filter _ (λ i. calls_at (slice_get m.statements i)) (YieldsList-at c.filter.ensures.source (YieldsList-from_range n c.args.points.end k refl refl)) c.filter.ensures.closure (λ x b q d. search (rules, tests))) in
    counted ∙ calls_counted m n k
