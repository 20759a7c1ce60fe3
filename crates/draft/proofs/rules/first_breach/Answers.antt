use Rattle.std.proofs.Common.{rules}
use Rattle.std.proofs.lemmas.Iterator.{first_from_Range}
use Rattle.draft.proofs.Failing.{Passes, Fails, first_is}
use Rattle.draft.proofs.rules.first_breach.Goals as goal

pub returns : goal.returns
returns g c rule judges =
    let cs = g.D.Draft.flow c.args.draft.now in
    let first = first_from_Range _ _ _ c.find.result (Fails rule cs) (Passes rule cs) c.find.ensures.ran (λ x q h. search rules) (λ x q h. (search rules, λ y e. search rules)) in
    let found = first_is rule cs c.points.result c.find.result c.points.ensures first in
    search rules
