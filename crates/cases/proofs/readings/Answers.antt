use Rattle.std.proofs.Common.{◌∷◌, []}
use Rattle.draft.specs.Rules.{unended, crowded, foreign, astray, missing}
use Rattle.text.specs.Reading.{counted, written, outsized, misformed, unranged, miscounted}
use Rattle.cases.proofs.readings.Goals as goal

pub returns-clause-told : goal.returns-clause-told
unfolding outsized misformed counted written unranged miscounted unended crowded foreign astray missing
returns-clause-told c = cc

pub returns-clause-of : goal.returns-clause-of
returns-clause-of c =
    λ i. c.answer.ensures i ∷ c.answer-2.ensures i ∷ c.answer-3.ensures i ∷ c.answer-4.ensures i ∷ c.answer-5.ensures i ∷ c.answer-6.ensures i ∷ []
