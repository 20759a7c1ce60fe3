use Rattle.review.proofs.told.review_under.Goals as goal

pub returns-in-Unset : goal.returns-in-Unset
returns-in-Unset g c = rw (c.in-Unset.is, ← c.of-counts.ensures.globals, ← c.of-counts.ensures.locals) c.review.ensures

pub returns-in-Raw : goal.returns-in-Raw
returns-in-Raw g c = rw (c.in-Raw.is, ← c.of-counts.ensures.globals, ← c.of-counts.ensures.locals) c.review-in-Raw.ensures
