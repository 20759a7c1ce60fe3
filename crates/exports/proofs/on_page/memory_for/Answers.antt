use Rattle.text.specs.Reading.{meaning_of}
use Rattle.exports.proofs.Enough.{on_err}
use Rattle.exports.proofs.on_page.memory_for.Goals as goal

pub returns-in-Ok-clause-wanting : goal.returns-in-Ok-clause-wanting
returns-in-Ok-clause-wanting c = on_err c.blanks.result _ (meaning_of c.args.listing.now, c.in-Ok.ensures.reads.0)
