use Rattle.text.specs.Reading.{meaning_of}
use Rattle.exports.proofs.Counting.{of_read, of_counts}
use Rattle.exports.specs.Counted.{Gives, settled_of_unset}
use Rattle.exports.proofs.settling.count_of_unset.Goals as goal

pub returns : goal.returns
returns c =
    let text = c.read.new.self.delivered.bytes.now in
    of_read (λ m. Gives (settled_of_unset m)) c.args.listing.now text c.count.result c.in_default.ensures.reads.0 c.in_default.ensures.reads.1
    (of_counts (meaning_of text) c.of.result.globals c.of.result.locals c.count.result c.of.ensures.globals c.of.ensures.locals c.count.ensures)
