use Rattle.std.proofs.Common.{ap}
use Rattle.text.proofs.Taken.{taken, reads_same}
use Rattle.text.proofs.input.take_listing.Goals as goal

pub returns-clause-bytes : goal.returns-clause-bytes
returns-clause-bytes g c =
    taken (g.R.Read.remaining c.args.reader) _ c.take.result.limit c.read_to_end.new.buf.items c.new-bytes.result.items
    c.in_ok-read_to_end.ensures.bytes (ap g.R.Read.remaining c.take.ensures.inner) c.take.ensures.limit c.new-bytes.ensures.items

pub returns-clause-same : goal.returns-clause-same
returns-clause-same g c = reads_same (g.R.Read.remaining c.args.reader) c.read_to_end.new.buf.items (returns-clause-bytes g c)
