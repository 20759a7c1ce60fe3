use Rattle.given_problem.specs.Given.{fits}
use Rattle.given_problem.specs.Rows.{rows_of}
use Rattle.text.specs.Reading.{meaning_of}
use Rattle.exports.proofs.Counting.{of_read, where_fits}
use Rattle.exports.specs.Counted.{Gives, WhereFits, settled_by_rows}
use Rattle.exports.proofs.settling.count_of_all.Goals as goal

pub returns-in-Ok : goal.returns-in-Ok
returns-in-Ok c =
    let given = c.args.relation.now in
    let f = c.args.facts in
    let text = c.read.new.self.delivered.bytes.now in
    let made = c.in-Ok.ensures in
    of_read (λ m. WhereFits (fits m given f) (Gives (settled_by_rows m (rows_of given) f))) c.args.listing.now text c.count.result c.in_default.ensures.reads.0 c.in_default.ensures.reads.1
    (where_fits (meaning_of text) given c.in-Ok.problem.rows.items f c.in-Ok.problem.facts c.count.result made.rows made.facts made.fitting c.count.ensures)
