use Rattle.std.proofs.Common.{ℕ, List, ap, ◌∙◌, subst}
use Rattle.page.specs.Writes.{Put, Kept}
use Rattle.records.specs.Faults.{refused_of}
use Rattle.findings.specs.Listed.{told_of}
use Rattle.exports.proofs.Enough.{told_enough}
use Rattle.exports.proofs.on_page.sheet_on.Goals as goal

-- what is told in the room of a sheet
pub returns-in-Ok-write_sheet : goal.returns-in-Ok-write_sheet
returns-in-Ok-write_sheet c =
    let t = c.args.listing.now in
    subst (λ (text : List ℕ). Put text c.args.page.now c.in-Ok-write_sheet.written.count c.write_sheet.new.page)
    (told_enough t _ c.of_sheet-room.result c.in-Ok.ensures.enough ∙ ap (told_of t) c.of_sheet-room.ensures) c.in-Ok-write_sheet.ensures.text.0

pub returns-in-Err : goal.returns-in-Err
returns-in-Err c =
    let t = c.args.listing.now in
    let so = c.in-Err.ensures.text in (
      c.refused.ensures ∙ ap refused_of so.0,
      subst (λ (text : List ℕ). Kept text c.args.page.now c.write_sheet.new.page)
          (told_enough t _ c.of_sheet-room.result c.in-Ok.ensures.enough ∙ ap (told_of t) c.of_sheet-room.ensures) so.1,
    )
