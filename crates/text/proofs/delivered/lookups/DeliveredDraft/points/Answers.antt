use Rattle.std.proofs.Common.{sym, ◌∙◌}
use Rattle.std.proofs.lemmas.List.{length-map}
use Rattle.text.proofs.delivered.lookups.DeliveredDraft.points.Goals as goal

pub returns : goal.returns
returns c = c.args.self.now.counts ∙ sym (length-map _ _)
