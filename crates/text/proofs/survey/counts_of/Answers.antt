use Rattle.std.proofs.Common.{◌≡◌, sym, ap, ◌∙◌, rules}
use Rattle.text.specs.Reading.{counted, head, or_zero}
use Rattle.text.proofs.survey.counts_of.Goals as goal

pub returns : goal.returns
unfolding counted
returns c =
    let told : c.unwrap_or_default.result ≡ or_zero c.header_of.result = search rules in
    told ∙ sym (ap head c.line_at.ensures ∙ ap or_zero (sym c.header_of.ensures.value))
