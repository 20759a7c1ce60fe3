use Rattle.std.proofs.Common.{◌≡◌, ap, ◌∙◌}
use Rattle.grammar.specs.Words.{words}
use Rattle.grammar.specs.Grammar.{then, cells, header}
use Rattle.grammar.proofs.Spelt.{header_spelt}
use Rattle.grammar.proofs.line.header_of.Goals as goal

pub returns-in_err-body_of : goal.returns-in_err-body_of
returns-in_err-body_of c =
    let v : c.from_residual.result ≡ header c.args.line.now = c.from_residual.ensures ∙ ap (λ o. then o (λ b. cells (words b))) c.in_err-body_of.ensures in
    record { value = v; spelt = header_spelt c.args.line.now c.from_residual.result v }

pub returns : goal.returns
returns c =
    let v : c.header_in.result ≡ header c.args.line.now = c.header_in.ensures ∙ ap (λ o. then o (λ b. cells (words b))) c.in_ok-body_of.ensures in
    record { value = v; spelt = header_spelt c.args.line.now c.header_in.result v }
