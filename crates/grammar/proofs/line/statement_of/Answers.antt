use Rattle.std.proofs.Common.{◌≡◌, ap, ◌∙◌}
use Rattle.grammar.specs.Words.{words}
use Rattle.grammar.specs.Grammar.{then, spelled, statement}
use Rattle.grammar.proofs.Spelt.{statement_spelt}
use Rattle.grammar.proofs.line.statement_of.Goals as goal

pub returns-in_err-body_of : goal.returns-in_err-body_of
returns-in_err-body_of c =
    let v : c.from_residual.result ≡ statement c.args.line.now = c.from_residual.ensures ∙ ap (λ o. then o (λ b. spelled (words b))) c.in_err-body_of.ensures in
    record { value = v; spelt = statement_spelt c.args.line.now c.from_residual.result v }

pub returns : goal.returns
returns c =
    let v : c.statement_in.result ≡ statement c.args.line.now = c.statement_in.ensures ∙ ap (λ o. then o (λ b. spelled (words b))) c.in_ok-body_of.ensures in
    record { value = v; spelt = statement_spelt c.args.line.now c.statement_in.result v }
