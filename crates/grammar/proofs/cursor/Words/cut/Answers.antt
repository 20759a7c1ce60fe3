use Rattle.std.proofs.Common.{sym, ap, ◌∙◌}
use Rattle.std.proofs.lemmas.List.{take_rest}
use Rattle.grammar.specs.Left.{left_in}
use Rattle.grammar.proofs.Cuts.{words_cut, words_last}
use Rattle.grammar.proofs.cursor.Words.cut.Goals as goal

pub returns-in-Some : goal.returns-in-Some
returns-in-Some c = simp (take_rest) (ap left_in c.in_ok-line.was ∙ words_cut c.in_ok-line.line.now c.in-Some.n (sym c.space.ensures ∙ c.in-Some.is))

pub returns-in-None : goal.returns-in-None
returns-in-None c = ap left_in c.in_ok-line.was ∙ words_last c.in_ok-line.line.now (sym c.space.ensures ∙ c.in-None.is)
