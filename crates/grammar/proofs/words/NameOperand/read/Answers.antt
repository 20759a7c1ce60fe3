use Rattle.std.proofs.Common.{get_or, sym, ap, ◌∙◌, arith, rules}
use Rattle.std.specs.Option.{option_map}
use Rattle.std.proofs.lemmas.Bool.{cond-true, cond-false, eq-eqb, ne_eqb}
use Rattle.grammar.specs.declared.name.Name.TheVariants.{Global, Local}
use Rattle.grammar.proofs.Cuts.{name_at, name_none}
use Rattle.grammar.proofs.words.NameOperand.read.Goals as goal

pub returns-in_err-number : goal.returns-in_err-number
returns-in_err-number c = c.from_residual.ensures ∙ name_none c.args.word.now (search rules) c.in_err-number.ensures

pub returns-in-g : goal.returns-in-g
returns-in-g c =
    ap (option_map Global) c.in_ok-number.ensures
    ∙ sym (name_at c.args.word.now (search rules) ∙ cond-true _ _ _ (eq-eqb _ _ (sym c.from.ensures ∙ c.in-g.is)))

pub returns-in-l : goal.returns-in-l
returns-in-l c =
    ap (option_map Local) c.in_ok-number.ensures
    ∙ sym (name_at c.args.word.now (search rules) ∙ (cond-false _ _ _ (ne_eqb (get_or c.args.word.now 0 0) 103 (λ e. omega (arith, c.from.ensures, c.in-l.is))) ∙ cond-true _ _ _ (eq-eqb _ _ (sym c.from.ensures ∙ c.in-l.is))))
