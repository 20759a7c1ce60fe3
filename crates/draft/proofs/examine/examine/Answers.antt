use Rattle.std.proofs.Common.{◌≡◌, None, sym, ◌∙◌, rules}
use Rattle.std.specs.Option.{option_map}
use Rattle.std.proofs.lemmas.Result.{err_from_is_err_and}
use Rattle.listing.proofs.Lists.{nth_within}
use Rattle.listing.specs.declared.numbers.Point.{Point}
use Rattle.draft.specs.declared.question.Question.TheVariants as question
use Rattle.draft.specs.Index.{Describes}
use Rattle.draft.specs.Rules.{foreign, astray, missing, breach, or_else}
use Rattle.draft.proofs.Verdicts.{asked_yes, asked_no, asked_none, at_cells, mapped_ok}
use Rattle.draft.proofs.examine.examine.Given as given
use Rattle.draft.proofs.examine.examine.Goals as goal
use Rattle.draft.proofs.examine.examine.Goals.{After-first_breach, After-first_breach-2, After-first_breach-3}

module _ (g : given.Over) where
  -- an index was found
  described : (c : After-first_breach g) → Describes c.in_ok-procedures.procedures (g.D.Draft.flow c.args.draft.now)
  described c = (mapped_ok _ c.index.result c.in_ok-procedures.procedures _ _ c.in_ok-procedures.ensures.cases c.index.ensures).0

  -- what the other three questions find
  cells : (c : After-first_breach g) → option_map (λ (n : Point). n.0) c.first_breach.result ≡ foreign (g.D.Draft.flow c.args.draft.now) (g.D.Draft.owned c.args.draft.now)
  unfolding foreign
  cells c = c.first_breach.ensures _ (λ n k kept at answers. search rules)

  jumps : (c : After-first_breach-2 g) → Describes c.in_ok-procedures.procedures (g.D.Draft.flow c.args.draft.now) → option_map (λ (n : Point). n.0) c.first_breach-2.result ≡ astray (g.D.Draft.flow c.args.draft.now)
  unfolding astray
  jumps c d = c.first_breach-2.ensures _ (λ n k kept at answers. let within = nth_within _ n.0 k at in search rules)

  callees : (c : After-first_breach-3 g) → Describes c.in_ok-procedures.procedures (g.D.Draft.flow c.args.draft.now) → option_map (λ (n : Point). n.0) c.first_breach-3.result ≡ missing (g.D.Draft.flow c.args.draft.now)
  unfolding missing
  callees c d = c.first_breach-3.ensures _ (λ n k kept at answers. search rules)

  -- the first two are answered yes
  from_cells : (c : After-first_breach g) → breach (g.D.Draft.flow c.args.draft.now) (g.D.Draft.owned c.args.draft.now) ≡ or_else question.Cells (foreign (g.D.Draft.flow c.args.draft.now) (g.D.Draft.owned c.args.draft.now)) (or_else question.Jumps (astray (g.D.Draft.flow c.args.draft.now)) (or_else question.Callees (missing (g.D.Draft.flow c.args.draft.now)) None))
  from_cells c =
      at_cells (g.D.Draft.flow c.args.draft.now) _
      (sym c.no_last_ret.ensures ∙ asked_none question.End _ (sym c.in_ok-answer.ensures))
      (mapped_ok _ c.index.result c.in_ok-procedures.procedures _ _ c.in_ok-procedures.ensures.cases c.index.ensures).1

pub returns-in_err-answer-2 : goal.returns-in_err-answer-2
returns-in_err-answer-2 g c =
    let p = err_from_is_err_and c.from_residual-in_err-answer-2.result c.from_residual-in_err-answer-2.ensures.1 in
    let first = (goal.at.returns-in_err-answer-2 g c).After-first_breach in
    rw (p.1, p.2) (from_cells g first ∙ asked_no question.Cells _ _ _ _ (sym c.in_err-answer-2.ensures) (cells g first))

pub returns-in_err-answer-3 : goal.returns-in_err-answer-3
returns-in_err-answer-3 g c =
    let p = err_from_is_err_and c.from_residual-in_err-answer-3.result c.from_residual-in_err-answer-3.ensures.1 in
    let at = goal.at.returns-in_err-answer-3 g c in
    let d = described g at.After-first_breach in
    rw (p.1, p.2)
    (from_cells g at.After-first_breach
    ∙ (asked_yes question.Cells _ _ _ (sym c.in_ok-answer-2.ensures) (cells g at.After-first_breach)
    ∙ asked_no question.Jumps _ _ _ _ (sym c.in_err-answer-3.ensures) (jumps g at.After-first_breach-2 d)))

pub returns-in_err-answer-4 : goal.returns-in_err-answer-4
returns-in_err-answer-4 g c =
    let p = err_from_is_err_and c.from_residual-in_err-answer-4.result c.from_residual-in_err-answer-4.ensures.1 in
    let at = goal.at.returns-in_err-answer-4 g c in
    let d = described g at.After-first_breach in
    rw (p.1, p.2)
    (from_cells g at.After-first_breach
    ∙ (asked_yes question.Cells _ _ _ (sym c.in_ok-answer-2.ensures) (cells g at.After-first_breach)
    ∙ (asked_yes question.Jumps _ _ _ (sym c.in_ok-answer-3.ensures) (jumps g at.After-first_breach-2 d)
    ∙ asked_no question.Callees _ _ _ _ (sym c.in_err-answer-4.ensures) (callees g at.After-first_breach-3 d))))

pub returns : goal.returns
returns g c =
    let at = goal.at.returns g c in
    let d = described g at.After-first_breach in (
      d,
      from_cells g at.After-first_breach
          ∙ (asked_yes question.Cells _ _ _ (sym c.in_ok-answer-2.ensures) (cells g at.After-first_breach)
          ∙ (asked_yes question.Jumps _ _ _ (sym c.in_ok-answer-3.ensures) (jumps g at.After-first_breach-2 d)
          ∙ asked_yes question.Callees _ _ _ (sym c.in_ok-answer-4.ensures) (callees g at.After-first_breach-3 d))),
    )
