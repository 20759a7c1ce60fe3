use Rattle.std.proofs.Common.{◌≡◌, string_bytes}
use Rattle.std.proofs.lemmas.Result.{IfOk-weaker}
use Rattle.flow.specs.declared.choice.Choice.TheVariants.{Unset, Raw}
use Rattle.explanation.specs.Told.{chosen, ChosenTells}
use Rattle.explanation.proofs.Chosen.{chosen_text, chosen_tells}
use Rattle.explanation.proofs.told.explain_under.Goals as goal

pub returns-in-Unset : goal.returns-in-Unset
returns-in-Unset g c =
    let m = g.P.Program.meaning c.args.program.now in
    let a = c.args.asked in
    let counts = c.of-counts.result in
    let e = c.of-counts.ensures in
    record {
      text = IfOk-weaker c.explain.result _ (λ s. string_bytes s ≡ chosen a.choice m a.pair.point.0 a.pair.fact.0)
          (λ s. chosen_text a.choice Unset c.in-Unset.is m counts.globals counts.locals e.globals e.locals a.pair.point.0 a.pair.fact.0 (string_bytes s)) c.explain.ensures.text;
      law = IfOk-weaker c.explain.result _ (λ s. ChosenTells a.choice m a.pair.point.0 a.pair.fact.0 (string_bytes s))
          (λ s. chosen_tells a.choice Unset c.in-Unset.is m counts.globals counts.locals e.globals e.locals a.pair.point.0 a.pair.fact.0 (string_bytes s)
          (g.P.Program.lawful c.args.program.now)) c.explain.ensures.law;
    }

pub returns-in-Raw : goal.returns-in-Raw
returns-in-Raw g c =
    let m = g.P.Program.meaning c.args.program.now in
    let a = c.args.asked in
    let counts = c.of-counts.result in
    let e = c.of-counts.ensures in
    record {
      text = IfOk-weaker c.explain-in-Raw.result _ (λ s. string_bytes s ≡ chosen a.choice m a.pair.point.0 a.pair.fact.0)
          (λ s. chosen_text a.choice Raw c.in-Raw.is m counts.globals counts.locals e.globals e.locals a.pair.point.0 a.pair.fact.0 (string_bytes s)) c.explain-in-Raw.ensures.text;
      law = IfOk-weaker c.explain-in-Raw.result _ (λ s. ChosenTells a.choice m a.pair.point.0 a.pair.fact.0 (string_bytes s))
          (λ s. chosen_tells a.choice Raw c.in-Raw.is m counts.globals counts.locals e.globals e.locals a.pair.point.0 a.pair.fact.0 (string_bytes s)
          (g.P.Program.lawful c.args.program.now)) c.explain-in-Raw.ensures.law;
    }
