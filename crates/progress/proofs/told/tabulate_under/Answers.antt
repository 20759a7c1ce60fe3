use Rattle.std.proofs.Common.{◌≡◌, string_bytes}
use Rattle.std.proofs.lemmas.Result.{IfOk-weaker}
use Rattle.flow.specs.declared.choice.Choice.TheVariants.{Unset, Raw}
use Rattle.progress.specs.Listed.{chosen, ChosenCounted}
use Rattle.progress.proofs.Chosen.{chosen_text, chosen_counted}
use Rattle.progress.proofs.told.tabulate_under.Goals as goal

pub returns-in-Unset : goal.returns-in-Unset
returns-in-Unset g c =
    let m = g.P.Program.meaning c.args.program.now in
    let t = c.args.tabulation in
    let n = c.of-counts.result in
    let e = c.of-counts.ensures in
    record {
      text = IfOk-weaker c.tabulate.result _ (λ s. string_bytes s ≡ chosen t.choice m t.pace.portion.size t.pace.from)
          (λ s. chosen_text t.choice Unset c.in-Unset.is m n.globals n.locals e.globals e.locals (string_bytes s) t.pace.portion.size t.pace.from) c.tabulate.ensures.text;
      law = IfOk-weaker c.tabulate.result _ (λ s. ChosenCounted t.choice m (string_bytes s))
          (λ s. chosen_counted t.choice Unset c.in-Unset.is m n.globals n.locals e.globals e.locals (string_bytes s) (g.P.Program.lawful c.args.program.now)) c.tabulate.ensures.law;
    }

pub returns-in-Raw : goal.returns-in-Raw
returns-in-Raw g c =
    let m = g.P.Program.meaning c.args.program.now in
    let t = c.args.tabulation in
    let n = c.of-counts.result in
    let e = c.of-counts.ensures in
    record {
      text = IfOk-weaker c.tabulate-in-Raw.result _ (λ s. string_bytes s ≡ chosen t.choice m t.pace.portion.size t.pace.from)
          (λ s. chosen_text t.choice Raw c.in-Raw.is m n.globals n.locals e.globals e.locals (string_bytes s) t.pace.portion.size t.pace.from) c.tabulate-in-Raw.ensures.text;
      law = IfOk-weaker c.tabulate-in-Raw.result _ (λ s. ChosenCounted t.choice m (string_bytes s))
          (λ s. chosen_counted t.choice Raw c.in-Raw.is m n.globals n.locals e.globals e.locals (string_bytes s) (g.P.Program.lawful c.args.program.now)) c.tabulate-in-Raw.ensures.law;
    }
