use Rattle.std.proofs.Common.{vec_items}
use Rattle.paths.specs.Does.{Handed}
use Rattle.paths.specs.Handing.{handed_by}
use Rattle.records.specs.Faults.{number_of}
use Rattle.table.specs.State.{state}
use Rattle.progress.proofs.Seeds.{not_refused, sown_from}
use Rattle.progress.proofs.tabulate.seeded.Goals as goal

pub unreachable-requires : goal.unreachable-requires
unreachable-requires g c =
    let h : Handed = handed_by g.P.Program g.Q.Problem c.args.on.now in
    not_refused h c.records_for.result (vec_items c.in_ok-memory.memory) c.records_for.ensures c.in_ok-memory.ensures
    (number_of c.in_default.field-0.fault) c.in_default.ensures.opens.answers

pub returns : goal.returns
returns g c =
    let h : Handed = handed_by g.P.Program g.Q.Problem c.args.on.now in
    let made = c.in-Ok.ensures.opens.made in
    sown_from h c.records_for.result (vec_items c.in_ok-memory.memory) c.records_for.ensures c.in_ok-memory.ensures
    (g.Q.Problem.starts c.args.on.now.problem.now) (state c.in-Ok.table) (state c.sow_starts.new.table) made.state_is made.exact
    c.sow_starts.ensures.after c.sow_starts.ensures.counts c.sow_starts.ensures.carries
