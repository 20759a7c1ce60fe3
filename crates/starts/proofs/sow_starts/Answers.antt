use Rattle.std.proofs.Common.{◌+◌, ◌<◌, List, drop, ◌∙◌, arith}
use Rattle.flow.specs.declared.interface.Start.{Start}
use Rattle.paths.specs.Does.{Handed}
use Rattle.paths.specs.Handing.{handed_by}
use Rattle.table.proofs.Owning.{own_fields}
use Rattle.table.specs.State.{state}
use Rattle.table.specs.Told.{one_if_yes}
use Rattle.starts.proofs.Sowing.{Sowing, front, spent, counted_out, sown_more, all_sown}
use Rattle.starts.specs.Sown.{given_starts}
use Rattle.starts.proofs.sow_starts.Given as given
use Rattle.starts.proofs.sow_starts.Goals as goal
use Rattle.starts.proofs.sow_starts.Goals.{After-sow}

module _ (g : given.Over) (c : After-sow g) where
  abbrev h : Handed
  h = handed_by g.P.Program g.Q.Problem c.args.on.now

  abbrev starts : List Start
  starts = g.Q.Problem.starts c.args.on.now.problem.now

  -- one start more is sown
  sown_next : c.loop-i.i < 256 → Sowing h (given_starts starts) (state c.args.table.now) (state c.sow.new.self) (drop (c.loop-i.i + 1) (given_starts starts))
  sown_next few =
      sown_more h (given_starts starts) (state c.args.table.now) (state c.loop-i.table) (state c.sow.new.self)
      c.in-Some.start (drop (c.loop-i.i + 1) (given_starts starts)) (drop c.loop-i.i (given_starts starts)) (one_if_yes c.sow.result) c.loop-i.invariant.0
      (front starts c.loop-i.i c.in-Some.start few c.in-Some.ensures) c.sow.ensures.sows c.sow.ensures.counts

pub loop-i-preserved : goal.loop-i-preserved
loop-i-preserved g c = (sown_next g (goal.at.loop-i-preserved g c).After-sow (omega (arith, c.loop-i-test.true)), c.sow.ensures.spare ∙ c.loop-i.invariant.1)

-- where none is left
pub returns-in_default : goal.returns-in_default
returns-in_default g c =
    let starts : List Start = g.Q.Problem.starts c.args.on.now.problem.now in
    let sowing = c.loop-i.invariant.0 in
    let sown = all_sown _ _ (state c.args.table.now) (state c.loop-i.table) _ sowing (spent starts c.loop-i.i c.in_default.ensures) in
    record { after = sown.0; counts = sowing.counts; carries = sown.1; own = own_fields c.loop-i.table.core; spare = c.loop-i.invariant.1 }

-- where the last one that can be given is sown
pub returns-in-Some : goal.returns-in-Some
returns-in-Some g c =
    let starts : List Start = g.Q.Problem.starts c.args.on.now.problem.now in
    let sowing = sown_next g (goal.at.returns-in-Some g c).After-sow (omega arith) in
    let sown = all_sown _ _ (state c.args.table.now) (state c.sow.new.self) _ sowing (counted_out starts (c.loop-i.i + 1) (omega arith)) in
    record { after = sown.0; counts = sowing.counts; carries = sown.1; own = own_fields c.sow.new.self.core; spare = c.sow.ensures.spare ∙ c.loop-i.invariant.1 }
