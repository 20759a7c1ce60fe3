use Rattle.table.proofs.Coming.{still_back}
use Rattle.table.proofs.state.Core.enter_at.Goals as goal

pub all_come_back-requires-clause-back : goal.all_come_back-requires-clause-back
all_come_back-requires-clause-back g c =
    still_back (g.Q.Problem.relation c.args.problem.now) c.args.call c.args.back c.args.self.now c.enter_entry.new.self c.enter_entry.ensures.kept c.requires.back
