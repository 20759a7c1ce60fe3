-- Writing a record is putting an entry.
use Rattle.paths.proofs.Store as store
use Rattle.paths.proofs.writes.Goals as goal

pub returns : goal.returns
returns c = store.writes
