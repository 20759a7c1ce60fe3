use Rattle.std.proofs.Common.{◌≡◌, length}
use Rattle.draft.specs.Index.{bounded_calls}
use Rattle.draft.proofs.Calls.{Threaded}
use Rattle.draft.proofs.callers.indexing.index_calls.Given as goal

-- the calls from the point on are told
abbrev pub invariant-loop-n : goal.invariant-loop-n
invariant-loop-n g l =
    record {
      procedures : length l.callers.first ≡ 60;
      points : length l.callers.next ≡ 1000;
      calls : Threaded (bounded_calls (g.D.Draft.flow l.draft)) l.callers.first l.callers.next l.n;
    }
