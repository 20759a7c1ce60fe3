use Rattle.std.proofs.Common.{◌≡◌, ℕ, ◌≤◌, length}
use Rattle.listing.specs.Meaning.{below, point, proc}
use Rattle.listing.specs.Procedures.{procedure, exit}
use Rattle.draft.specs.Told.{told}
use Rattle.draft.proofs.procedures.indexing.index.Given as goal

-- the points so far and their procedures are told
abbrev pub invariant-loop-n : goal.invariant-loop-n
invariant-loop-n g l =
    let cs = g.D.Draft.flow l.draft in
    record {
      points : length l.homes ≡ 1000;
      procedures : length l.exits ≡ 60;
      few : l.count ≤ 60;
      count : l.count ≡ procedure cs l.n;
      homes : (k : ℕ) → told l.homes k ≡ below k l.n (proc (procedure cs k));
      exits : (p : ℕ) → told l.exits p ≡ below p l.count (point (exit cs p));
    }
