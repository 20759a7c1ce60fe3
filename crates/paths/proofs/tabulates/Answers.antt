-- The theorem: its two halves, put together.
use Rattle.paths.specs.Theorem.{Accepted}
use Rattle.paths.proofs.Complete.{cell_found, pair_found}
use Rattle.paths.proofs.Sound.{cell_reached, pair_reached}
use Rattle.paths.proofs.tabulates.Goals as goal

pub returns : goal.returns
returns c = λ P Q starts N K lawful t justified closed.
    record {
      cells = λ n a d. (cell_reached P Q (Accepted starts) N K lawful t justified n a d, cell_found P Q (Accepted starts) t closed n a d);
      pairs = λ n d. (pair_reached P Q (Accepted starts) N K lawful t justified n d, pair_found P Q (Accepted starts) t closed n d);
    }
