-- How tallies are told.
use Rattle.std.specs.Prelude.{ℕ, List, ◌++◌, codes, decimal}
use Rattle.records.specs.declared.tallies.Tallies.{Tallies}

-- `found X settled Y waiting Z`
abbrev pub tallies_text : Tallies → List ℕ
tallies_text t =
    codes "found " ++ (decimal t.found
    ++ (codes " settled " ++ (decimal t.settled
    ++ (codes " waiting " ++ decimal t.waiting))))
