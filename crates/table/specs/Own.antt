-- The two fields of a record that are the table's own.
use Rattle.std.specs.Prelude.{◌≡◌, ℕ, ◌*◌, ◌<◌, List, ◌&&◌, nat_lt}
use Rattle.fact_set.specs.Sets.{has}
use Rattle.paths.specs.Table.{cell, number_of}
use Rattle.paths.specs.Tabled.{Tabled, is_found}
use Rattle.records.specs.declared.record.Record.{Record}
use Rattle.table.specs.Records.{at}
use Rattle.table.specs.State.{block_of}

-- in the memory of a table in the state t: the slot of each cell's record is the number of some cell, and the record
-- with the number n × F + a has the set of exactly the facts d whose cell (n, a, d) is found
pub record OwnFields (t : Tabled) (rs : List Record) : Type 0 where
  pub slots : (c : ℕ) → c < t.points * t.facts * t.facts → (at rs c).slot < t.points * t.facts * t.facts
  pub sets : (n a d : ℕ) → n < t.points → a < t.facts
      → has (at rs (block_of t.facts n a)).found d ≡ (nat_lt d t.facts && is_found (number_of t.facts (cell n a d)) t)
