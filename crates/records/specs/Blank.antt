-- The record of a cell that is not found.
use Rattle.std.specs.Prelude.{None}
use Rattle.fact_set.specs.Sets.{none}
use Rattle.records.specs.declared.record.Record.{Record}

-- a cleared record
abbrev pub blank : Record
blank = record { rank = 0; kind = None; first = 0; second = 0; slot = 0; found = none }
