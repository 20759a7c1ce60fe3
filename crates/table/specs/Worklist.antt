-- Taking a cell out of the row of those that wait.
use Rattle.std.specs.Prelude.{ℕ, ◌+◌, ◌-◌, suc, List, [], ◌∷◌, Some, None, Option}
use Rattle.paths.specs.Tabled.{Tabled, taken}
use Rattle.paths.specs.declared.worklist.End.{End}
use Rattle.paths.specs.declared.worklist.End.TheVariants.{Oldest, Newest}

-- the cell at an end of the row, if one waits
abbrev pub taken_from : End → List ℕ → Option ℕ
taken_from end [] = None
taken_from end (c ∷ cs) = Some (taken end c cs).0

-- the table without the cell at an end of the row, which counts as settled
abbrev pub took_from : End → List ℕ → Tabled → Tabled
took_from end [] t = t
took_from end (c ∷ cs) t = record {
  points = t.points;
  facts = t.facts;
  records = t.records;
  found = t.found;
  settled = suc t.settled;
  waiting = (taken end c cs).1;
}

-- the same of the row that the table has
abbrev pub took : End → Tabled → Tabled
took end t = took_from end t.waiting t

-- the place in the row's slots of the cell at an end
abbrev pub place_of : End → ℕ → ℕ → ℕ
place_of Oldest head tail = head
place_of Newest head tail = tail - 1

-- where the row begins without that cell
abbrev pub head_of : End → ℕ → ℕ
head_of Oldest head = head + 1
head_of Newest head = head

-- where the row ends without that cell
abbrev pub tail_of : End → ℕ → ℕ
tail_of Oldest tail = tail
tail_of Newest tail = tail - 1
