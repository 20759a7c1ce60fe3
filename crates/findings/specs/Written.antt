-- What is written at the front of a page, and what comes back.
use Rattle.std.specs.Prelude.{◌≡◌, ℕ, ◌*◌, cond, List, length, drop, Ok, Err, Result, nat_le, vec_items}
use Rattle.page.specs.Writes.{Put, Kept}
use Rattle.paths.specs.Does.{Handed}
use Rattle.records.specs.declared.fault.Fault.TheVariants.{Full}
use Rattle.records.specs.declared.fault.Refusal.{Refusal}
use Rattle.table.specs.Told.{Memory}
use Rattle.findings.specs.declared.written.Written.{Written}

-- how many of k records a table of a program and a problem takes: one for each cell, or none where there are too few
abbrev pub taken : Handed → ℕ → ℕ
taken h k = cond (nat_le (h.points * h.facts * h.facts) k) (h.points * h.facts * h.facts) 0

-- the memory comes back: it has as many records, and those behind the first k are as they were; what is in the first k is free
pub record Returned (k : ℕ) (memory memory' : Memory) : Type 0 where
  pub count : length (vec_items memory') ≡ length (vec_items memory)
  pub rest : drop k (vec_items memory') ≡ drop k (vec_items memory)

-- the text stands at the front of the page, and what stood behind it stays; or it does not fit, 17, and the page is as it was. The memory
-- comes back, and of its records only the first k may differ
abbrev pub Fronts : List ℕ → ℕ → Memory → List ℕ → Result Written (Refusal Memory) → List ℕ → Type 0
Fronts text k memory page (Ok w) page' = Put text page w.count page' × Returned k memory w.memory
Fronts text k memory page (Err e) page' = (e.fault ≡ Full) × Kept text page page' × Returned k memory e.back
