-- What a record of a found cell says of the cells that it names.
use Rattle.std.proofs.Common.{◌≡◌, ℕ, ◌<◌, true, false, Some, vec_items, arith}
use Rattle.table.specs.Leads.{kind_of, first_of, second_of}
use Rattle.table.specs.Records.{at, leans_first, leans_second}
use Rattle.table.specs.State.{Led}
use Rattle.table.specs.declared.sites.Lead.{Lead}
use Rattle.table.specs.declared.sites.Lead.TheVariants.{Start, Step, Past, Call, Return}
use Rattle.table.specs.declared.state.Core.{Core}

pub record Leads (t : Core) (by : Lead) : Type 0 where
  pub first : first_of by < t.size
  pub second : second_of by < t.size
  pub first_found : leans_first (Some (kind_of by)) ≡ true → 0 < (at (vec_items t.records) (first_of by)).rank
  pub second_found : leans_second (Some (kind_of by)) ≡ true → 0 < (at (vec_items t.records) (second_of by)).rank

none : {A : Type 0} → false ≡ true → A
none e = let z : ◌≡◌ {A = ℕ} 0 1 = cc in absurd (omega arith)

pub leads : (t : Core) (by : Lead) → Led t by → Leads t by
leads t Start l = record { first = t.some; second = t.some; first_found = λ e. none e; second_found = λ e. none e }
leads t (Step u) l = record { first = l.within; second = t.some; first_found = λ _. l.ranked; second_found = λ e. none e }
leads t (Past u) l = record { first = l.within; second = t.some; first_found = λ _. l.ranked; second_found = λ e. none e }
leads t (Call u) l = record { first = l.within; second = t.some; first_found = λ _. l.ranked; second_found = λ e. none e }
leads t (Return u v) l = record { first = l.0.within; second = l.1.within; first_found = λ _. l.0.ranked; second_found = λ _. l.1.ranked }
