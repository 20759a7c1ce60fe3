-- What noting the cell of a block as found makes of a table.
use Rattle.std.proofs.Common.{◌≡◌, ℕ, ◌+◌, ◌*◌, ◌<◌, ◌&&◌, ◌||◌, ◌==◌, nat_lt, List, length, drop, vec_items, sym, ap, ◌∙◌, subst, arith}
use Rattle.fact_set.specs.Sets.{has}
use Rattle.fact_set.specs.declared.FactSet.{FactSet}
use Rattle.paths.specs.Tabled.{find}
use Rattle.records.specs.declared.record.Record.{Record}
use Rattle.table.specs.Leads.{kind_of, first_of, second_of}
use Rattle.table.specs.Records.{at, entered, marked}
use Rattle.table.specs.State.{inner, state_of}
use Rattle.table.specs.declared.sites.Lead.{Lead}
use Rattle.table.specs.declared.state.Core.{Core}
use Rattle.table.proofs.Blocks.{Blocks, blocks_more, block_below, cell_below}
use Rattle.table.proofs.Finds.{finds_new}
use Rattle.table.proofs.Leads.{Leads}
use Rattle.table.proofs.Marks.{plain_marked, spare_marked, state_marked}
use Rattle.table.proofs.Sounds.{Sound, sound, room, entered_sound, marked_sound}
use Rattle.table.proofs.Writing.{rank_stays, new_spare, new_length}

module _ (t : Core) (by : Lead) (b e cell rank : ℕ) (s : FactSet) (first new : List Record)
    (cell_is : cell ≡ b * t.facts + e) (rank_is : rank ≡ t.found + 1)
    (block : b < t.points * t.facts) (fact : e < t.facts) (z : (at (vec_items t.records) (b * t.facts + e)).rank ≡ 0) (led : Leads t by)
    (entered_is : first ≡ entered (vec_items t.records) cell rank (kind_of by) (first_of by) (second_of by) t.tail)
    (marked_is : new ≡ marked first b s)
    (joined : (d : ℕ) → has s d ≡ (has (at first b).found d || (nat_lt d 64 && d == e))) where
  abbrev rs : List Record
  rs = vec_items t.records

  abbrev c : ℕ
  c = b * t.facts + e

  abbrev es : List Record
  es = entered rs c (t.found + 1) (kind_of by) (first_of by) (second_of by) t.tail

  abbrev ms : List Record
  ms = marked es b s

  is_es : first ≡ es
  is_es = entered_is ∙ ap (λ (k : ℕ). entered rs k rank (kind_of by) (first_of by) (second_of by) t.tail) cell_is
      ∙ ap (λ (r : ℕ). entered rs c r (kind_of by) (first_of by) (second_of by) t.tail) rank_is

  is_ms : new ≡ ms
  is_ms = marked_is ∙ ap (λ (ys : List Record). marked ys b s) is_es

  inside : c < t.size
  inside = omega (arith, t.product, cell_below t.points t.facts b e block fact)

  in_size : b < t.size
  in_size = omega (arith, t.product, block_below t.points t.facts b (omega arith) block)

  long : c < length rs
  long = omega (arith, t.held, inside)

  under : t.tail < t.size
  under = omega (arith, t.pushed, room (sound t) c inside z)

  under_long : t.tail < length rs
  under_long = omega (arith, t.held, under)

  long_es : b < length es
  long_es = omega (arith, t.held, in_size, new_length rs c (t.found + 1) (kind_of by) (first_of by) (second_of by) t.tail long under_long)

  pub noted_sound : Sound new t.points t.facts t.size (t.found + 1) t.head (t.tail + 1)
  noted_sound =
      let s₀ = entered_sound (sound t) c (kind_of by) (first_of by) (second_of by) inside z led.first led.second led.first_found led.second_found in
      subst (λ (ys : List Record). Sound ys t.points t.facts t.size (t.found + 1) t.head (t.tail + 1)) (sym is_ms) (marked_sound s₀ b s in_size)

  pub noted_blocks : Blocks new t.points t.facts
  noted_blocks =
      subst (λ (ys : List Record). Blocks ys t.points t.facts) (sym is_ms)
      (blocks_more rs t.points t.facts b e s (t.found + 1) (kind_of by) (first_of by) (second_of by) t.tail t.few_facts block fact (omega arith)
      (omega (arith, t.product, t.held)) under_long
      (λ d. joined d ∙ ap (λ (ys : List Record). has (at ys b).found d || (nat_lt d 64 && d == e)) is_es) t.blocks)

  pub noted_spare : drop t.size new ≡ drop t.size rs
  noted_spare =
      ap (drop t.size) is_ms
      ∙ spare_marked es b s long_es t.size (omega (arith, t.held, new_length rs c (t.found + 1) (kind_of by) (first_of by) (second_of by) t.tail long under_long)) in_size
      ∙ new_spare rs c (t.found + 1) (kind_of by) (first_of by) (second_of by) t.tail long under_long t.size t.held inside under

  pub noted_stays : (x : ℕ) → 0 < (at rs x).rank → (at new x).rank ≡ (at rs x).rank
  noted_stays x f =
      ap (λ (ys : List Record). (at ys x).rank) is_ms ∙ ap (λ (r : Record). r.rank) (plain_marked es b s long_es x)
      ∙ rank_stays rs c (t.found + 1) (kind_of by) (first_of by) (second_of by) t.tail long under_long z x f

  pub noted_state : state_of new t.points t.facts rank t.head (t.tail + 1) ≡ find (kind_of by) (first_of by) (second_of by) c (inner t)
  noted_state =
      ap (λ (r : ℕ). state_of new t.points t.facts r t.head (t.tail + 1)) rank_is
      ∙ ap (λ (ys : List Record). state_of ys t.points t.facts (t.found + 1) t.head (t.tail + 1)) is_ms
      ∙ state_marked es b s long_es t.points t.facts (t.found + 1) t.head (t.tail + 1)
      ∙ finds_new rs t.points t.facts t.found t.head t.tail c (kind_of by) (first_of by) (second_of by) long under_long t.ordered t.pushed z
