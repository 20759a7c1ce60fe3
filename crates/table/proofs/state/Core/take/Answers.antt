use Rattle.std.proofs.Common.{◌≡◌, ℕ, ◌<◌, ◌≤◌, length, Some, vec_items, refl, ap, ◌∙◌, arith}
use Rattle.std.proofs.lemmas.List.{get_or_read_under}
use Rattle.records.specs.Blank.{blank}
use Rattle.records.specs.declared.record.Record.{Record}
use Rattle.table.specs.Records.{at}
use Rattle.table.specs.State.{state_of}
use Rattle.table.specs.Worklist.{place_of, head_of}
use Rattle.table.proofs.Rows.{in_row, value_at, without, took_none, taken_none}
use Rattle.table.proofs.Sounds.{sound, found_size}
use Rattle.table.proofs.state.Core.take.Goals as goal

pub returns-then-self : goal.returns-then-self
returns-then-self c =
    let t = c.args.self.now in
    let rs = vec_items t.records in
    record {
      value = taken_none c.args.end rs t.head t.tail c.if-self.true;
      after = took_none c.args.end rs t.points t.facts t.found t.head t.tail c.if-self.true;
      moved = record { records = refl; points = refl; facts = refl; size = refl };
      found = tt;
    }

pub returns : goal.returns
returns c =
    let t = c.args.self.now in
    let end = c.args.end in
    let rs = vec_items t.records in
    let some : t.head < t.tail = omega (arith, c.if-self.false, t.ordered) in
    let low : t.tail ≤ t.size = omega (arith, found_size (sound t), t.pushed) in
    let l : t.tail ≤ length rs = omega (arith, t.held) in
    let p : ℕ = place_of end t.head t.tail in
    let (from, below) = in_row end t.head t.tail some in
    let read : c.index.result.now ≡ at rs c.at_end-place.result.place = get_or_read_under rs c.at_end-place.result.place _ c.index.result.now blank c.index.ensures (omega (arith, c.at_end-place.ensures.place, below, l, t.records.ok.0)) t.records.ok.0 in
    let cell : c.index.result.now.slot ≡ (at rs p).slot = ap (λ (r : Record). r.slot) read ∙ ap (λ (k : ℕ). (at rs k).slot) c.at_end-place.ensures.place in
    let waits = t.waits p from below in
    record {
      value = ap Some cell ∙ value_at rs t.points t.facts t.found t.head t.tail some t.pushed l end;
      after =
          ap (λ (k : ℕ). state_of rs t.points t.facts t.found k c.at_end-place.result.tail) c.at_end-place.ensures.head
          ∙ ap (λ (k : ℕ). state_of rs t.points t.facts t.found (head_of end t.head) k) c.at_end-place.ensures.tail
          ∙ without rs t.points t.facts t.found t.head t.tail some t.pushed l end;
      moved = record { records = refl; points = refl; facts = refl; size = refl };
      found = record {
        within = omega (arith, cell, t.slots p (omega (arith, below, low)));
        ranked = (let e : (at rs c.index.result.now.slot).rank ≡ (at rs (at rs p).slot).rank = ap (λ (k : ℕ). (at rs k).rank) cell in omega (arith, waits));
      };
    }
