use Rattle.std.proofs.Common.{ℕ, ◌+◌, ◌*◌, ◌&&◌, nat_lt, sym, ap, ◌∙◌, vec_items, arith}
use Rattle.std.proofs.lemmas.List.{get_or_read_under}
use Rattle.fact_set.specs.Sets.{has}
use Rattle.records.specs.Blank.{blank}
use Rattle.records.specs.declared.record.Record.{Record}
use Rattle.table.proofs.Blocks.{block_below}
use Rattle.table.proofs.Finds.{rank_of}
use Rattle.table.proofs.Numbers.{some_facts}
use Rattle.table.proofs.state.Core.found_in.Goals as goal

pub returns : goal.returns
returns c e =
    let t = c.args.self.now in
    let rs = vec_items t.records in
    let some = some_facts t.points t.facts (omega (arith, t.product, t.some)) in
    let inside = block_below t.points t.facts c.args.block some c.requires in
    let read = get_or_read_under rs c.args.block _ c.index.result.now blank c.index.ensures (omega (arith, inside, t.product, t.held, t.records.ok.0)) t.records.ok.0 in
    let cell : ℕ = c.args.block * t.facts + e in
    ap (λ (r : Record). has r.found e) read
    ∙ t.blocks c.args.block e c.requires
    ∙ ap (λ (r : ℕ). nat_lt e t.facts && nat_lt 0 r) (sym (rank_of rs t.points t.facts t.found t.head t.tail cell))
