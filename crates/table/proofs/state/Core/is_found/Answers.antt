use Rattle.std.proofs.Common.{◌≡◌, ltb, vec_items, sym, ap, ◌∙◌, arith}
use Rattle.std.proofs.lemmas.List.{get_or_read_under}
use Rattle.std.proofs.lemmas.Bool.{ltb-true}
use Rattle.records.specs.Blank.{blank}
use Rattle.table.specs.Records.{at}
use Rattle.records.specs.declared.record.Record.{Record}
use Rattle.table.proofs.Finds.{rank_of}
use Rattle.table.proofs.state.Core.is_found.Goals as goal

pub returns : goal.returns
returns c =
    let t = c.args.self.now in
    let rs = vec_items t.records in
    let read = get_or_read_under rs c.args.cell _ c.index.result.now blank c.index.ensures (omega (arith, c.requires, t.held, t.records.ok.0)) t.records.ok.0 in
    let rank : c.index.result.now.rank ≡ (at rs c.args.cell).rank = ap (λ (r : Record). r.rank) read in
    record {
      value = ap (ltb 0) rank ∙ ap (ltb 0) (sym (rank_of rs t.points t.facts t.found t.head t.tail c.args.cell));
      found = λ e. record { within = c.requires; ranked = (let l = ltb-true 0 _ e in omega arith) };
    }
