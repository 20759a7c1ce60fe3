use Rattle.std.proofs.Common.{ℕ, ◌+◌, ◌*◌, sym, ap, ◌∙◌, vec_items, arith}
use Rattle.paths.specs.Tabled.{is_found}
use Rattle.table.specs.Leads.{kind_of, first_of, second_of}
use Rattle.table.specs.State.{inner}
use Rattle.table.proofs.Blocks.{cell_below, found_yes, found_no, lt_yes}
use Rattle.table.proofs.Finds.{finds_old}
use Rattle.table.proofs.Kept.{kept_same}
use Rattle.table.proofs.Returning.{is_of}
use Rattle.table.proofs.state.Core.find.Goals as goal

pub returns-then-has : goal.returns-then-has
returns-then-has c =
    let t = c.args.self.now in
    let by = c.args.by in
    let cell : ℕ = c.args.block * t.facts + c.args.fact.0 in
    let inside = cell_below t.points t.facts c.args.block c.args.fact.0 c.requires.block c.requires.fact in
    let found = is_of t cell (omega (arith, t.product)) (found_yes _ _ _ (c.found_in.ensures c.args.fact.0) (sym c.has.ensures ∙ c.if-has.true)) in
    record {
      kept = kept_same t;
      after = finds_old (vec_items t.records) t.points t.facts t.found t.head t.tail cell (kind_of by) (first_of by) (second_of by) found.ranked;
    }

-- the cell is not found where the block lacks its fact
pub next_rank-rank-requires-clause-unfound : goal.next_rank-rank-requires-clause-unfound
next_rank-rank-requires-clause-unfound c =
    ap (λ (k : ℕ). is_found k (inner c.args.self.now)) c.cell.ensures.value
    ∙ found_no _ _ _ (c.found_in.ensures c.args.fact.0) (sym c.has.ensures ∙ c.if-has.false) (lt_yes _ _ c.requires.fact)

pub note-requires-clause-unfound : goal.note-requires-clause-unfound
note-requires-clause-unfound c =
    found_no _ _ _ (c.found_in.ensures c.args.fact.0) (sym c.has.ensures ∙ c.if-has.false) (lt_yes _ _ c.requires.fact)
