use Rattle.std.proofs.Common.{vec_items, sym, arith}
use Rattle.table.proofs.Finds.{not_found}
use Rattle.table.proofs.Opens.{few_cells}
use Rattle.table.proofs.Sounds.{sound, room}
use Rattle.table.proofs.state.Core.next_rank.Goals as goal

pub overflow_add-result : goal.overflow_add-result
overflow_add-result c =
    let t = c.args.self.now in
    let z = not_found (vec_items t.records) t.points t.facts t.found t.head t.tail c.args.cell (sym c.requires.unfound) in
    omega (arith, room (sound t) c.args.cell c.requires.within z, few_cells t.points t.facts t.few_points t.few_facts, t.product)
