use Rattle.std.proofs.Common.{◌≤◌, length, vec_items, sym, refl, arith}
use Rattle.table.proofs.Rows.{row_length}
use Rattle.table.proofs.Sounds.{sound, found_size}
use Rattle.table.proofs.state.Core.waiting.Goals as goal

pub returns : goal.returns
returns c =
    let t = c.args.self.now in
    let rs = vec_items t.records in
    let l : t.tail ≤ length rs = omega (arith, found_size (sound t), t.pushed, t.held) in
    record { value = sym (row_length rs t.head t.tail t.ordered l); ends = refl; below = omega (arith, t.ordered, t.pushed) }
