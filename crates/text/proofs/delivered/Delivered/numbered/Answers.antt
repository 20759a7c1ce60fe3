use Rattle.std.proofs.Common.{rules}
use Rattle.text.specs.Cells.{cell_of}
use Rattle.text.specs.Reading.{counted}
use Rattle.text.proofs.delivered.Delivered.numbered.Goals as goal

pub returns : goal.returns
returns c =
    let header = counted c.args.self.now.bytes.now in
    c.try_map.ensures (cell_of header.globals header.locals) (λ name found h. search rules)
