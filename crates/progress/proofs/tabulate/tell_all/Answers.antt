use Rattle.std.proofs.Common.{◌≡◌, ℕ, List, ◌++◌, string_bytes, ap, ◌∙◌}
use Rattle.paths.specs.Does.{Handed}
use Rattle.paths.specs.Handing.{handed_by}
use Rattle.paths.specs.Tabled.{Tabled}
use Rattle.table.specs.State.{state}
use Rattle.progress.specs.Progress.{lines, last, enough, seeded, cells_line}
use Rattle.progress.proofs.Seeds.{counted}
use Rattle.progress.proofs.tabulate.tell_all.Goals as goal

pub returns : goal.returns
returns g c =
    let starts = g.Q.Problem.starts c.args.on.now.problem.now in
    let h : Handed = handed_by g.P.Program g.Q.Problem c.args.on.now in
    let k = c.args.pace.portion.size in
    let from = c.args.pace.from in
    let s = c.requires in
    let w = c.in_ok-out.ensures in
    let t = state c.args.table in
    let u = state c.work_off.new.table in
    let count = c.settled_cells-count.result in
    let told : string_bytes c.in_ok-out.out ≡ lines (enough h) h k from (seeded h starts) =
    w.told ∙ ap (lines (enough h) h k from) s.state_is in
    let left : u ≡ last (enough h) h k from (seeded h starts) =
    w.leaves ∙ ap (last (enough h) h k from) s.state_is in
    let text = c.in_ok-writeln.ensures.bytes in
    let number : count ≡ u.settled = c.settled_cells-count.ensures.count in
    record {
      text = text ∙ ap (λ (b : List ℕ). b ++ cells_line count) told
          ∙ ap (λ (j : ℕ). lines (enough h) h k from (seeded h starts) ++ cells_line j) (number ∙ ap (λ (x : Tabled). x.settled) left);
      law = counted h starts t u (string_bytes c.in_ok-out.out) count _ s w.row c.settled_cells-count.ensures.closes number text;
    }
