use Rattle.std.proofs.Common.{◌≡◌, ℕ, ◌*◌, List, [], ◌∷◌, ◌++◌, length, string_bytes, sym, ap, ◌∙◌, subst, arith}
use Rattle.std.proofs.lemmas.List.{nil_from_length}
use Rattle.records.specs.declared.tallies.Tallies.{Tallies}
use Rattle.records.specs.Texts.{tallies_text}
use Rattle.paths.specs.Does.{Handed}
use Rattle.paths.specs.Handing.{handed_by}
use Rattle.table.specs.State.{state}
use Rattle.progress.proofs.Working.{Underway, begun, ended, fits, moves_on, cells_of, some_wait, less_left, portion_more}
use Rattle.progress.proofs.tabulate.work_off.Goals as goal

pub loop-pace-init : goal.loop-pace-init
loop-pace-init g c =
    begun (handed_by g.P.Program g.Q.Problem c.args.on.now) c.args.pace.portion.size c.args.pace.from (state c.args.table.now) _ c.new-out.ensures.bytes

pub loop-pace-preserved : goal.loop-pace-preserved
loop-pace-preserved g c =
    let h : Handed = handed_by g.P.Program g.Q.Problem c.args.on.now in
    let pace = c.args.pace in
    let t = state c.loop-pace.table in
    let u = state c.work.new.self in
    let out = string_bytes c.loop-pace.out in
    let w = c.loop-pace.invariant in
    let none = fits h t (w.counts.points ∙ c.requires.points) (w.counts.facts ∙ c.requires.facts) in
    let cells : cells_of t ≡ h.points * h.facts * h.facts =
    ap (λ (x : ℕ). x * t.facts * t.facts) (w.counts.points ∙ c.requires.points) ∙ ap (λ (x : ℕ). h.points * x * x) (w.counts.facts ∙ c.requires.facts) in
    let (below, waits) = some_wait t c.tallies.result c.tallies.ensures.value c.tallies.ensures.sum c.tallies.ensures.bound c.loop-pace-test.true in
    let text = c.in_ok-writeln.ensures.bytes ∙ ap (λ (x : Tallies). out ++ (tallies_text x ++ (10 ∷ []))) c.tallies-tallies.ensures.value in
    subst (λ (b : List ℕ). Underway h pace.portion.size pace.from (state c.args.table.now) u b) (sym text)
    (portion_more h pace.portion.size pace.from (state c.args.table.now) t u out w c.work.result none
    c.work.ensures.works c.work.ensures.count c.work.ensures.stops c.work.ensures.counts pace.portion.some (omega (arith, below, cells)) waits)

pub loop-pace-smaller : goal.loop-pace-smaller
loop-pace-smaller g c =
    let h : Handed = handed_by g.P.Program g.Q.Problem c.args.on.now in
    let pace = c.args.pace in
    let t = state c.loop-pace.table in
    let u = state c.work.new.self in
    let w = c.loop-pace.invariant in
    let none = fits h t (w.counts.points ∙ c.requires.points) (w.counts.facts ∙ c.requires.facts) in
    let (below, waits) = some_wait t c.tallies.result c.tallies.ensures.value c.tallies.ensures.sum c.tallies.ensures.bound c.loop-pace-test.true in
    let moved = moves_on h pace.portion.size pace.from t u none c.work.result c.work.ensures.works c.work.ensures.count c.work.ensures.stops pace.portion.some in
    less_left t u below waits c.work.ensures.counts moved.0 moved.1

pub returns : goal.returns
returns g c =
    let t = state c.loop-pace.table in
    let len : length t.waiting ≡ 0 = sym (ap (λ (x : Tallies). x.waiting) c.tallies.ensures.value) ∙ omega (arith, c.loop-pace-test.false) in
    ended (handed_by g.P.Program g.Q.Problem c.args.on.now) c.args.pace.portion.size c.args.pace.from (state c.args.table.now) t
    (string_bytes c.loop-pace.out) c.loop-pace.invariant (nil_from_length t.waiting len)
