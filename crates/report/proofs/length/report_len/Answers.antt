use Rattle.std.proofs.Common.{◌≡◌, ℕ, ◌+◌, ◌*◌, ◌/◌, ◌%◌, ◌<◌, sym, ap, ◌∙◌, arith, subst}
use Rattle.std.specs.Option.{is_some}
use Rattle.paths.specs.Page.{foot_text}
use Rattle.paths.specs.Tabled.{Tabled}
use Rattle.table.specs.State.{state}
use Rattle.table.specs.Told.{least}
use Rattle.std.proofs.Common.{length}
use Rattle.report.proofs.Lengths.{Counted, counted_none, counted_one, whole_length}
use Rattle.report.proofs.Numbered.{few_before, few_pairs}
use Rattle.report.proofs.length.report_len.Goals as goal
use Rattle.report.proofs.length.report_len.Goals.{then-is_some, else-is_some}

pub overflow_add-pairs : goal.overflow_add-pairs
overflow_add-pairs g c =
    let few = few_pairs c.from.result c.from-facts.result (omega (arith, c.from.ensures, c.points.ensures.few)) (omega (arith, c.from-facts.ensures, c.facts.ensures.few)) in
    omega (arith, few_before c.loop-number.number (state c.args.table.now), c.loop-number.invariant.listed, c.loop-number-test.true)

pub loop-number-preserved : goal.loop-number-preserved
loop-number-preserved g c =
    let t : Tabled = state c.args.table.now in
    let k : ℕ = c.loop-number.number in
    let f : ℕ = c.from-facts.result in
    let same : f ≡ t.facts = c.from-facts.ensures ∙ c.facts.ensures.value in
    let points : c.from.result ≡ t.points = c.from.ensures ∙ c.points.ensures.value in
    let cells : c.from.result * f ≡ t.points * t.facts = ap (λ (x : ℕ). x * f) points ∙ ap (λ (x : ℕ). t.points * x) same in
    let within : k < t.points * t.facts = omega (arith, c.loop-number-test.true) in
    let some : 0 < t.facts = omega (arith, c.facts.ensures.some, c.facts.ensures.value) in
    let found : is_some (least t (k / f) (k % f)) ≡ c.is_some.result = ap is_some (sym c.least.ensures) ∙ sym c.is_some.ensures in
    elim c.if-is_some.branch [
      | then-is_some w ↦
          (let so = counted_one t k f c.loop-number.pairs c.loop-number.bytes w.line_len-bytes.result same some within c.loop-number.invariant
          (found ∙ w.if-is_some.true) w.line_len-bytes.ensures.value w.line_len-bytes.ensures.few in
          subst (λ (x : ℕ). Counted t (k + 1) x c.if-is_some.bytes) (sym w.pairs-is) (subst (λ (x : ℕ). Counted t (k + 1) (c.loop-number.pairs + 1) x) (sym w.bytes-is) so))
      | else-is_some w ↦
          (let so = counted_none t k f c.loop-number.pairs c.loop-number.bytes 0 same some within c.loop-number.invariant (found ∙ w.if-is_some.false) in
          subst (λ (x : ℕ). Counted t (k + 1) x c.if-is_some.bytes) (sym w.pairs-is) (subst (λ (x : ℕ). Counted t (k + 1) c.loop-number.pairs x) (sym w.bytes-is) so))
    ]

pub returns-clause-value : goal.returns-clause-value
returns-clause-value g c =
    let t : Tabled = state c.args.table.now in
    let f : ℕ = c.from-facts.result in
    let same : f ≡ t.facts = c.from-facts.ensures ∙ c.facts.ensures.value in
    let points : c.from.result ≡ t.points = c.from.ensures ∙ c.points.ensures.value in
    let cells : c.from.result * f ≡ t.points * t.facts = ap (λ (x : ℕ). x * f) points ∙ ap (λ (x : ℕ). t.points * x) same in
    let k : c.loop-number.number ≡ t.points * t.facts = omega (arith, c.loop-number.auto.number-end, c.loop-number-test.false) in
    let settled : c.tallies.result.settled ≡ t.settled = cc in
    whole_length t c.loop-number.number c.loop-number.pairs c.loop-number.bytes c.foot_len.result k c.loop-number.invariant
    (c.foot_len.ensures.value ∙ ap (λ (n : ℕ). length (foot_text c.loop-number.pairs n)) settled)
