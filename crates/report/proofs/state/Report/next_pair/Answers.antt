use Rattle.std.proofs.Common.{◌≡◌, ℕ, suc, ◌+◌, ◌-◌, ◌*◌, ◌/◌, ◌%◌, ◌<◌, Bool, true, false, ◌∷◌, length, drop, sym, ap, ◌∙◌, subst, arith}
use Rattle.std.specs.Option.{is_some}
use Rattle.paths.specs.Page.{pairs_of}
use Rattle.paths.specs.Tabled.{Tabled}
use Rattle.table.specs.State.{state}
use Rattle.table.specs.Told.{least}
use Rattle.report.specs.Pairs.{pairs_before}
use Rattle.report.proofs.Numbered.{none_here, one_here, left_here, none_left, few_before, few_pairs, pairs_from, before_all}
use Rattle.report.proofs.state.Report.next_pair.Goals as goal

-- the test of the pair with the number k, in the table's words
tested : (t : Tabled) (k f : ℕ) (r b : Bool) → f ≡ t.facts → r ≡ is_some (least t (k / f) (k % f)) → r ≡ b
    → is_some (least t (k / t.facts) (k % t.facts)) ≡ b
tested t k f r b same is e = subst (λ (x : ℕ). is_some (least t (k / x) (k % x)) ≡ b) same (sym is ∙ e)

pub returns-then-is_listed : goal.returns-then-is_listed
returns-then-is_listed g c =
    let t : Tabled = state c.args.self.now.table in
    let k : ℕ = c.loop-number.number in
    let same : c.from-facts.result ≡ t.facts = c.from-facts.ensures ∙ c.facts.ensures.value in
    let points : c.from.result ≡ t.points = c.from.ensures ∙ c.points.ensures.value in
    let cells : c.from.result * c.from-facts.result ≡ t.points * t.facts =
    ap (λ (x : ℕ). x * c.from-facts.result) points ∙ ap (λ (x : ℕ). t.points * x) same in
    let few = few_pairs c.from.result c.from-facts.result (omega (arith, c.from.ensures, c.points.ensures.few)) (omega (arith, c.from-facts.ensures, c.facts.ensures.few)) in
    let within : k < t.points * t.facts = omega (arith, c.loop-number-test.true) in
    let some : 0 < t.facts = omega (arith, c.facts.ensures.some, c.facts.ensures.value) in
    let yes_is = tested t k c.from-facts.result c.is_listed.result true same c.is_listed.ensures c.if-is_listed.true in
    let n : suc k ≡ k + 1 = omega arith in
    let lines : c.args.self.now.lines ≡ length (pairs_before k t) = c.args.self.now.counted ∙ sym (ap length c.loop-number.invariant.1) in
    record {
      within = within;
      few = omega (arith, c.loop-number-test.true, few);
      fewer = omega (arith, lines, few_before k t);
      lines = ap suc lines ∙ sym (one_here t k some within yes_is) ∙ ap (λ (m : ℕ). length (pairs_before m t)) n;
      others = pairs_from (t.points * t.facts - suc k) (suc k) t;
      left =
          ap (λ (n : ℕ). drop n (pairs_of t)) lines ∙ left_here t k some within yes_is
          ∙ ap (λ (f : ℕ). (k / f, k % f) ∷ pairs_from (t.points * t.facts - suc k) (suc k) t) (sym same);
    }

pub loop-number-preserved : goal.loop-number-preserved
loop-number-preserved g c =
    let t : Tabled = state c.args.self.now.table in
    let k : ℕ = c.loop-number.number in
    let same : c.from-facts.result ≡ t.facts = c.from-facts.ensures ∙ c.facts.ensures.value in
    let points : c.from.result ≡ t.points = c.from.ensures ∙ c.points.ensures.value in
    let cells : c.from.result * c.from-facts.result ≡ t.points * t.facts =
    ap (λ (x : ℕ). x * c.from-facts.result) points ∙ ap (λ (x : ℕ). t.points * x) same in
    let within : k < t.points * t.facts = omega (arith, c.loop-number-test.true) in
    let some : 0 < t.facts = omega (arith, c.facts.ensures.some, c.facts.ensures.value) in
    let no_is = tested t k c.from-facts.result c.is_listed.result false same c.is_listed.ensures c.if-is_listed.false in
    let from = c.loop-number.invariant.0 in
    let n : k + 1 ≡ suc k = omega arith in
    (omega arith, ap (λ (m : ℕ). pairs_before m t) n ∙ none_here t k some within no_is ∙ c.loop-number.invariant.1)

pub returns : goal.returns
returns g c =
    let t : Tabled = state c.args.self.now.table in
    let same : c.from-facts.result ≡ t.facts = c.from-facts.ensures ∙ c.facts.ensures.value in
    let points : c.from.result ≡ t.points = c.from.ensures ∙ c.points.ensures.value in
    let cells : c.from.result * c.from-facts.result ≡ t.points * t.facts =
    ap (λ (x : ℕ). x * c.from-facts.result) points ∙ ap (λ (x : ℕ). t.points * x) same in
    let k : c.loop-number.number ≡ t.points * t.facts = (let most = c.loop-number.auto.number-end (omega (arith, c.args.self.now.within, cells)) in omega (arith, c.loop-number-test.false)) in
    let lines : c.args.self.now.lines ≡ length (pairs_before (t.points * t.facts) t) =
    c.args.self.now.counted ∙ sym (ap length c.loop-number.invariant.1) ∙ ap (λ (n : ℕ). length (pairs_before n t)) k in
    (lines ∙ ap length (before_all t), ap (λ (n : ℕ). drop n (pairs_of t)) lines ∙ none_left t)
