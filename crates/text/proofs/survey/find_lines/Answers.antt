use Rattle.std.proofs.Common.{◌≡◌, ◌==◌, ℕ, ◌+◌, ◌<◌, ◌≢◌, [], length, get_or, drop, set, sym, refl, ap, ◌∙◌, add-one, arith, rules, below_more}
use Rattle.std.specs.Slice.Iter.{split_inclusive_rest}
use Rattle.std.proofs.lemmas.List.{at_drop_all, drop-drop, length-drop, length-set, get_or-set_same, get_or-set_other, length-append}
use Rattle.std.proofs.lemmas.List.Sorted.{answers_always}
use Rattle.std.proofs.lemmas.Bool.{cond-true, cond-false}
use Rattle.draft.specs.Rules.{failing}
use Rattle.text.specs.Lines.{lines, place}
use Rattle.text.proofs.Places.{place_more}
use Rattle.text.proofs.Scans.{line_part}
use Rattle.text.specs.Reading.{formed, misformed}
use Rattle.text.proofs.survey.find_lines.Goals as goal
use Rattle.text.proofs.survey.find_lines.Goals.{then-count-lt-MOST_LINES, else-count-lt-MOST_LINES}

pub returns-then-not-has_form : goal.returns-then-not-has_form
unfolding misformed
returns-then-not-has_form c =
    let s = c.in-Some.ensures.steps in
    let first = s.1.2 (λ b. b == 10) (answers_always _ _ _ (λ f a r g h. search rules)) in
    let here = sym c.loop-line.invariant.2 ∙ line_part _ _ _ s.1.0 s.0 s.1.1 first.1 s.2 in
    (sym c.loop-line.invariant.6 ∙ (ap (failing formed (c.loop-line.count + 1)) here ∙ cond-false _ _ _ (sym c.if-not-has_form.ensures)), refl)

pub loop-line-preserved : goal.loop-line-preserved
loop-line-preserved c =
    let inv = c.loop-line.invariant in
    let n = c.loop-line.count in
    let all = lines c.args.bytes.now in
    let s = c.in-Some.ensures.steps in
    let first = s.1.2 (λ b. b == 10) (answers_always _ _ _ (λ f a r g h. search rules)) in
    let here = sym inv.2 ∙ line_part _ _ _ s.1.0 s.0 s.1.1 first.1 s.2 in
    let on = sym (ap (drop 1) here) ∙ drop-drop 1 n all in
    let left = ap (failing formed (n + 1 + 1)) (sym on)
    ∙ (sym (ap (failing formed (n + 1)) here ∙ cond-true _ _ _ (sym c.if-not-has_form.ensures)) ∙ inv.6) in
    let size = ap length s.0 ∙ length-append c.in-Some.line.now (split_inclusive_rest c.next.new.self) in (
      search rules,
      tt,
      on,
      omega (arith, inv.3, size),
      omega (arith, inv.4, s.1.1, s.2),
      elim c.if-count-lt-MOST_LINES.branch [
        | then-count-lt-MOST_LINES w ↦ ap length w.starts-is ∙ (length-set _ _ _ ∙ inv.5)
        | else-count-lt-MOST_LINES w ↦ ap length w.starts-is ∙ inv.5
      ],
      left,
      elim c.if-count-lt-MOST_LINES.branch [
        | then-count-lt-MOST_LINES w ↦
            λ k h m.
            ap (λ xs. get_or xs k 0) w.starts-is
            ∙ below_more (λ (j : ℕ). j < 1001 → get_or (set c.loop-line.starts n c.loop-line.at) j 0 ≡ place j all) n
            (λ j l s. let ne : j ≢ c.loop-line.count = omega arith in get_or-set_other c.loop-line.starts n j c.loop-line.at 0 ne ∙ inv.7 j l s)
            (λ s. get_or-set_same c.loop-line.starts n c.loop-line.at 0 (omega (arith, inv.5)) ∙ inv.9)
            k h m
        | else-count-lt-MOST_LINES w ↦
            λ k h m. ap (λ xs. get_or xs k 0) w.starts-is ∙ inv.7 k (omega (arith, w.if-count-lt-MOST_LINES.false)) m
      ],
      omega (arith, ap length here, length-drop n all),
      omega (arith, inv.9, place_more all _ n c.in-Some.line.now here, ap (λ m. place m all) (add-one n)),
    )

pub returns : goal.returns
unfolding misformed
returns c =
    let inv = c.loop-line.invariant in
    let none : drop c.loop-line.count (lines c.args.bytes.now) ≡ [] = sym inv.2 ∙ at_drop_all lines (split_inclusive_rest c.loop-line.line-iterator) 0 (omega (arith, c.in-None.ensures.steps.0)) in (
      record { count = omega (arith, inv.8, ap length none, length-drop c.loop-line.count (lines c.args.bytes.now)); starts = inv.7 },
      sym inv.6 ∙ ap (failing formed (c.loop-line.count + 1)) none,
    )
