use Rattle.std.proofs.Common.{◌≡◌, ℕ, ◌+◌, ◌-◌, ◌≤◌, List, true, false, length, is_some, Some, None, Err, Result, refl, sym, ap, ◌∙◌, subst, arith, rules}
use Rattle.std.specs.Option.{ok_or}
use Rattle.draft.specs.declared.question.Question.TheVariants.{Ranges}
use Rattle.draft.specs.declared.question.Refusal.{Refusal}
use Rattle.std.proofs.lemmas.Bool.{and_parts, leb-true}
use Rattle.listing.specs.Lawful.{cells_in_range, points_in_range}
use Rattle.grammar.specs.declared.name.Header.{Header}
use Rattle.listing.specs.declared.cells.CellCounts.{CellCounts}
use Rattle.text.specs.Lines.{lines}
use Rattle.text.specs.Reading.{counted, written, misformed, outsized, unranged, miscounted, refused}
use Rattle.text.specs.Survey.{Ranged}
use Rattle.text.proofs.Refusals.{unless_no, unless_yes, no_size, no_form, no_ranges, no_length}
use Rattle.text.proofs.Made.{short, surveyed}
use Rattle.text.proofs.Written.{none_from, written_length}
use Rattle.text.proofs.delivered.Delivered.of.Goals as goal

-- there is a point for each line but the first
points_counted : (t : List ℕ) (count points : ℕ) → points ≡ count - 1 → count ≡ length (lines t) → misformed t ≡ None → points ≡ length (written t)
points_counted t count points less counts formed = omega (arith, less, counts, written_length t formed)

-- the cells that line 1 counts are in range
counts_ranged : (t : List ℕ) (h : Header) (cells : CellCounts) → h ≡ counted t → Ranged h (Some cells) → cells_in_range (counted t).globals (counted t).locals ≡ true
counts_ranged t h cells same ranged = ap (λ (h : Header). cells_in_range h.globals h.locals) (sym same) ∙ ranged.0

pub find_lines-requires : goal.find_lines-requires
find_lines-requires c = leb-true _ _ (and_parts _ _ (sym c.if-not-fits.ensures)).1

pub counts_of-requires : goal.counts_of-requires
counts_of-requires c = leb-true _ _ (and_parts _ _ (sym c.if-not-fits.ensures)).0

pub returns-then-not-fits : goal.returns-then-not-fits
unfolding outsized
returns-then-not-fits c = no_size c.args.bytes.now 0 (unless_no _ 0 (sym c.if-not-fits.ensures))

pub returns-in_err-starts : goal.returns-in_err-starts
unfolding outsized
returns-in_err-starts c =
    let e = c.in_err-starts.field-0.0 in
    let f = c.in_err-starts.ensures in
    let no : refused c.args.bytes.now ≡ Some c.in_err-starts.field-0.0
    = no_form c.args.bytes.now (unless_yes _ 0 (sym c.if-not-fits.ensures)) e.place f.0 ∙ ap (λ q. Some (record { question = q; place = e.place })) (sym f.1) in
    search rules

pub returns-in_err-cells : goal.returns-in_err-cells
unfolding outsized unranged
returns-in_err-cells c =
    let t = c.args.bytes.now in
    let none : c.counts_in.result ≡ None = none_from _ (sym c.in_err-cells.ensures.variant) in
    let out : cells_in_range (counted c.args.bytes.now).globals (counted c.args.bytes.now).locals ≡ false
    = ap (λ (h : Header). cells_in_range h.globals h.locals) (sym c.counts_of.ensures) ∙ subst (Ranged c.counts_of.result) none c.counts_in.ensures in
    let told : Err c.in_err-cells.field-0.0 ≡ ok_or c.counts_in.result (record { question = Ranges; place = 1 }) = c.in_err-cells.ensures.value in
    let same : c.in_err-cells.field-0.0 ≡ record { question = Ranges; place = 1 } = err_in (told ∙ ap (λ o. ok_or o (record { question = Ranges; place = 1 })) none) in
    let no : refused c.args.bytes.now ≡ Some c.in_err-cells.field-0.0
    = no_ranges t (unless_yes _ 0 (sym c.if-not-fits.ensures)) c.in_ok-starts.ensures.1 1 (unless_no _ 1 out) ∙ ap Some (sym same) in
    search rules
  where
    err_in : {A : Type 0} {x y : Refusal} → ◌≡◌ {A = Result A Refusal} (Err x) (Err y) → x ≡ y
    err_in z = cc

pub returns-then-not-in_range : goal.returns-then-not-in_range
unfolding outsized unranged miscounted
returns-then-not-in_range c =
    let t = c.args.bytes.now in
    let cells = subst (Ranged c.counts_of.result) c.in_ok-cells.ensures.ok_part c.counts_in.ensures in
    let ranged = counts_ranged t _ c.in_ok-cells.cells c.counts_of.ensures cells in
    let n = points_counted t _ _ c.saturating_sub-points.ensures c.in_ok-starts.ensures.0.count c.in_ok-starts.ensures.1 in
    no_length t (unless_yes _ 0 (sym c.if-not-fits.ensures)) c.in_ok-starts.ensures.1 (unless_yes _ 1 ranged) 0
    (unless_no _ 0 (ap points_in_range (sym n) ∙ sym c.if-not-in_range.ensures))

pub invariant_of-result : goal.invariant_of-result
invariant_of-result c =
    let t = c.args.bytes.now in
    let places = c.in_ok-starts.ensures in
    let cells = subst (Ranged c.counts_of.result) c.in_ok-cells.ensures.ok_part c.counts_in.ensures in
    let n = points_counted t _ _ c.saturating_sub-points.ensures places.0.count places.1 in
    let range : points_in_range (length (written c.args.bytes.now)) ≡ true = ap points_in_range (sym n) ∙ sym c.if-not-in_range.ensures in
    let few : c.saturating_sub-points.result ≤ 1000 = leb-true c.saturating_sub-points.result 1000 (and_parts _ _ (sym c.if-not-in_range.ensures)).1 in
    record {
      whole = ap is_some places.1;
      short = short t (surveyed t (sym c.if-not-fits.ensures) places.1 (counts_ranged t _ c.in_ok-cells.cells c.counts_of.ensures cells) range);
      counts = n;
      globals = cells.1 ∙ ap (λ (h : Header). h.globals) c.counts_of.ensures;
      locals = cells.2 ∙ ap (λ (h : Header). h.locals) c.counts_of.ensures;
      placed = λ k h. places.0.starts (k + 1) (omega (arith, c.saturating_sub-points.ensures)) (omega (arith, few));
    }

pub returns : goal.returns
returns c =
    let t = c.args.bytes.now in
    let places = c.in_ok-starts.ensures in
    let cells = subst (Ranged c.counts_of.result) c.in_ok-cells.ensures.ok_part c.counts_in.ensures in
    let n = points_counted t _ _ c.saturating_sub-points.ensures places.0.count places.1 in
    let range : points_in_range (length (written c.args.bytes.now)) ≡ true = ap points_in_range (sym n) ∙ sym c.if-not-in_range.ensures in
    let ranged = counts_ranged t _ c.in_ok-cells.cells c.counts_of.ensures cells in
    (refl, surveyed t (sym c.if-not-fits.ensures) places.1 ranged range)
