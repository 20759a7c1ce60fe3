-- The page of a whole report.
use Rattle.std.proofs.Common.{◌≡◌, Result, Ok, Err, subst, ℕ, ◌+◌, ◌<◌, ◌≤◌, Bool, true, false, List, ◌++◌, length, take, drop, refl, sym, ap, ◌∙◌, arith, leb, ◌==◌}
use Rattle.std.proofs.lemmas.Bool.{cond-true, eq-eqb, leb-true, leb-false}
use Rattle.std.proofs.lemmas.List.{length-append, length-take-le, take_all, take-append-drop}
use Rattle.std.proofs.lemmas.List.Concat.{flat_map-append}
use Rattle.paths.specs.Does.{Handed, gives, refuses, Report, State, Turn, no, fitting, foot_turn, foot_answer, memory_by, Foots, begun, Closed}
use Rattle.paths.specs.Page.{pairs_of, line_text, lines_text, foot_text, report_text}
use Rattle.paths.specs.Tabled.{Tabled}
use Rattle.paths.proofs.Pages.{Paged, pages}
use Rattle.records.specs.declared.fault.Fault.{Fault}
use Rattle.records.specs.declared.fault.Refusal.{Refusal}
use Rattle.table.specs.State.{state, ClosedTable}
use Rattle.table.specs.Told.{Memory}
use Rattle.page.specs.Writes.{Put}
use Rattle.findings.specs.Report.{Led, Underway, Finished, Filled, Late}
use Rattle.findings.specs.declared.written.Written.{Written}
use Rattle.findings.proofs.Turns.{same_size, behind}

-- a report that is begun is under way
begins : (h : Handed) (starts : List (ℕ × ℕ)) (t : Tabled) (page : List ℕ) → Led h starts (Closed t) → Underway h starts (begun t) page
begins h starts t page led = record { first = led.first; usage = led.usage; on = led.usage.begins starts t page led.stands }

-- what is left of such a report is all of it
pub from_begun : (r : Report) (t : Tabled) (memory : Memory) (page page' : List ℕ) (o : Result Written (Refusal Memory)) → r ≡ begun t
    → ((h : Handed) (starts : List (ℕ × ℕ)) → Underway h starts r page → Finished h starts r.table memory page o page')
    → (h : Handed) (starts : List (ℕ × ℕ)) → Led h starts (Closed t) → Finished h starts t memory page o page'
from_begun r t memory page page' o e f h starts led =
    subst (λ (x : Report). Finished h starts x.table memory page o page') e
    (f h starts (subst (λ (x : Report). Underway h starts x page) (sym e) (begins h starts t page led)))

-- a report that fits is whole: nothing else can have come of it
pub fits_whole : (h : Handed) (starts : List (ℕ × ℕ)) (t : ClosedTable) (page page' : List ℕ) (o : Result Written (Refusal Memory)) → length (report_text (state t)) ≤ length page
    → Finished h starts (state t) t.core.records page o page' → Filled h starts t page o page'
fits_whole h starts t page page' (Ok w) fits f = f
fits_whole h starts t page page' (Err e) fits f = absurd (let z = f.0.full in omega arith)

-- the page up to the report's place is the lines written so far
pub paged : (h : Handed) (starts : List (ℕ × ℕ)) (r : Report) (page : List ℕ) → Underway h starts r page → Paged r page
paged h starts r page u = pages u.on.row page u.on.one

place_is : (r : Report) (page : List ℕ) → Paged r page → r.place ≡ length (lines_text (take r.lines (pairs_of r.table)))
place_is r page p = sym (length-take-le r.place page p.room) ∙ ap length p.text

text_length : (t : Tabled) → length (report_text t) ≡ length (lines_text (pairs_of t)) + length (foot_text (length (pairs_of t)) t.settled)
text_length t = length-append (lines_text (pairs_of t)) (foot_text (length (pairs_of t)) t.settled)

-- a line that does not fit: nor does the report
pub late_line : (f : Fault) (r : Report) (page : List ℕ) → Paged r page → Late f r page → length page < length (report_text r.table)
late_line f r page p l =
    let pairs = pairs_of r.table in
    let here = place_is r page p in
    let split : lines_text pairs ≡ lines_text (take r.lines pairs) ++ lines_text (drop r.lines pairs) =
    ap lines_text (sym (take-append-drop r.lines pairs)) ∙ flat_map-append line_text (take r.lines pairs) (drop r.lines pairs) in
    let a : length (lines_text pairs) ≡ length (lines_text (take r.lines pairs)) + length (lines_text (drop r.lines pairs)) =
    ap length split ∙ length-append (lines_text (take r.lines pairs)) (lines_text (drop r.lines pairs)) in
    let b : length (lines_text (drop r.lines pairs)) ≡ length (line_text l.pair) + length (lines_text l.others) =
    ap (λ (xs : List (ℕ × ℕ)). length (lines_text xs)) l.next ∙ length-append (line_text l.pair) (lines_text l.others) in
    let c = text_length r.table in
    let d = l.full in
    omega arith

module _ (r : Report) (page page' : List ℕ) (s : State) (p : Paged r page) (all : r.lines ≡ length (pairs_of r.table)) where
  abbrev foot : List ℕ
  foot = foot_text r.lines r.table.settled

  turn : foot_turn r page ≡ fitting (leb (r.place + length foot) (length page)) foot
  turn = cond-true {A = Turn} (r.lines == length (pairs_of r.table)) (fitting (leb (r.place + length foot) (length page)) foot) (no 16) (eq-eqb r.lines (length (pairs_of r.table)) all)

  here : r.place ≡ length (lines_text (pairs_of r.table))
  here = place_is r page p ∙ ap (λ (xs : List (ℕ × ℕ)). length (lines_text xs)) (take_all r.lines (pairs_of r.table) (omega arith))

  foot_size : length foot ≡ length (foot_text (length (pairs_of r.table)) r.table.settled)
  foot_size = ap (λ (n : ℕ). length (foot_text n r.table.settled)) all

  -- a foot that does not fit: nor does the report
  pub late_foot : (q : ℕ) → Foots r page (refuses q) page' s → (q ≡ 17) × (length page < length (report_text r.table))
  late_foot q does = go (leb (r.place + length foot) (length page)) refl (does.answers ∙ ap (λ (x : Turn). foot_answer x r.place) turn)
    where
      go : (b : Bool) → leb (r.place + length foot) (length page) ≡ b → refuses q ≡ foot_answer (fitting b foot) r.place → (q ≡ 17) × (length page < length (report_text r.table))
      go true same e = let z : ◌≡◌ {A = ℕ} 0 1 = cc in absurd (omega arith)
      go false same e =
          let short = leb-false (r.place + length foot) (length page) same in
          let c = text_length r.table in
          (cc, omega (arith, here, foot_size))

  -- a foot that is given ends on the page, whose length stays, as what stands behind it does
  pub record Ends (k : ℕ) : Type 0 where
    pub within : k ≤ length page'
    pub size : length page' ≡ length page
    pub after : r.place ≤ k
    pub rest : drop k page' ≡ drop k page

  pub foot_ends : (k : ℕ) → Foots r page (gives k) page' s → Ends k
  foot_ends k does = go (leb (r.place + length foot) (length page)) refl (does.answers ∙ ap (λ (x : Turn). foot_answer x r.place) turn) (does.holds ∙ ap (λ (x : Turn). memory_by x r.place page) turn)
    where
      go : (b : Bool) → leb (r.place + length foot) (length page) ≡ b → gives k ≡ foot_answer (fitting b foot) r.place → page' ≡ memory_by (fitting b foot) r.place page
          → Ends k
      go true same e holds =
          let fits = leb-true (r.place + length foot) (length page) same in
          let k_is : k ≡ r.place + length foot = cc in
          let len : length page' ≡ length page = ap length holds ∙ same_size r.place foot page fits in
          record {
            within = omega arith;
            size = len;
            after = omega arith;
            rest = ap (λ (n : ℕ). drop n page') k_is ∙ ap (drop (r.place + length foot)) holds ∙ behind r.place foot page fits ∙ ap (λ (n : ℕ). drop n page) (sym k_is);
          }
      go false same e holds = let z : ◌≡◌ {A = ℕ} 0 1 = cc in absurd (omega arith)

-- a text up to whose end the page holds it, and behind which the page is as it was
pub put_front : (text page page' : List ℕ) (k : ℕ) → k ≤ length page' → length page' ≡ length page → take k page' ≡ text → drop k page' ≡ drop k page → Put text page k page'
put_front text page page' k within size holds rest =
    let l : k ≡ length text = sym (length-take-le k page' within) ∙ ap length holds in
    record {
      fits = omega arith;
      takes = l;
      holds = sym (take-append-drop k page') ∙ ap (λ (xs : List ℕ). xs ++ drop k page') holds ∙ ap (λ (xs : List ℕ). text ++ xs) (rest ∙ ap (λ (n : ℕ). drop n page) l);
    }
