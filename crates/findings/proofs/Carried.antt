-- Line after line.
use Rattle.std.proofs.Common.{◌≡◌, ℕ, suc, ◌+◌, ◌<◌, ◌≤◌, Bool, true, false, List, [], ◌∷◌, length, drop, Result, refl, sym, ap, ◌∙◌, arith, leb}
use Rattle.std.proofs.lemmas.Bool.{leb-true}
use Rattle.std.proofs.lemmas.List.{length-drop}
use Rattle.paths.specs.Does.{Handed, Answer, gives, refuses, Report, Turn, no, nothing_left, writes, fitting, memory_by, line_turn_by, line_turn, line_answer, line_after}
use Rattle.paths.specs.Does as does
use Rattle.paths.specs.Page.{pairs_of, line_text}
use Rattle.paths.specs.Tabled.{Tabled}
use Rattle.records.specs.Faults.{number_of}
use Rattle.records.specs.declared.fault.Fault.{Fault}
use Rattle.table.specs.Told.{one_if_yes}
use Rattle.findings.specs.Report.{Lined, Late}
use Rattle.findings.proofs.Turns.{written, unfit, is_full, same_size, behind, still_same}

same_table : (turn : Turn) (r : Report) → (line_after turn r).table ≡ r.table
same_table (no q) r = refl
same_table nothing_left r = refl
same_table (writes new) r = refl

size_by : (xs : List (ℕ × ℕ)) (place : ℕ) (page : List ℕ) → length (memory_by (line_turn_by xs place (length page)) place page) ≡ length page
size_by [] place page = refl
size_by (x ∷ xs) place page = go (leb (place + length (line_text x)) (length page)) refl
  where
    go : (b : Bool) → leb (place + length (line_text x)) (length page) ≡ b → length (memory_by (fitting b (line_text x)) place page) ≡ length page
    go true same = same_size place (line_text x) page (leb-true (place + length (line_text x)) (length page) same)
    go false same = refl

-- a report's place goes on
place_by : (turn : Turn) (r : Report) → r.place ≤ (line_after turn r).place
place_by (no q) r = omega arith
place_by nothing_left r = omega arith
place_by (writes new) r = omega arith

rest_by : (xs : List (ℕ × ℕ)) (r : Report) (page : List ℕ)
    → drop (line_after (line_turn_by xs r.place (length page)) r).place (memory_by (line_turn_by xs r.place (length page)) r.place page)
    ≡ drop (line_after (line_turn_by xs r.place (length page)) r).place page
rest_by [] r page = refl
rest_by (x ∷ xs) r page = go (leb (r.place + length (line_text x)) (length page)) refl
  where
    go : (b : Bool) → leb (r.place + length (line_text x)) (length page) ≡ b
        → drop (line_after (fitting b (line_text x)) r).place (memory_by (fitting b (line_text x)) r.place page) ≡ drop (line_after (fitting b (line_text x)) r).place page
    go true same = behind r.place (line_text x) page (leb-true (r.place + length (line_text x)) (length page) same)
    go false same = refl

-- a loop begins
pub begun : (h : Handed) (starts : List (ℕ × ℕ)) (r : Report) (page : List ℕ) → Lined h starts r page r page
begun h starts r page = record { table = refl; size = refl; rest = refl; carries = λ u. u }

module _ (r r' : Report) (page page' : List ℕ) (res : Result Bool Fault) (line : does.Lines r page (one_if_yes res) page' r') where
  table : r'.table ≡ r.table
  table = ap (λ (x : Report). x.table) line.leaves ∙ same_table (line_turn r page) r

  place : r'.place ≡ (line_after (line_turn r page) r).place
  place = ap (λ (x : Report). x.place) line.leaves

  further : r.place ≤ r'.place
  further = (let b = place_by (line_turn r page) r in omega (arith, place))

  -- what stands behind the line stays
  rest : drop r'.place page' ≡ drop r'.place page
  rest =
      ap (λ (n : ℕ). drop n page') place
      ∙ ap (drop (line_after (line_turn r page) r).place) line.holds
      ∙ rest_by (drop r.lines (pairs_of r.table)) r page
      ∙ ap (λ (n : ℕ). drop n page) (sym place)

  -- one line more
  pub lined : (h : Handed) (starts : List (ℕ × ℕ)) (first : Report) (at_first : List ℕ) → Lined h starts first at_first r page → Lined h starts first at_first r' page'
  lined h starts first at_first so = record {
    table = table ∙ so.table;
    size = ap length line.holds ∙ size_by (drop r.lines (pairs_of r.table)) r.place page ∙ so.size;
    rest = rest ∙ still_same page at_first r.place r'.place further so.rest;
    carries = λ u.
        let v = so.carries u in
        record { first = v.first; usage = v.usage; on = v.usage.lined starts r r' (one_if_yes res) page page' v.on line };
  }

module _ (r r' : Report) (page page' : List ℕ) where
  -- a line that is written leaves fewer pairs
  pub fewer : does.Lines r page (gives 1) page' r' → length (drop r'.lines (pairs_of r'.table)) < length (drop r.lines (pairs_of r.table))
  fewer line =
      let w = written (drop r.lines (pairs_of r.table)) r.place (length page) line.answers in
      let after : r' ≡ line_after (writes (line_text w.pair)) r = line.leaves ∙ ap (λ (x : Turn). line_after x r) w.turn in
      let lines : r'.lines ≡ suc r.lines = ap (λ (x : Report). x.lines) after in
      let same : r'.table ≡ r.table = ap (λ (x : Report). x.table) after in
      let pairs : length (pairs_of r'.table) ≡ length (pairs_of r.table) = ap (λ (t : Tabled). length (pairs_of t)) same in
      let a = length-drop r'.lines (pairs_of r'.table) in
      let b = length-drop r.lines (pairs_of r.table) in
      let c : length (drop r.lines (pairs_of r.table)) ≡ suc (length w.others) = ap length w.next in
      omega arith

  -- the next does not fit
  pub late : (f : Fault) → does.Lines r page (refuses (number_of f)) page' r' → Late f r' page'
  late f line =
      let u = unfit (number_of f) (drop r.lines (pairs_of r.table)) r.place (length page) line.answers in
      let after : r' ≡ r = line.leaves ∙ ap (λ (x : Turn). line_after x r) u.turn in
      let same : page' ≡ page = line.holds ∙ ap (λ (x : Turn). memory_by x r.place page) u.turn in
      let place : r'.place ≡ r.place = ap (λ (x : Report). x.place) after in
      let size : length page' ≡ length page = ap length same in
      record {
        fault = is_full f u.number;
        pair = u.pair;
        others = u.others;
        next = ap (λ (x : Report). drop x.lines (pairs_of x.table)) after ∙ u.next;
        full = (let q = u.full in omega arith);
      }
