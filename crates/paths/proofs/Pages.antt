-- The page of a report: its lines, one after the other, then its foot.
use Rattle.std.proofs.Common.{◌≡◌, ℕ, zero, suc, ◌+◌, ◌<◌, ◌≤◌, Bool, true, false, cond, T, eqb, leb, List, [], ◌∷◌, ◌++◌, length, take, drop, sym, refl, ap, ◌∙◌, subst, append_assoc, arith, eqb→eq, leb→le, length-append}
use Rattle.std.proofs.lemmas.List.{take_at, take_all, length-take-le, flat_map_more}
use Rattle.paths.specs.Table.{cell, number_of}
use Rattle.paths.specs.Machine as m
use Rattle.paths.specs.Rows as rows
use Rattle.paths.specs.Tabled.{Tabled, is_found}
use Rattle.paths.specs.Page.{any_found, pairs_at, pairs_below, pairs_of, line_text, lines_text, foot_text, put_at}
use Rattle.paths.specs.Does.{Handed, Answer, gives, Report, State, Open, Closed, Begun, Turn, no, nothing_left, writes, fitting, memory_by, line_turn_by, line_turn, line_answer, line_after, foot_turn, foot_answer, foot_after, Foots, Call, Line, Foot, Close, close_after, Row, not_yet_called, sown, worked, closed, reopened, begun_on, lined, footed, abandoned, trailed}
use Rattle.paths.specs.Law.{OnePage}
use Rattle.paths.proofs.Mirror.{Mirror, same_found}

-- THE PAIRS

module _ (N F : ℕ) (t : Tabled) (st : m.State) (a : Mirror N F t st) where
  any_same : (k n d : ℕ) → k ≤ F → n < N → d < F → any_found k n d t ≡ rows.any_found k n d st
  any_same zero n d h hn hd = refl
  any_same (suc k) n d h hn hd =
      ap (λ (f : ℕ). cond (is_found (number_of f (cell n k d)) t) true (any_found k n d t)) a.facts
      ∙ ap (λ (b : Bool). cond b true (any_found k n d t)) (same_found N F t st (cell n k d) a (hn, omega arith, hd))
      ∙ ap (λ (b : Bool). cond (m.is_found (cell n k d) st) true b) (any_same k n d (omega arith) hn hd)

  at_same : (k n : ℕ) → k ≤ F → n < N → pairs_at k n t ≡ rows.pairs_at F k n st
  at_same zero n h hn = refl
  at_same (suc k) n h hn =
      ap (λ (f : ℕ). pairs_at k n t ++ cond (any_found f n k t) ((n, k) ∷ []) []) a.facts
      ∙ ap (λ (b : Bool). pairs_at k n t ++ cond b ((n, k) ∷ []) []) (any_same F n k (omega arith) hn (omega arith))
      ∙ ap (λ (xs : List (ℕ × ℕ)). xs ++ cond (rows.any_found F n k st) ((n, k) ∷ []) []) (at_same k n (omega arith) hn)

  below_same : (k : ℕ) → k ≤ N → pairs_below k t ≡ rows.pairs_below F k st
  below_same zero h = refl
  below_same (suc k) h =
      ap (λ (f : ℕ). pairs_below k t ++ pairs_at f k t) a.facts
      ∙ ap (λ (xs : List (ℕ × ℕ)). pairs_below k t ++ xs) (at_same F k (omega arith) (omega arith))
      ∙ ap (λ (xs : List (ℕ × ℕ)). xs ++ rows.pairs_at F F k st) (below_same k (omega arith))

  pub pairs_same : pairs_of t ≡ rows.pairs_below F N st
  pairs_same = ap (λ (n : ℕ). pairs_below n t) a.points ∙ below_same N (omega arith)

-- LISTS

take_next : {A : Type 0} (xs : List A) (i : ℕ) (x : A) (rest : List A) → drop i xs ≡ x ∷ rest → take (suc i) xs ≡ take i xs ++ (x ∷ [])
take_next [] zero x rest e = let z : ◌≡◌ {A = ℕ} 0 1 = cc in absurd (omega arith)
take_next [] (suc i) x rest e = let z : ◌≡◌ {A = ℕ} 0 1 = cc in absurd (omega arith)
take_next (y ∷ ys) zero x rest e = let z : y ≡ x = cc in ap (λ w. w ∷ []) z
take_next (y ∷ ys) (suc i) x rest e = ap (λ ws. y ∷ ws) (take_next ys i x rest e)

-- what is put at a place stands behind what was before it
take_put : (place : ℕ) (new page : List ℕ) → place + length new ≤ length page
    → take (place + length new) (put_at place new page) ≡ take place page ++ new
take_put place new page h =
    let l : length (take place page ++ new) ≡ place + length new =
    length-append (take place page) new ∙ ap (λ n. n + length new) (length-take-le place page (omega arith)) in
    ap (take (place + length new)) (sym (append_assoc (take place page) new (drop (place + length new) page)))
    ∙ take_at (take place page ++ new) (drop (place + length new) page) (place + length new) l

length_put : (place : ℕ) (new page : List ℕ) → place + length new ≤ length page → place + length new ≤ length (put_at place new page)
length_put place new page h =
    let a = length-append (take place page) (new ++ drop (place + length new) page) in
    let b = length-append new (drop (place + length new) page) in
    let c = length-take-le place page (omega arith) in
    omega arith

-- TURNS

-- a line that is written
record LineWritten (xs : List (ℕ × ℕ)) (place size : ℕ) (new : List ℕ) : Type 0 where
  pair : ℕ × ℕ
  others : List (ℕ × ℕ)
  next : xs ≡ pair ∷ others
  text : new ≡ line_text pair
  fits : place + length new ≤ size

line_written : (xs : List (ℕ × ℕ)) (place size : ℕ) (new : List ℕ) → line_turn_by xs place size ≡ writes new → LineWritten xs place size new
line_written [] place size new e = let z : ◌≡◌ {A = ℕ} 0 1 = cc in absurd (omega arith)
line_written (x ∷ xs) place size new e = go (leb (place + length (line_text x)) size) (leb→le (place + length (line_text x)) size) e
  where
    go : (b : Bool) → (T b → place + length (line_text x) ≤ size) → fitting b (line_text x) ≡ writes new → LineWritten (x ∷ xs) place size new
    go true h e' =
        let same : new ≡ line_text x = cc in
        record { pair = x; others = xs; next = refl; text = same; fits = subst (λ (w : List ℕ). place + length w ≤ size) (sym same) (h tt) }
    go false h e' = let z : ◌≡◌ {A = ℕ} 0 1 = cc in absurd (omega arith)

-- a foot that is given is written
foot_written : (b b' : Bool) (text : List ℕ) (place k : ℕ) → gives k ≡ foot_answer (cond b (fitting b' text) (no 16)) place
    → T b × T b' × (k ≡ place + length text) × (cond b (fitting b' text) (no 16) ≡ writes text)
foot_written true true text place k e = (tt, tt, cc, refl)
foot_written true false text place k e = let z : ◌≡◌ {A = ℕ} 0 1 = cc in absurd (omega arith)
foot_written false b' text place k e = let z : ◌≡◌ {A = ℕ} 0 1 = cc in absurd (omega arith)

-- THE PAGE

-- the page up to the report's place is the lines written so far
pub record Paged (r : Report) (page : List ℕ) : Type 0 where
  pub room : r.place ≤ length page
  pub text : take r.place page ≡ lines_text (take r.lines (pairs_of r.table))

abbrev Pages : List Call → State → Type 0
Pages calls (Open t) = Unit {0}
Pages calls (Closed t) = Unit {0}
Pages calls (Begun r) = (page : List ℕ) → OnePage calls page → Paged r page

close_pages : (calls : List Call) (ws : List ℕ) (t : Tabled) → Pages calls (close_after ws t)
close_pages calls [] t = tt
close_pages calls (c ∷ cs) t = tt

line_pages : (calls : List Call) (r : Report) (page : List ℕ) (turn : Turn) → line_turn r page ≡ turn → Pages calls (Begun r)
    → Pages (Line page (line_answer turn) (memory_by turn r.place page) ∷ calls) (Begun (line_after turn r))
line_pages calls r page (no q) e ih = ih
line_pages calls r page nothing_left e ih = ih
line_pages calls r page (writes new) e ih = λ now one.
    let w = line_written (drop r.lines (pairs_of r.table)) r.place (length page) new e in
    let pairs = pairs_of r.table in
    let p = ih page one.1 in
    subst (λ (x : List ℕ). Paged (line_after (writes new) r) x) one.0
    (record {
      room = length_put r.place new page w.fits;
      text =
          take_put r.place new page w.fits
          ∙ ap (λ (x : List ℕ). x ++ new) p.text
          ∙ ap (λ (x : List ℕ). lines_text (take r.lines pairs) ++ x) w.text
          ∙ flat_map_more line_text [] (take r.lines pairs) w.pair
          ∙ ap lines_text (sym (take_next pairs r.lines w.pair w.others w.next));
    })

foot_pages : (calls : List Call) (r : Report) (page page' : List ℕ) (turn : Turn) → foot_turn r page ≡ turn → Pages calls (Begun r)
    → Pages (Foot page (foot_answer turn r.place) page' ∷ calls) (foot_after turn r)
foot_pages calls r page page' (no q) e ih = ih
foot_pages calls r page page' nothing_left e ih = λ now one. absurd one
foot_pages calls r page page' (writes new) e ih = tt

pub pages : {H : Handed} {first : Tabled} {calls : List Call} {s : State} → Row H first calls s → Pages calls s
pages not_yet_called = tt
pages (sown row one does) = tt
pages (worked row one does) = tt
pages (closed {calls} {t} {s} {answer} row does) = subst (Pages (Close answer ∷ calls)) (sym does.leaves) (close_pages (Close answer ∷ calls) t.waiting t)
pages (reopened row) = tt
pages (begun_on row) = λ page one. record { room = omega arith; text = refl }
pages (lined {calls} {r} {r'} {page} {page'} {answer} row does) =
    subst (λ (x : Report). Pages (Line page answer page' ∷ calls) (Begun x)) (sym does.leaves)
    (subst (λ (x : Answer). Pages (Line page x page' ∷ calls) (Begun (line_after (line_turn r page) r))) (sym does.answers)
    (subst (λ (x : List ℕ). Pages (Line page (line_answer (line_turn r page)) x ∷ calls) (Begun (line_after (line_turn r page) r))) (sym does.holds)
    (line_pages calls r page (line_turn r page) refl (pages row))))
pages (footed {calls} {r} {s} {page} {page'} {answer} row does) =
    subst (λ (x : State). Pages (Foot page answer page' ∷ calls) x) (sym does.leaves)
    (subst (λ (x : Answer). Pages (Foot page x page' ∷ calls) (foot_after (foot_turn r page) r)) (sym does.answers)
    (foot_pages calls r page page' (foot_turn r page) refl (pages row)))
pages (abandoned row) = tt
pages (trailed row does) = tt

-- the page of a report that got its foot, up to its end
pub foot_page : (r : Report) (k : ℕ) (page page' : List ℕ) (s : State) → Foots r page (gives k) page' s → Paged r page
    → take k page' ≡ lines_text (pairs_of r.table) ++ foot_text (length (pairs_of r.table)) r.table.settled
foot_page r k page page' s does p =
    let pairs = pairs_of r.table in
    let foot = foot_text r.lines r.table.settled in
    let w = foot_written (eqb r.lines (length pairs)) (leb (r.place + length foot) (length page)) foot r.place k does.answers in
    let all : r.lines ≡ length pairs = eqb→eq r.lines (length pairs) w.0 in
    let fits : r.place + length foot ≤ length page = leb→le (r.place + length foot) (length page) w.1 in
    ap (λ (n : ℕ). take n page') w.2
    ∙ ap (take (r.place + length foot)) (does.holds ∙ ap (λ (x : Turn). memory_by x r.place page) w.3)
    ∙ take_put r.place foot page fits
    ∙ ap (λ (x : List ℕ). x ++ foot) (p.text ∙ ap lines_text (take_all r.lines pairs (omega arith)))
    ∙ ap (λ (R : ℕ). lines_text pairs ++ foot_text R r.table.settled) all
