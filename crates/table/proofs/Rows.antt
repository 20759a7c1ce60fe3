-- The row of the cells that wait, at its two ends.
use Rattle.std.proofs.Common.{◌≡◌, ℕ, suc, ◌+◌, ◌-◌, ◌<◌, ◌≤◌, List, [], ◌∷◌, ◌++◌, map, length, get_or, take, drop, Some, None, sym, ap, ◌∙◌, arith}
use Rattle.std.proofs.lemmas.List.{drop_more, take_more, map_push, get_or-drop, length-drop, length-take-le, length-map}
use Rattle.paths.specs.Tabled.{Tabled, newest_of}
use Rattle.paths.specs.declared.worklist.End.{End}
use Rattle.paths.specs.declared.worklist.End.TheVariants.{Oldest, Newest}
use Rattle.records.specs.Blank.{blank}
use Rattle.table.specs.Records.{at}
use Rattle.table.specs.State.{row, state_of}
use Rattle.table.specs.Worklist.{place_of, head_of, tail_of, taken_from, took_from, took}
use Rattle.records.specs.declared.record.Record.{Record}

pub row_first : (rs : List Record) (head tail : ℕ) → head < tail → tail ≤ length rs → row rs head tail ≡ (at rs head).slot ∷ row rs (head + 1) tail
row_first rs head tail h l =
    let sl : Record → ℕ = λ r. r.slot in
    let m : ℕ = tail - (head + 1) in
    let e : tail - head ≡ suc m = omega arith in
    let d : drop head rs ≡ at rs head ∷ drop (head + 1) rs = drop_more rs head blank (omega arith) in
    ap (λ (k : ℕ). map sl (take k (drop head rs))) e ∙ ap (λ (xs : List Record). map sl (take (suc m) xs)) d

pub row_last : (rs : List Record) (head tail : ℕ) → head < tail → tail ≤ length rs → row rs head tail ≡ row rs head (tail - 1) ++ ((at rs (tail - 1)).slot ∷ [])
row_last rs head tail h l =
    let sl : Record → ℕ = λ r. r.slot in
    let m : ℕ = tail - 1 - head in
    let e : tail - head ≡ m + 1 = omega arith in
    let p : head + m ≡ tail - 1 = omega arith in
    let k : m < length (drop head rs) = rw length-drop (omega arith) in
    ap (λ (k : ℕ). map sl (take k (drop head rs))) e
    ∙ ap (map sl) (take_more (drop head rs) m blank k)
    ∙ map_push sl (take m (drop head rs)) (get_or (drop head rs) m blank)
    ∙ ap (λ (r : Record). map sl (take m (drop head rs)) ++ (sl r ∷ [])) (get_or-drop head rs m blank ∙ ap (at rs) p)

pub row_none : (rs : List Record) (head tail : ℕ) → head ≡ tail → row rs head tail ≡ []
row_none rs head tail e =
    let z : tail - head ≡ 0 = omega arith in
    ap (λ (k : ℕ). map (λ (r : Record). r.slot) (take k (drop head rs))) z

pub row_length : (rs : List Record) (head tail : ℕ) → head ≤ tail → tail ≤ length rs → length (row rs head tail) ≡ tail - head
row_length rs head tail h l =
    let k : tail - head ≤ length (drop head rs) = rw length-drop (omega arith) in
    length-map (take (tail - head) (drop head rs)) (λ (r : Record). r.slot) ∙ length-take-le (tail - head) (drop head rs) k

-- the table with another row, and one more settled
abbrev less : Tabled → List ℕ → Tabled
less t xs = record { points = t.points; facts = t.facts; records = t.records; found = t.found; settled = suc t.settled; waiting = xs }

oldest_value : (w xs : List ℕ) (x : ℕ) → w ≡ x ∷ xs → Some x ≡ taken_from Oldest w
oldest_value w xs x e = sym (ap (taken_from Oldest) e)

oldest_took : (w xs : List ℕ) (x : ℕ) (t : Tabled) → w ≡ x ∷ xs → less t xs ≡ took_from Oldest w t
oldest_took w xs x t e = sym (ap (λ (ys : List ℕ). took_from Oldest ys t) e)

newest_is : (xs : List ℕ) (x c : ℕ) (cs : List ℕ) → c ∷ cs ≡ xs ++ (x ∷ []) → newest_of c cs ≡ (x, xs)
newest_is [] x c [] e = let p : c ≡ x = cc in ap (λ (y : ℕ). (y, [])) p
newest_is [] x c (d ∷ ds) e = let z : ◌≡◌ {A = ℕ} 0 1 = cc in absurd (omega arith)
newest_is (y ∷ []) x c [] e = let z : ◌≡◌ {A = ℕ} 0 1 = cc in absurd (omega arith)
newest_is (y ∷ (y' ∷ ys)) x c [] e = let z : ◌≡◌ {A = ℕ} 0 1 = cc in absurd (omega arith)
newest_is (y ∷ ys) x c (d ∷ ds) e =
    let p : c ≡ y = cc in
    let q : d ∷ ds ≡ ys ++ (x ∷ []) = cc in
    let r = newest_is ys x d ds q in
    ap (λ (z : ℕ × List ℕ). (z.0, c ∷ z.1)) r ∙ ap (λ (z : ℕ). (x, z ∷ ys)) p

newest_value : (w xs : List ℕ) (x : ℕ) → w ≡ xs ++ (x ∷ []) → Some x ≡ taken_from Newest w
newest_value [] [] x e = let z : ◌≡◌ {A = ℕ} 0 1 = cc in absurd (omega arith)
newest_value [] (y ∷ xs) x e = let z : ◌≡◌ {A = ℕ} 0 1 = cc in absurd (omega arith)
newest_value (c ∷ cs) xs x e = sym (ap (λ (z : ℕ × List ℕ). Some z.0) (newest_is xs x c cs e))

newest_took : (w xs : List ℕ) (x : ℕ) (t : Tabled) → w ≡ xs ++ (x ∷ []) → less t xs ≡ took_from Newest w t
newest_took [] [] x t e = let z : ◌≡◌ {A = ℕ} 0 1 = cc in absurd (omega arith)
newest_took [] (y ∷ xs) x t e = let z : ◌≡◌ {A = ℕ} 0 1 = cc in absurd (omega arith)
newest_took (c ∷ cs) xs x t e = sym (ap (λ (z : ℕ × List ℕ). less t z.1) (newest_is xs x c cs e))

pub in_row : (end : End) (head tail : ℕ) → head < tail → (head ≤ place_of end head tail) × (place_of end head tail < tail)
in_row Oldest head tail h = (omega arith, h)
in_row Newest head tail h = (omega arith, omega arith)

module _ (rs : List Record) (points facts found head tail : ℕ) (h : head < tail) (pushed : tail ≤ found) (l : tail ≤ length rs) where
  oldest : Some (at rs head).slot ≡ taken_from Oldest (row rs head tail)
  oldest = oldest_value (row rs head tail) (row rs (head + 1) tail) (at rs head).slot (row_first rs head tail h l)

  without_oldest : state_of rs points facts found (head + 1) tail ≡ took Oldest (state_of rs points facts found head tail)
  without_oldest =
      let t : Tabled = state_of rs points facts found head tail in
      let settled : found - (tail - (head + 1)) ≡ suc (found - (tail - head)) = omega arith in
      ap (λ (k : ℕ). record { points = points; facts = facts; records = t.records; found = found; settled = k; waiting = row rs (head + 1) tail }) settled
      ∙ oldest_took (row rs head tail) (row rs (head + 1) tail) (at rs head).slot t (row_first rs head tail h l)

  newest : Some (at rs (tail - 1)).slot ≡ taken_from Newest (row rs head tail)
  newest = newest_value (row rs head tail) (row rs head (tail - 1)) (at rs (tail - 1)).slot (row_last rs head tail h l)

  without_newest : state_of rs points facts found head (tail - 1) ≡ took Newest (state_of rs points facts found head tail)
  without_newest =
      let t : Tabled = state_of rs points facts found head tail in
      let settled : found - (tail - 1 - head) ≡ suc (found - (tail - head)) = omega arith in
      ap (λ (k : ℕ). record { points = points; facts = facts; records = t.records; found = found; settled = k; waiting = row rs head (tail - 1) }) settled
      ∙ newest_took (row rs head tail) (row rs head (tail - 1)) (at rs (tail - 1)).slot t (row_last rs head tail h l)

  -- the place of the cell that is taken, and the row's ends without it
  pub value_at : (end : End) → Some (at rs (place_of end head tail)).slot ≡ taken_from end (row rs head tail)
  value_at Oldest = oldest
  value_at Newest = newest

  pub without : (end : End) → state_of rs points facts found (head_of end head) (tail_of end tail) ≡ took end (state_of rs points facts found head tail)
  without Oldest = without_oldest
  without Newest = without_newest

pub took_none : (end : End) (rs : List Record) (points facts found head tail : ℕ) → head ≡ tail
    → state_of rs points facts found head tail ≡ took end (state_of rs points facts found head tail)
took_none end rs points facts found head tail e =
    sym (ap (λ (w : List ℕ). took_from end w (state_of rs points facts found head tail)) (row_none rs head tail e))

pub taken_none : (end : End) (rs : List Record) (head tail : ℕ) → head ≡ tail → None ≡ taken_from end (row rs head tail)
taken_none end rs head tail e = sym (ap (taken_from end) (row_none rs head tail e))
