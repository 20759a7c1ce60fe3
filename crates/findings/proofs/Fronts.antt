-- A text behind another at the front of a page.
use Rattle.std.proofs.Common.{◌≡◌, ℕ, ◌+◌, ◌-◌, ◌<◌, ◌≤◌, List, ◌++◌, length, take, drop, vec_items, sym, refl, ap, ◌∙◌, arith, append_assoc}
use borrow.Rule.Slice.PartMut.{put_mid, mid_of}
use Rattle.std.proofs.lemmas.List.{take_all, drop_all, drop_at, drop-drop, length-append, length-drop, length-take-le, append-nil, take-append-drop}
use Rattle.page.specs.Writes.{Put, Kept}
use Rattle.table.specs.Told.{Memory}
use Rattle.findings.specs.Written.{Returned}

-- a page that is too short for the first text is too short for both
pub short_kept : (a b page : List ℕ) → length page < length a → Kept (a ++ b) page page
short_kept a b page h = record { full = (let l = length-append a b in omega arith); same = refl }

module _ (a b page part' : List ℕ) (start : ℕ) (begins : start ≡ length a) (within : start ≤ length page) where
  -- what is left of the page from the place of the second text on
  part_is : mid_of start (length page - start) page ≡ drop start page
  part_is = take_all (length page - start) (drop start page) (let l = length-drop start page in omega arith)

  -- the page with that part written
  written_is : put_mid start (length page - start) page part' ≡ take start page ++ part'
  written_is =
      ap (λ (xs : List ℕ). take start page ++ (part' ++ xs)) (drop_all (length page - start) (drop start page) (let l = length-drop start page in omega arith))
      ∙ ap (λ (xs : List ℕ). take start page ++ xs) (append-nil part')

  size_is : length (mid_of start (length page - start) page) ≡ length page - start
  size_is = ap length part_is ∙ length-drop start page

  -- the second text does not fit behind the first
  pub behind_kept : Kept b (mid_of start (length page - start) page) part' → Kept (a ++ b) page (put_mid start (length page - start) page part')
  behind_kept k = record {
    full = (let l = length-append a b in let s = size_is in let f = k.full in omega arith);
    same = written_is ∙ ap (λ (xs : List ℕ). take start page ++ xs) (k.same ∙ part_is) ∙ take-append-drop start page;
  }

  -- the page keeps its length where the second text is written
  pub behind_size : (j : ℕ) → Put b (mid_of start (length page - start) page) j part' → length (put_mid start (length page - start) page part') ≡ length page
  behind_size j p =
      let e : length part' ≡ length b + length (drop (length b) (mid_of start (length page - start) page)) =
      ap length p.holds ∙ length-append b (drop (length b) (mid_of start (length page - start) page)) in
      let d = length-drop (length b) (mid_of start (length page - start) page) in
      let w : length (put_mid start (length page - start) page part') ≡ length (take start page) + length part' = ap length written_is ∙ length-append (take start page) part' in
      let t = length-take-le start page within in
      let s = size_is in
      let f = p.fits in
      omega arith

  -- the second text behind the place of the first, and then the first
  pub behind_put : (page' : List ℕ) (j k : ℕ) → Put b (mid_of start (length page - start) page) j part' → Put a (put_mid start (length page - start) page part') k page'
      → Put (a ++ b) page (start + j) page'
  behind_put page' j k p q =
      let l = length-append a b in
      let s = size_is in
      let f = p.fits in
      let t = p.takes in
      let rest : drop (length a) (put_mid start (length page - start) page part') ≡ part' =
      ap (drop (length a)) written_is ∙ drop_at (take start page) part' (length a) (length-take-le start page within ∙ begins) in
      let tail : drop (length b) (mid_of start (length page - start) page) ≡ drop (length (a ++ b)) page =
      ap (drop (length b)) (part_is ∙ ap (λ (n : ℕ). drop n page) begins) ∙ drop-drop (length b) (length a) page ∙ ap (λ (n : ℕ). drop n page) (sym l) in
      record {
        fits = omega arith;
        takes = omega arith;
        holds =
            q.holds ∙ ap (λ (xs : List ℕ). a ++ xs) (rest ∙ p.holds ∙ ap (λ (xs : List ℕ). b ++ xs) tail)
            ∙ sym (append_assoc a b (drop (length (a ++ b)) page));
      }

-- a memory that comes back twice
pub returned_twice : (k : ℕ) (a b c : Memory) → Returned k a b → Returned k b c → Returned k a c
returned_twice k a b c x y = record { count = y.count ∙ x.count; rest = y.rest ∙ x.rest }
