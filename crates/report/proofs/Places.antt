-- A text at a place of a page.
use Rattle.std.proofs.Common.{◌≡◌, ℕ, ◌+◌, ◌-◌, ◌<◌, ◌≤◌, List, nat_le, ◌++◌, length, take, drop, Some, None, Option, rules, ap, ◌∙◌, arith}
use borrow.Rule.Slice.PartMut.{put_mid, mid_of, post_of}
use Rattle.std.proofs.lemmas.Bool.{cond-false, lt-leb}
use Rattle.std.proofs.lemmas.Slice.{overwrites}
use Rattle.std.proofs.lemmas.List.{take_all, drop_all, length-drop, append-nil, take-append-drop}
use Rattle.std.specs.Option.{ok_or}
use Rattle.paths.specs.Does.{Turn, no, writes}
use Rattle.page.specs.Writes.{Writes}
use Rattle.records.specs.declared.fault.Fault.TheVariants.{Full}
use Rattle.report.specs.Told.{Puts}

-- written at the front of what is left of a page from a place on, it stands at the place
pub placed : (text page part : List ℕ) (place : ℕ) (r : Option ℕ) → place ≤ length page
    → Writes text (mid_of place (length page - place) page) r part → Puts text place page (ok_or r Full) (put_mid place (length page - place) page part)
placed text page part place (Some count) within w = search (rules, overwrites)
placed text page part place None within w =
    let len : length (drop place page) ≡ length page - place = length-drop place page in
    let mid : mid_of place (length page - place) page ≡ drop place page = take_all (length page - place) (drop place page) (omega arith) in
    let short : length page < place + length text = (let l : length (mid_of place (length page - place) page) ≡ length (drop place page) = ap length mid in omega (arith, w.full)) in (
      cond-false {A = Turn} (nat_le (place + length text) (length page)) (writes text) (no 17) (lt-leb (place + length text) (length page) short),
      ap (λ (xs : List ℕ). take place page ++ (xs ++ post_of place (length page - place) page)) (w.same ∙ mid)
          ∙ ap (λ (xs : List ℕ). take place page ++ (drop place page ++ xs)) (drop_all (length page - place) (drop place page) (omega arith))
          ∙ ap (λ (xs : List ℕ). take place page ++ xs) (append-nil (drop place page))
          ∙ take-append-drop place page,
    )
