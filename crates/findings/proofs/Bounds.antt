-- How long a sheet is at most.
use Rattle.std.proofs.Common.{◌≡◌, ℕ, ◌+◌, ◌^◌, ◌<◌, ◌≤◌, Bool, true, false, cond, leb, List, [], ◌∷◌, ◌++◌, length, codes, replicate, Ok, Err, refl, arith}
use Rattle.std.specs.Fmt.{decimal}
use Rattle.std.proofs.lemmas.Bool.{leb-true}
use Rattle.std.proofs.lemmas.Fmt.{length-decimal-le}
use Rattle.std.proofs.lemmas.List.{length-append}
use Rattle.flow.specs.Choices.{starts_of}
use Rattle.flow.specs.declared.choice.Choice.TheVariants.{Unset, Raw}
use Rattle.flow.specs.declared.interface.Start.{Start}
use Rattle.listing.specs.Meaning.{Meaning}
use Rattle.listing.specs.Refusals.{refused_text}
use Rattle.page.specs.Writes.{heading}
use Rattle.paths.specs.Does.{Handed, room_for}
use Rattle.paths.specs.Handing.{posed}
use Rattle.paths.specs.Memory.{blank}
use Rattle.paths.specs.Page.{report_text}
use Rattle.records.specs.Faults.{number_of, place_of, fault_text}
use Rattle.records.specs.declared.fault.Fault.{Fault}
use Rattle.records.specs.declared.fault.Fault.TheVariants.{Full, Memory}
use Rattle.findings.specs.Listed.{both_told, told_in}
use Rattle.findings.specs.Outcome.{settled, on_page}
use Rattle.findings.specs.Rooms.{sheet_most}
use Rattle.findings.specs.Told.{body, reported, problem_text}
use Rattle.findings.specs.declared.room.Room.{Room}
use Rattle.findings.proofs.Ascii.{small_number}

digits : (n : ℕ) → n < 2 ^ 64 → length (decimal n) ≤ 20
digits n h = length-decimal-le 20 n (omega arith) (omega arith) h

pub refused_short : (k j : ℕ) → k < 2 ^ 64 → j < 2 ^ 64 → length (refused_text k j ++ (10 ∷ [])) ≤ 54
refused_short k j hk hj =
    let a = length-append (refused_text k j) (10 ∷ []) in
    let b = length-append (codes "refused ") (decimal k ++ (codes " at " ++ decimal j)) in
    let c = length-append (decimal k) (codes " at " ++ decimal j) in
    let d = length-append (codes " at ") (decimal j) in
    let e = digits k hk in
    let f = digits j hj in
    omega arith

heading_short : (k : ℕ) → k < 2 ^ 64 → length (heading k) ≤ 54
heading_short k h =
    let a = length-append (codes "problem ") (decimal k ++ (10 ∷ [])) in
    let b = length-append (decimal k) (10 ∷ []) in
    let c = digits k h in
    omega arith

fault_short : (f : Fault) → length (fault_text f ++ (10 ∷ [])) ≤ 54
fault_short f = refused_short (number_of f) (place_of f) (small_number f) (omega arith)

fitting_short : (text : List ℕ) (size : ℕ) → length (body (cond (leb (length text) size) (Ok text) (Err Full))) ≤ size + 54
fitting_short text size = go (leb (length text) size) refl
  where
    go : (b : Bool) → leb (length text) size ≡ b → length (body (cond b (Ok text) (Err Full))) ≤ size + 54
    go true e = (let z = leb-true (length text) size e in omega arith)
    go false e = (let z = fault_short Full in omega arith)

body_short : (h : Handed) (starts : List Start) (room : Room) → length (body (reported h starts room)) ≤ room.page + 54
body_short h starts room = go (room_for h (replicate room.records blank))
  where
    go : (b : Bool) → length (body (cond b (on_page (settled h starts (replicate room.records blank)) room.page) (Err Memory))) ≤ room.page + 54
    go true = fitting_short (report_text (settled h starts (replicate room.records blank))) room.page
    go false = (let z = fault_short Memory in omega arith)

problem_short : (k : ℕ) (h : Handed) (starts : List Start) (room : Room) → k < 2 ^ 64 → length (problem_text k h starts room) ≤ room.page + 108
problem_short k h starts room few =
    let a = length-append (heading k) (body (reported h starts room)) in
    let b = heading_short k few in
    let c = body_short h starts room in
    omega arith

pub both_short : (m : Meaning) (room : Room) → length (both_told m room) ≤ sheet_most room.page
both_short m room =
    let a = length-append (told_in Unset m.globals m.locals m room) (told_in Raw m.globals m.locals m room) in
    let b = problem_short 1 (posed Unset m.globals m.locals m) (starts_of Unset m.globals m.locals) room (omega arith) in
    let c = problem_short 2 (posed Raw m.globals m.locals m) (starts_of Raw m.globals m.locals) room (omega arith) in
    omega arith
