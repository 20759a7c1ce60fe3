use Rattle.std.proofs.Common.{ℕ, ◌^◌, ◌<◌, ◌≤◌, [], ◌∷◌, ◌++◌, length, Result, OnOk, sym, ap, subst, arith}
use Rattle.std.specs.Str.{IsUtf8}
use Rattle.draft.specs.declared.question.Refusal.{Refusal}
use Rattle.listing.specs.Meaning.{Meaning}
use Rattle.listing.specs.Refusals.{refused_text}
use Rattle.listing.specs.declared.refused.Refused.{Refused}
use Rattle.text.specs.Reading.{meaning_of}
use Rattle.telling.specs.Telling.{told_by, HoldsBy}
use Rattle.findings.proofs.Ascii.{refused_utf8}
use Rattle.findings.proofs.Bounds.{refused_short, both_short}
use Rattle.findings.specs.Rooms.{sheet_most}
use Rattle.findings.proofs.Reports.{on_ok}
use Rattle.findings.specs.Listed.{both_told, taken_of, taken_by, Told}
use Rattle.findings.specs.Told.{room_in}
use Rattle.findings.specs.Written.{Fronts}
use Rattle.findings.proofs.lent.write_sheet.Goals as goal

-- what is said of the program that was read is said of the reading of the bytes
pub returns-in-Ok-clause-text : goal.returns-in-Ok-clause-text
returns-in-Ok-clause-text c =
    let room = room_in c.args.memory c.args.most in
    let k : ℕ = length c.args.memory.items in
    let so = c.in-Ok.ensures.reads in
    subst (λ (r : Result Meaning Refusal). Fronts (told_by (λ m. both_told m room) r) (taken_by k r) c.args.memory c.args.page.now c.write_reports.result c.write_reports.new.page) (sym so.0)
    (subst (λ (m : Meaning). Fronts (both_told m room) (taken_of m k) c.args.memory c.args.page.now c.write_reports.result c.write_reports.new.page) (ap meaning_of so.1) c.write_reports.ensures.text)

pub returns-in-Ok-clause-utf8 : goal.returns-in-Ok-clause-utf8
returns-in-Ok-clause-utf8 c =
    let room = room_in c.args.memory c.args.most in
    let so = c.in-Ok.ensures.reads in
    subst (λ (r : Result Meaning Refusal). OnOk c.write_reports.result (IsUtf8 (told_by (λ m. both_told m room) r))) (sym so.0)
    (subst (λ (m : Meaning). OnOk c.write_reports.result (IsUtf8 (both_told m room))) (ap meaning_of so.1) c.write_reports.ensures.utf8)

pub returns-in-Ok-clause-law : goal.returns-in-Ok-clause-law
returns-in-Ok-clause-law c =
    let room = room_in c.args.memory c.args.most in
    let so = c.in-Ok.ensures.reads in
    subst (λ (r : Result Meaning Refusal). OnOk c.write_reports.result (HoldsBy (λ m s. Told room m s) r (told_by (λ m. both_told m room) r))) (sym so.0)
    (subst (λ (m : Meaning). OnOk c.write_reports.result (Told room m (both_told m room))) (ap meaning_of so.1) c.write_reports.ensures.law)

pub returns-in-Err-clause-utf8 : goal.returns-in-Err-clause-utf8
returns-in-Err-clause-utf8 c =
    let room = room_in c.args.memory c.args.most in
    let so = c.in-Err.ensures.reads in
    let r = c.refused.result in
    let number : r.number < 2 ^ 64 = omega arith in
    let place : r.place < 2 ^ 64 = omega arith in
    on_ok c.write_refused.result _
    (subst (λ (x : Result Meaning Refusal). IsUtf8 (told_by (λ m. both_told m room) x)) (sym so.0)
    (subst (λ (x : Refused). IsUtf8 (refused_text x.number x.place ++ (10 ∷ []))) c.refused.ensures (refused_utf8 r.number r.place number place)))

pub returns-in-Ok-clause-most : goal.returns-in-Ok-clause-most
returns-in-Ok-clause-most c =
    let room = room_in c.args.memory c.args.most in
    let so = c.in-Ok.ensures.reads in
    subst (λ (r : Result Meaning Refusal). length (told_by (λ m. both_told m room) r) ≤ sheet_most c.args.most) (sym so.0) (both_short (meaning_of c.args.bytes.now) room)

pub returns-in-Err-clause-most : goal.returns-in-Err-clause-most
returns-in-Err-clause-most c =
    let room = room_in c.args.memory c.args.most in
    let so = c.in-Err.ensures.reads in
    let r = c.refused.result in
    let number : r.number < 2 ^ 64 = omega arith in
    let place : r.place < 2 ^ 64 = omega arith in
    subst (λ (x : Result Meaning Refusal). length (told_by (λ m. both_told m room) x) ≤ sheet_most c.args.most) (sym so.0)
    (subst (λ (x : Refused). length (refused_text x.number x.place ++ (10 ∷ [])) ≤ sheet_most c.args.most) c.refused.ensures (let z = refused_short r.number r.place number place in omega arith))
