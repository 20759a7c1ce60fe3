-- What comes of the report of the default starts, whatever the memory held before.
use Rattle.std.proofs.Common.{◌≡◌, ℕ, ◌*◌, ◌<◌, ◌≤◌, true, false, List, length, map, replicate, vec_items, nat_le, Ok, Err, Result, OnOk, sym, ap, ◌∙◌, subst, arith}
use Rattle.std.proofs.lemmas.Bool.{cond-true, cond-false, leb-true, le-leb, lt-leb}
use Rattle.std.proofs.lemmas.List.{length-replicate, length-map}
use Rattle.flow.specs.declared.interface.Start.{Start}
use Rattle.paths.specs.Supergraph.{Lawful}
use Rattle.paths.specs.Does.{Handed, State, room_for}
use Rattle.paths.specs.Law.{Reported}
use Rattle.paths.specs.Memory.{Rec, blank}
use Rattle.paths.specs.Page.{report_text}
use Rattle.paths.specs.Tabled.{Tabled}
use Rattle.records.specs.declared.fault.Fault.{Fault}
use Rattle.records.specs.declared.fault.Fault.TheVariants.{Full, Memory}
use Rattle.records.specs.declared.fault.Refusal.{Refusal}
use Rattle.table.specs.State.{rec, state, ClosedTable}
use Rattle.table.specs.Told as told
use Rattle.findings.specs.Outcome.{settled, accepted, on_page, Settled}
use Rattle.findings.specs.Report.{Led, Filled}
use Rattle.findings.specs.Told.{reported, room_in, Tells}
use Rattle.findings.specs.Written.{taken, Returned}
use Rattle.findings.specs.declared.room.Room.{Room}
use Rattle.findings.specs.declared.written.Written.{Written}
use Rattle.findings.proofs.AnyMemory.{report_same, starts_same}

-- the report that there is tells what is reached
pub tells : (h : Handed) (starts : List Start) (room : Room) (text : List ℕ) → reported h starts room ≡ Ok text
    → Reported h (accepted h starts (replicate room.records blank)) text → Tells h starts room
tells h starts room text is so = record {
  exact = λ report e.
      (let same : text ≡ report = (let z : Ok text ≡ Ok report = sym is ∙ e in cc) in
      subst (Reported h (accepted h starts (replicate room.records blank))) same so);
}

-- what holds anyway
pub on_ok : {A B : Type 0} → (o : Result A B) (P : Type 0) → P → OnOk o P
on_ok (Ok x) P p = p
on_ok (Err e) P p = tt

-- a report that is written tells what is reached
pub filled_tells : (h : Handed) (starts : List Start) (room : Room) (t : ClosedTable) (page page' : List ℕ) (o : Result Written (Refusal told.Memory)) → reported h starts room ≡ Ok (report_text (state t))
    → Filled h (accepted h starts (replicate room.records blank)) t page o page' → OnOk o (Tells h starts room)
filled_tells h starts room t page page' (Ok w) is f = tells h starts room (report_text (state t)) is f.0.tells
filled_tells h starts room t page page' (Err e) is f = tt

module _ (h : Handed) (starts : List Start) (memory : told.Memory) (most : ℕ) where
  abbrev held : List Rec
  held = map rec (vec_items memory)

  abbrev blanks : List Rec
  blanks = replicate (length (vec_items memory)) blank

  as_many : length blanks ≡ length held
  as_many = length-replicate (length (vec_items memory)) blank ∙ sym (length-map (vec_items memory) rec)

  room_same : room_for h blanks ≡ room_for h held
  room_same = ap (λ (n : ℕ). nat_le (h.points * h.facts * h.facts) n) as_many

  -- there are too few records
  pub few_told : room_for h held ≡ false → reported h starts (room_in memory most) ≡ Err Memory
  few_told short = cond-false {A = Result (List ℕ) Fault} (room_for h blanks) (on_page (settled h starts blanks) most) (Err Memory) (room_same ∙ short)

  module _ (lawful : Lawful h.graph h.points h.procs) (t : Tabled) (s : Settled h starts held t) where
    fits : h.points * h.facts * h.facts ≤ length held
    fits = leb-true (h.points * h.facts * h.facts) (length held) s.room

    same : report_text t ≡ report_text (settled h starts blanks)
    same = ap report_text s.state_is ∙ report_same h lawful starts held blanks fits (let e = as_many in omega (arith, fits))

    with_room : reported h starts (room_in memory most) ≡ on_page (settled h starts blanks) most
    with_room = cond-true {A = Result (List ℕ) Fault} (room_for h blanks) (on_page (settled h starts blanks) most) (Err Memory) (room_same ∙ s.room)

    -- the report takes no more than so many bytes
    pub short_told : length (report_text t) ≤ most → reported h starts (room_in memory most) ≡ Ok (report_text t)
    short_told l =
        let text = report_text (settled h starts blanks) in
        with_room ∙ cond-true {A = Result (List ℕ) Fault} (nat_le (length text) most) (Ok text) (Err Full) (le-leb (length text) most (let e = ap length same in omega arith))
        ∙ ap (λ (x : List ℕ). Ok x) (sym same)

    -- it takes more
    pub long_told : most < length (report_text t) → reported h starts (room_in memory most) ≡ Err Full
    long_told l =
        let text = report_text (settled h starts blanks) in
        with_room ∙ cond-false {A = Result (List ℕ) Fault} (nat_le (length text) most) (Ok text) (Err Full) (lt-leb (length text) most (let e = ap length same in omega arith))

    -- the row of calls that led to the table accepted the same starts
    pub led_told : (after : State) → Led h (accepted h starts held) after → Led h (accepted h starts blanks) after
    led_told after l = subst (λ (xs : List (ℕ × ℕ)). Led h xs after) (starts_same h lawful starts held blanks fits (let e = as_many in omega (arith, fits))) l

    -- the records of the cells are those that were taken
    pub back_told : (memory' : told.Memory) → Returned (h.points * h.facts * h.facts) memory memory' → Returned (taken h (length (vec_items memory))) memory memory'
    back_told memory' b =
        let yes : nat_le (h.points * h.facts * h.facts) (length (vec_items memory)) ≡ true =
        ap (λ (n : ℕ). nat_le (h.points * h.facts * h.facts) n) (sym (length-map (vec_items memory) rec)) ∙ s.room in
        subst (λ (k : ℕ). Returned k memory memory') (sym (cond-true {A = ℕ} (nat_le (h.points * h.facts * h.facts) (length (vec_items memory))) (h.points * h.facts * h.facts) 0 yes)) b
