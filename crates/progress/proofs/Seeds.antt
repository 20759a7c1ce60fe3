-- A memory with a record for each cell.
use Rattle.std.proofs.Common.{◌≡◌, ℕ, ◌*◌, List, [], ◌∷◌, ◌++◌, map, length, replicate, sym, refl, ap, ◌∙◌, subst, arith}
use lib.ListN.{length-replicate}
use Rattle.std.proofs.lemmas.Bool.{cond-true, le-leb}
use Rattle.flow.specs.declared.interface.Start.{Start}
use Rattle.paths.specs.Does.{Handed, Answer, gives, refuses, Open, Closed, Close, Closes, open_answer, room_for, not_yet_called, closed}
use Rattle.paths.specs.Exactly.{Exactly, ExactFrom}
use Rattle.paths.specs.Paths.{ReachedCell}
use Rattle.paths.specs.Rows.{Number}
use Rattle.paths.specs.Theorem.{Accepted}
use Rattle.paths.specs.Usage.{Standing}
use Rattle.paths.specs.Memory as memory
use Rattle.paths.specs.Tabled.{Tabled, newly_in}
use Rattle.records.specs.Blank.{blank}
use Rattle.records.specs.declared.record.Record.{Record}
use Rattle.starts.specs.Sown.{given_starts, sown_all, Carries}
use Rattle.table.specs.State.{rec}
use Rattle.table.specs.Told.{CountsStay}
use Rattle.table.proofs.Opens.{blank_records}
use Rattle.progress.specs.Progress.{first_of, accepted_of, cells_line, EndsCounted}
use Rattle.progress.specs.Told.{Seeded}

module _ (h : Handed) (cells : ℕ) (rs : List Record) (size : cells ≡ h.points * h.facts * h.facts) (all : rs ≡ replicate cells blank) where
  held : map rec rs ≡ replicate (h.points * h.facts * h.facts) memory.blank
  held = ap (map rec) all ∙ blank_records cells ∙ ap (λ (n : ℕ). replicate n memory.blank) size

  -- open does not refuse it
  pub not_refused : (q : ℕ) → open_answer h (map rec rs) ≡ refuses q → ⊥
  not_refused q e =
      let len : length (map rec rs) ≡ h.points * h.facts * h.facts = ap length held ∙ length-replicate (h.points * h.facts * h.facts) memory.blank in
      let yes_is : open_answer h (map rec rs) ≡ gives 0 =
      cond-true {A = Answer} (room_for h (map rec rs)) (gives 0) (refuses 11) (le-leb (h.points * h.facts * h.facts) (length (map rec rs)) (omega arith)) in
      let z : ◌≡◌ {A = ℕ} 0 1 = cc in
      omega arith

  -- and the table that it gives leads on
  pub sown_from : (starts : List Start) (first t : Tabled) → first ≡ newly_in h.points h.facts (map rec rs) → ExactFrom h first
      → t ≡ sown_all h (given_starts starts) first → CountsStay first t → Carries h (given_starts starts) first t → Seeded h starts t
  sown_from starts first t is exact after counts carries =
      let f : first ≡ first_of h = is ∙ ap (newly_in h.points h.facts) held in
      record {
        state_is = after ∙ ap (sown_all h (given_starts starts)) f;
        points = counts.points ∙ ap (λ (x : Tabled). x.points) f;
        facts = counts.facts ∙ ap (λ (x : Tabled). x.facts) f;
        stands = (subst (λ (x : Tabled). Carries h (given_starts starts) x t) f carries).row (first_of h) []
            (record { calls = []; row = not_yet_called; starts_are = refl });
        exact = subst (ExactFrom h) f exact;
      }

-- a table that is closed then has settled as many cells as are reached
pub counted : (h : Handed) (starts : List Start) (t u : Tabled) (before : List ℕ) (count : ℕ) (text : List ℕ) → Seeded h starts t
    → ((first : Tabled) (accepted : List (ℕ × ℕ)) → Standing h first accepted (Open t) → Standing h first accepted (Open u))
    → Closes u (gives 0) (Closed u) → count ≡ u.settled → text ≡ before ++ cells_line count → EndsCounted h (accepted_of h starts) text
counted h starts t u before count text s row closes number is =
    let st = row (first_of h) (accepted_of h starts) s.stands in
    let e = s.exact (Close (gives 0) ∷ st.calls) u (closed st.row closes) in
    let f = subst (λ (xs : List (ℕ × ℕ)). Exactly h xs u) st.starts_are e in
    record {
      before = before;
      cells = count;
      text_is = is;
      counted = subst (λ (n : ℕ). Number (λ c. ReachedCell h.graph h.rule (Accepted (accepted_of h starts)) c.point c.origin c.fact) n) (sym number) f.number;
    }
