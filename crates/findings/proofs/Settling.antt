-- A table with its default starts sown, settled and closed.
use Rattle.std.proofs.Common.{◌≡◌, ℕ, ◌+◌, ◌*◌, ◌≤◌, Bool, true, false, cond, List, [], ◌∷◌, map, length, take, drop, replicate, vec_items, Some, None, Option, refl, sym, ap, ◌∙◌, subst, arith}
use Rattle.std.proofs.lemmas.Bool.{leb-true}
use Rattle.std.proofs.lemmas.List.{drop_at, length-replicate, length-map, length-drop}
use Rattle.flow.specs.declared.interface.Start.{Start}
use Rattle.paths.specs.Does.{Handed, gives, refuses, Closed, Works, Closes, work_no, answer_by, left_by, close_answer, close_after, open_answer, room_for}
use Rattle.paths.specs.Memory.{Rec}
use Rattle.paths.specs.Tabled.{Tabled, work}
use Rattle.paths.specs.Usage.{Usage, Standing}
use Rattle.paths.specs.declared.worklist.End.TheVariants.{Oldest}
use Rattle.starts.specs.Sown.{given_starts, sown_all, accepted_all, Carries}
use Rattle.records.specs.Blank.{blank}
use Rattle.table.specs.State.{rec, spare}
use Rattle.table.specs.Told.{Memory, NewlyMade}
use Rattle.table.specs.declared.state.Core.{Core}
use Rattle.findings.specs.Outcome.{opened, run_out, Settled}
use Rattle.findings.specs.Written.{Returned}

-- a memory that open takes is large enough
pub has_room : (h : Handed) (memory : List Rec) → open_answer h memory ≡ gives 0 → room_for h memory ≡ true
has_room h memory e = go (room_for h memory) e
  where
    go : (b : Bool) → cond b (gives 0) (refuses 11) ≡ gives 0 → b ≡ true
    go true e' = refl
    go false e' = let z : ◌≡◌ {A = ℕ} 0 1 = cc in absurd (omega arith)

-- and one that it refuses is not
pub no_room : (h : Handed) (memory : List Rec) (q : ℕ) → open_answer h memory ≡ refuses q → room_for h memory ≡ false
no_room h memory q e = go (room_for h memory) e
  where
    go : (b : Bool) → cond b (gives 0) (refuses 11) ≡ refuses q → b ≡ false
    go true e' = let z : ◌≡◌ {A = ℕ} 0 1 = cc in absurd (omega arith)
    go false e' = refl

not_refused : (o : Option ℕ) (n k : ℕ) → gives n ≡ answer_by o k → o ≡ None
not_refused None n k e = refl
not_refused (Some q) n k e = let z : ◌≡◌ {A = ℕ} 0 1 = cc in absurd (omega arith)

-- closing leaves a table as it was
closed_same : (ws : List ℕ) (u v : Tabled) → gives 0 ≡ close_answer ws → Closed v ≡ close_after ws u → v ≡ u
closed_same [] u v e l = cc
closed_same (c ∷ cs) u v e l = let z : ◌≡◌ {A = ℕ} 0 1 = cc in absurd (omega arith)

-- the memory of a table that was opened in it, of which no record behind those of the cells was written
pub returned : (h : Handed) (memory : Memory) (first last end : Core) → room_for h (map rec (vec_items memory)) ≡ true → NewlyMade h memory first → last.points ≡ first.points → last.facts ≡ first.facts
    → spare last ≡ spare first → end ≡ last → Returned (h.points * h.facts * h.facts) memory end.records
returned h memory first last end room made points facts same is =
    let k : ℕ = h.points * h.facts * h.facts in
    let items = vec_items memory in
    let has : k ≤ length items = (let l = length-map items rec in let r = leb-true k (length (map rec items)) room in omega arith) in
    let p : first.points ≡ h.points = ap (λ (t : Tabled). t.points) made.state_is in
    let f : first.facts ≡ h.facts = ap (λ (t : Tabled). t.facts) made.state_is in
    let of : (n d : ℕ) → n ≡ h.points → d ≡ h.facts → n * d * d ≡ k = λ n d e e'. ap (λ (x : ℕ). x * d * d) e ∙ ap (λ (x : ℕ). h.points * x * x) e' in
    let a : last.size ≡ k = last.product ∙ of last.points last.facts (points ∙ p) (facts ∙ f) in
    let b : first.size ≡ k = first.product ∙ of first.points first.facts p f in
    let rest : drop k (vec_items last.records) ≡ drop k items =
    ap (λ (n : ℕ). drop n (vec_items last.records)) (sym a) ∙ same ∙ ap (λ (n : ℕ). drop n (vec_items first.records)) b
    ∙ ap (drop k) made.holds ∙ drop_at (replicate k blank) (drop k items) k (length-replicate k blank) in
    let count : length (vec_items last.records) ≡ length items =
    (let x = length-drop k (vec_items last.records) in let y = length-drop k items in let z : length (drop k (vec_items last.records)) ≡ length (drop k items) = ap length rest in let l = last.held in omega arith) in
    subst (λ (x : Core). Returned k memory x.records) (sym is) (record { count = count; rest = rest })

module _ (h : Handed) (starts : List Start) (memory : List Rec) (first t u v : Tabled) (k n : ℕ) where
  pub settles : room_for h memory ≡ true → first ≡ opened h memory → Usage h first → t ≡ sown_all h (given_starts starts) first → Carries h (given_starts starts) first t
      → k ≡ h.points * h.facts * h.facts + 1 → Works h k Oldest t (gives n) u → Closes u (gives 0) (Closed v) → Settled h starts memory v
  settles room is usage after carries many works closes =
      let ran : u ≡ run_out h t =
      works.leaves
      ∙ ap (λ (o : Option ℕ). left_by o t (work h.graph h.rule h.points h.facts k Oldest t)) (not_refused (work_no h t) n _ works.answers)
      ∙ ap (λ (j : ℕ). work h.graph h.rule h.points h.facts j Oldest t) many in
      let sown = carries.row first [] usage.opened in
      let worked = usage.worked (accepted_all h (given_starts starts) first []) k Oldest (gives n) t u sown works in
      let stands = usage.closed (accepted_all h (given_starts starts) first []) (gives 0) u (Closed v) worked closes in
      record {
        room = room;
        state_is = closed_same u.waiting u v closes.answers closes.leaves ∙ ran ∙ ap (run_out h) (after ∙ ap (sown_all h (given_starts starts)) is);
        led = record {
          first = first;
          usage = usage;
          stands = subst (λ (x : Tabled). Standing h first (accepted_all h (given_starts starts) x []) (Closed v)) is stands;
        };
      }
