-- What is found does not depend on what a memory held before: two tables that are opened in memories with room come to the same report.
use Rattle.std.proofs.Common.{◌≡◌, ℕ, ◌+◌, ◌*◌, ◌<◌, ◌≤◌, Bool, true, false, cond, eqb, ltb, List, [], ◌∷◌, ◌++◌, length, take, Some, None, Option, refl, sym, ap, ◌∙◌, subst, arith}
use Rattle.std.proofs.lemmas.Bool.{ltb-true, eq-eqb}
use Rattle.flow.specs.declared.interface.Start.{Start}
use Rattle.paths.specs.Supergraph.{Lawful}
use Rattle.paths.specs.Does.{Handed, counts_fit, left_by}
use Rattle.paths.specs.Machine as m
use Rattle.paths.specs.Machine.{both}
use Rattle.paths.specs.Memory.{Rec}
use Rattle.paths.specs.Page.{pairs_of, lines_text, foot_text, report_text}
use Rattle.paths.specs.Tabled.{Tabled, sow}
use Rattle.paths.specs.declared.worklist.End.TheVariants.{Oldest}
use Rattle.paths.proofs.Mirror.{Mirror, at_newly, sow_alike, work_alike}
use Rattle.paths.proofs.Pages.{pairs_same}
use Rattle.starts.specs.Sown.{given_starts, start_no, sown_one, sown_all, accepted_by, accepted_all}
use Rattle.findings.specs.Outcome.{opened, settled, accepted}

module _ (h : Handed) (lawful : Lawful h.graph h.points h.procs) where
  -- both hold the same found cells
  record Same (t u : Tabled) : Type 0 where
    state : m.State
    one : Mirror h.points h.facts t state
    other : Mirror h.points h.facts u state

  -- N and F are those that were handed in
  fits : (t : Tabled) (st : m.State) → Mirror h.points h.facts t st → counts_fit h t ≡ true
  fits t st a =
      ap (λ (b : Bool). both b (eqb h.facts t.facts)) (eq-eqb h.points t.points (sym a.points)) ∙ eq-eqb h.facts t.facts (sym a.facts)

  -- whether a start is in range
  abbrev in_range : Start → Bool
  in_range s = both (ltb s.procedure.0 h.procs) (ltb s.fact.0 h.facts)

  no_is : (s : Start) (t : Tabled) (st : m.State) → Mirror h.points h.facts t st → start_no h s t ≡ cond (in_range s) None (Some 13)
  no_is s t st a = ap (λ (b : Bool). cond {A = Option ℕ} b (cond (in_range s) None (Some 13)) (Some 12)) (fits t st a)

  both_yes : (a b : Bool) → both a b ≡ true → (a ≡ true) × (b ≡ true)
  both_yes true b e = (refl, e)
  both_yes false b e = let z : ◌≡◌ {A = ℕ} 0 1 = cc in absurd (omega arith)

  one_same : (s : Start) (t u : Tabled) → Same t u → Same (sown_one h s t) (sown_one h s u)
  one_same s t u w = go (in_range s) refl
    where
      go : (b : Bool) → in_range s ≡ b → Same (sown_one h s t) (sown_one h s u)
      go true e =
          let r = both_yes (ltb s.procedure.0 h.procs) (ltb s.fact.0 h.facts) e in
          let p : s.procedure.0 < h.procs = ltb-true s.procedure.0 h.procs r.0 in
          let d : s.fact.0 < h.facts = ltb-true s.fact.0 h.facts r.1 in
          let yes : (x : Tabled) (st : m.State) → Mirror h.points h.facts x st → start_no h s x ≡ None =
          λ x st a. no_is s x st a ∙ ap (λ (b : Bool). cond {A = Option ℕ} b None (Some 13)) e in
          let step : (x : Tabled) → Mirror h.points h.facts x w.state
          → Mirror h.points h.facts (sown_one h s x) (m.sow h.graph h.rule h.points h.facts s.procedure.0 s.fact.0 w.state) =
          λ x a.
          subst (λ (o : Option ℕ). Mirror h.points h.facts (left_by o x (sow h.graph h.rule h.points h.facts s.procedure.0 s.fact.0 x)) (m.sow h.graph h.rule h.points h.facts s.procedure.0 s.fact.0 w.state))
          (sym (yes x w.state a)) (sow_alike h.points h.facts h.graph h.rule h.procs lawful s.procedure.0 s.fact.0 p d x w.state a) in
          record { state = _; one = step t w.one; other = step u w.other }
      go false e =
          let step : (x : Tabled) → Mirror h.points h.facts x w.state → Mirror h.points h.facts (sown_one h s x) w.state =
          λ x a.
          subst (λ (o : Option ℕ). Mirror h.points h.facts (left_by o x (sow h.graph h.rule h.points h.facts s.procedure.0 s.fact.0 x)) w.state)
          (sym (no_is s x w.state a ∙ ap (λ (b : Bool). cond {A = Option ℕ} b None (Some 13)) e)) a in
          record { state = w.state; one = step t w.one; other = step u w.other }

  all_same : (ss : List Start) (t u : Tabled) → Same t u → Same (sown_all h ss t) (sown_all h ss u)
  all_same [] t u w = w
  all_same (s ∷ ss) t u w = all_same ss (sown_one h s t) (sown_one h s u) (one_same s t u w)

  accepted_same : (ss : List Start) (t u : Tabled) (before : List (ℕ × ℕ)) → Same t u → accepted_all h ss t before ≡ accepted_all h ss u before
  accepted_same [] t u before w = refl
  accepted_same (s ∷ ss) t u before w =
      ap (λ (o : Option ℕ). accepted_all h ss (sown_one h s t) (accepted_by o s before)) (no_is s t w.state w.one ∙ sym (no_is s u w.state w.other))
      ∙ accepted_same ss (sown_one h s t) (sown_one h s u) (accepted_by (start_no h s u) s before) (one_same s t u w)

  text_same : (t u : Tabled) → Same t u → report_text t ≡ report_text u
  text_same t u w =
      let pairs : pairs_of t ≡ pairs_of u = pairs_same h.points h.facts t w.state w.one ∙ sym (pairs_same h.points h.facts u w.state w.other) in
      let cells : t.settled ≡ u.settled = w.one.settled ∙ sym w.other.settled in
      ap (λ (xs : List (ℕ × ℕ)). lines_text xs ++ foot_text (length xs) t.settled) pairs
      ∙ ap (λ (n : ℕ). lines_text (pairs_of u) ++ foot_text (length (pairs_of u)) n) cells

  module _ (starts : List Start) (memory memory' : List Rec) (room : h.points * h.facts * h.facts ≤ length memory)
      (room' : h.points * h.facts * h.facts ≤ length memory') where
    newly_same : Same (opened h memory) (opened h memory')
    newly_same = record { state = m.opened; one = at_newly h.points h.facts memory room; other = at_newly h.points h.facts memory' room' }

    pub report_same : report_text (settled h starts memory) ≡ report_text (settled h starts memory')
    report_same =
        let w = all_same (given_starts starts) (opened h memory) (opened h memory') newly_same in
        let k : ℕ = h.points * h.facts * h.facts + 1 in
        text_same (settled h starts memory) (settled h starts memory') (record {
          state = m.work h.graph h.rule h.points h.facts k Oldest w.state;
          one = work_alike h.points h.facts h.graph h.rule h.procs lawful k Oldest _ w.state w.one;
          other = work_alike h.points h.facts h.graph h.rule h.procs lawful k Oldest _ w.state w.other;
        })

    pub starts_same : accepted h starts memory ≡ accepted h starts memory'
    starts_same = accepted_same (given_starts starts) (opened h memory) (opened h memory') [] newly_same
