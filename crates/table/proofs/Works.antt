-- Settling one cell after the other.
use Rattle.std.proofs.Common.{◌≡◌, ℕ, zero, suc, ◌+◌, ◌-◌, ◌<◌, ◌≤◌, List, [], ◌∷◌, Some, None, sym, refl, ap, ◌∙◌, suc-add, zero-add, arith}
use Rattle.flow.specs.Relation.{Rule}
use Rattle.paths.specs.Supergraph.{Supergraph}
use Rattle.paths.specs.Tabled.{Tabled, cell_at, settle, work_one, work}
use Rattle.paths.specs.declared.worklist.End.{End}
use Rattle.paths.specs.Does.{Handed}
use Rattle.table.specs.Told.{Portions}
use Rattle.table.specs.Worklist.{taken_from, took_from, took}

module _ (P : Supergraph) (Q : Rule) (N F : ℕ) (end : End) where
  abbrev works : ℕ → Tabled → Tabled
  works k = work P Q N F k end

  one_by : (w : List ℕ) (c : ℕ) (t : Tabled) → Some c ≡ taken_from end w → settle P Q N F (cell_at F c) (took_from end w t) ≡ work_one P Q N F end w t
  one_by [] c t e = let z : ◌≡◌ {A = ℕ} 0 1 = cc in absurd (omega arith)
  one_by (x ∷ xs) c t e = ap (λ (k : ℕ). settle P Q N F (cell_at F k) (took_from end (x ∷ xs) t)) (cc)

  -- a cell that is taken and settled
  pub one : (c : ℕ) (t u v : Tabled) → Some c ≡ taken_from end t.waiting → u ≡ took end t → v ≡ settle P Q N F (cell_at F c) u
      → v ≡ work_one P Q N F end t.waiting t
  one c t u v e h k = k ∙ ap (settle P Q N F (cell_at F c)) h ∙ one_by t.waiting c t e

  -- one turn of the loop
  pub one_turn : (k done c : ℕ) (t u v goal : Tabled) → done < k → Some c ≡ taken_from end t.waiting → u ≡ took end t → v ≡ settle P Q N F (cell_at F c) u
      → works (k - done) t ≡ goal → works (k - (done + 1)) v ≡ goal
  one_turn k done c t u v goal l e h s i =
      let j : ℕ = k - (done + 1) in
      let q : k - done ≡ suc j = omega arith in
      ap (works j) (one c t u v e h s) ∙ ap (λ (a : ℕ). works a t) (sym q) ∙ i

  idle_by : (j : ℕ) (t : Tabled) (w : List ℕ) → None ≡ taken_from end w → t.waiting ≡ w → works j t ≡ t
  idle_by zero t w e h = refl
  idle_by (suc j) t [] e h = ap (λ (w : List ℕ). works j (work_one P Q N F end w t)) h ∙ idle_by j t [] e h
  idle_by (suc j) t (x ∷ xs) e h = let z : ◌≡◌ {A = ℕ} 0 1 = cc in absurd (omega arith)

  -- where none waits, nothing is done
  pub idle : (j : ℕ) (t : Tabled) → None ≡ taken_from end t.waiting → works j t ≡ t
  idle j t e = idle_by j t t.waiting e refl

  taken_count_by : (w : List ℕ) (c : ℕ) (t : Tabled) → Some c ≡ taken_from end w → (took_from end w t).settled ≡ suc t.settled
  taken_count_by [] c t e = let z : ◌≡◌ {A = ℕ} 0 1 = cc in absurd (omega arith)
  taken_count_by (x ∷ xs) c t e = refl

  -- a cell that is taken counts as settled
  pub taken_count : (c : ℕ) (t u : Tabled) → Some c ≡ taken_from end t.waiting → u ≡ took end t → u.settled ≡ suc t.settled
  taken_count c t u e h = ap (λ (x : Tabled). x.settled) h ∙ taken_count_by t.waiting c t e

  -- portions: j cells after k cells are k + j cells
  pub portions : (k j : ℕ) (t : Tabled) → works (k + j) t ≡ works j (works k t)
  portions zero j t = ap (λ (n : ℕ). works n t) (zero-add j)
  portions (suc k) j t = ap (λ (n : ℕ). works n t) (suc-add k j) ∙ portions k j (work_one P Q N F end t.waiting t)

  empty_by : (w : List ℕ) → None ≡ taken_from end w → w ≡ []
  empty_by [] e = refl
  empty_by (x ∷ xs) e = let z : ◌≡◌ {A = ℕ} 0 1 = cc in absurd (omega arith)

  pub none_waits : (t : Tabled) → None ≡ taken_from end t.waiting → t.waiting ≡ []
  none_waits t e = empty_by t.waiting e

  none_by : (w : List ℕ) (t : Tabled) → None ≡ taken_from end w → took_from end w t ≡ t
  none_by [] t e = refl
  none_by (x ∷ xs) t e = let z : ◌≡◌ {A = ℕ} 0 1 = cc in absurd (omega arith)

  -- where none waits, nothing is taken
  pub none_taken : (t u : Tabled) → None ≡ taken_from end t.waiting → u ≡ took end t → u ≡ t
  none_taken t u e h = h ∙ none_by t.waiting t e

-- a portion, of the program and the problem that are handed in
pub in_portions : (h : Handed) (end : End) (k : ℕ) (t u : Tabled) → u ≡ work h.graph h.rule h.points h.facts k end t → Portions h k end t u
in_portions h end k t u e = record {
  more = λ j.
      portions h.graph h.rule h.points h.facts end k j t
      ∙ sym (ap (λ (x : Tabled). work h.graph h.rule h.points h.facts j end x) e);
}

-- few cells are k where none waits after them
pub few_all : (h : Handed) (end : End) (k few : ℕ) (t u : Tabled) → few ≤ k → Portions h few end t u → u.waiting ≡ [] → u ≡ work h.graph h.rule h.points h.facts k end t
few_all h end k few t u l p w =
    let q : few + (k - few) ≡ k = omega arith in
    sym (idle h.graph h.rule h.points h.facts end (k - few) u (sym (ap (taken_from end) w)))
    ∙ (sym (p.more (k - few)) ∙ ap (λ (n : ℕ). work h.graph h.rule h.points h.facts n end t) q)
