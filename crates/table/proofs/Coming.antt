-- Coming back to a call from its callee's exit, and entering the callee.
use Rattle.std.proofs.Common.{◌≡◌, ℕ, ◌+◌, ◌<◌, ◌≤◌, Bool, true, false, not, ◌&&◌, ◌||◌, ◌==◌, nat_lt, nat_le, sym, refl, ap, ◌∙◌, subst, inl, inr, ◌⊎◌, arith}
use Rattle.std.proofs.lemmas.Bool.{ltb-true, leb-true, le-leb, eqb-true}
use Rattle.fact_set.specs.Sets.{has}
use Rattle.fact_set.specs.declared.FactSet.{FactSet}
use Rattle.flow.specs.Relation.{Rule}
use Rattle.flow.specs.declared.edge.Edge.{Edge}
use Rattle.flow.specs.declared.edge.Edge.TheVariants as edge
use Rattle.paths.specs.Machine.{both}
use Rattle.paths.specs.Table.{cell, number_of}
use Rattle.paths.specs.Tabled.{Tabled, find, is_found}
use Rattle.table.specs.Leads.{kind_of, first_of, second_of}
use Rattle.table.specs.Settling.{HasAll, AllSpread, IsBack, AreBack, spread, spread_fact, comes_back, enters, enters_at, answers_cell, answers_row, answers}
use Rattle.table.specs.State.{inner, Kept}
use Rattle.table.specs.declared.sites.CallSite.{CallSite}
use Rattle.table.specs.declared.sites.Lead.{Lead}
use Rattle.table.specs.declared.sites.Lead.TheVariants as lead
use Rattle.table.specs.declared.sites.ReturnSite.{ReturnSite}
use Rattle.table.specs.declared.state.Core.{Core}
use Rattle.table.proofs.Blocks.{lt_yes}
use Rattle.table.proofs.Sets.{Cut, find_idle, where_idle, still_found}
use Rattle.table.proofs.Turns.{all_idle}

-- what has come back stays
pub still_spread : (Q : Rule) (x : Edge) (d m a : ℕ) (s t : Core) → Kept s t → AllSpread Q x d m a s → AllSpread Q x d m a t
still_spread Q x d m a s t k h e l y =
    ap (λ (f : ℕ). is_found (number_of f (cell m a e)) (inner t)) k.facts ∙ still_found s t (number_of s.facts (cell m a e)) k (h e (omega (arith, k.facts)) y)

pub still_back : (Q : Rule) (x : CallSite) (b : FactSet) (s t : Core) → Kept s t → AreBack Q x b s → AreBack Q x b t
still_back Q x b s t k h z y = still_spread Q _ z _ _ s t k (h z y)

-- spreading to what is found already does nothing
spread_idle : (Q : Rule) (x : Edge) (d : ℕ) (by : Lead) (m a : ℕ) (t : Core) → AllSpread Q x d m a t → spread Q t.facts x d by m a (inner t) ≡ inner t
spread_idle Q x d by m a t h =
    sym (all_idle (spread_fact Q t.facts x d by m a) t.facts (inner t) (λ e l.
    where_idle (Q x d e) (find (kind_of by) (first_of by) (second_of by) (number_of t.facts (cell m a e))) (inner t)
    (λ y. find_idle (kind_of by) (first_of by) (second_of by) (number_of t.facts (cell m a e)) (inner t) (h e l y))))

-- nor does coming back from a fact from which all has come back, or with which the exit is not found
pub come_idle : (Q : Rule) (x : CallSite) (e z F : ℕ) (t : Core) → F ≡ t.facts
    → (is_found (number_of t.facts (cell x.callee.exit.0 e z)) (inner t) ≡ true → IsBack Q x z t) → comes_back Q F x e z (inner t) ≡ inner t
come_idle Q x e z F t q h =
    ap (λ (f : ℕ). comes_back Q f x e z (inner t)) q
    ∙ where_idle (is_found (number_of t.facts (cell x.callee.exit.0 e z)) (inner t))
    (spread Q t.facts (edge.Return x.site.spot.point x.site.statement x.callee.result) z (lead.Return x.site.cell (number_of t.facts (cell x.callee.exit.0 e z))) (x.site.spot.point.0 + 1) x.site.spot.origin.0)
    (inner t) (λ y. spread_idle Q (edge.Return x.site.spot.point x.site.statement x.callee.result) z
    (lead.Return x.site.cell (number_of t.facts (cell x.callee.exit.0 e z))) (x.site.spot.point.0 + 1) x.site.spot.origin.0 t (h y))

-- nor does answering a call behind which all is found
pub answers_idle : (Q : Rule) (y : FactSet) (s : ReturnSite) (t : Core) → HasAll y (s.caller.at.0 + 1) t
    → ((e : ℕ) → has y e ≡ Q (edge.Return s.caller.at s.caller.statement s.caller.result) s.exit.spot.fact.0 e) → inner t ≡ answers Q t.facts s (inner t)
answers_idle Q y s t all hy =
    let x : Edge = edge.Return s.caller.at s.caller.statement s.caller.result in
    let F : ℕ = t.facts in
    let by : ℕ → ℕ → Lead = λ b f. lead.Return (number_of F (cell s.caller.at.0 b f)) s.exit.cell in
    all_idle (answers_row Q F s) F (inner t) (λ b l.
    sym (all_idle (answers_cell Q F s b) F (inner t) (λ f m.
    where_idle (both (is_found (number_of F (cell s.caller.at.0 b f)) (inner t)) (Q (edge.Call s.caller.at s.caller.statement) f s.exit.spot.origin.0))
    (spread Q F x s.exit.spot.fact.0 (by b f) (s.caller.at.0 + 1) b) (inner t)
    (λ _. spread_idle Q x s.exit.spot.fact.0 (by b f) (s.caller.at.0 + 1) b t (λ e k q. all b l e k (hy e ∙ q))))))

pub enter_idle : (Q : Rule) (F : ℕ) (x : CallSite) (e : ℕ) (t : Tabled)
    → Q (edge.Call x.site.spot.point x.site.statement) x.site.spot.fact.0 e ≡ false → enters Q F x e t ≡ t
enter_idle Q F x e t h = where_idle _ (enters_at Q F x e) t (λ y. no (sym h ∙ y))
  where
    no : {A : Type 0} → false ≡ true → A
    no e = let z : ◌≡◌ {A = ℕ} 0 1 = cc in absurd (omega arith)

-- a fact more
pub more_back : (Q : Rule) (x : CallSite) (b only joined : FactSet) (z : ℕ) (t : Core) → AreBack Q x b t → IsBack Q x z t
    → ((d : ℕ) → has only d ≡ (nat_lt d 64 && d == z)) → ((d : ℕ) → has joined d ≡ (has b d || has only d)) → AreBack Q x joined t
more_back Q x b only joined z t old new o j d y = elim (either (has b d) (has only d) (sym (j d) ∙ y)) [
  | inl p ↦ old d p
  | inr p ↦ subst (λ (k : ℕ). IsBack Q x k t) (sym (eqb-true d z (second (nat_lt d 64) (d == z) (sym (o d) ∙ p)))) new
]
  where
    either : (p q : Bool) → (p || q) ≡ true → (p ≡ true) ⊎ (q ≡ true)
    either true q e = inl refl
    either false q e = inr e

    second : (p q : Bool) → (p && q) ≡ true → q ≡ true
    second true q e = e
    second false q e = let z : ◌≡◌ {A = ℕ} 0 1 = cc in absurd (omega arith)

-- what is left from fact k on: the facts of the exit's found cells from which not all has come back
exit_bits : (l f b k : Bool) → (((l && f) && not b) && k) ≡ true → (l ≡ true) × (f ≡ true) × (k ≡ true)
exit_bits true true false true h = (refl, refl, refl)
exit_bits true true true k h = let z : ◌≡◌ {A = ℕ} 0 1 = cc in absurd (omega arith)
exit_bits true true false false h = let z : ◌≡◌ {A = ℕ} 0 1 = cc in absurd (omega arith)
exit_bits true false b k h = let z : ◌≡◌ {A = ℕ} 0 1 = cc in absurd (omega arith)
exit_bits false f b k h = let z : ◌≡◌ {A = ℕ} 0 1 = cc in absurd (omega arith)

back_bits : (l f b k : Bool) → (((l && f) && not b) && k) ≡ false → l ≡ true → f ≡ true → k ≡ true → b ≡ true
back_bits true true true true h p q r = refl
back_bits true true false true h p q r = let z : ◌≡◌ {A = ℕ} 0 1 = cc in absurd (omega arith)
back_bits true true b false h p q r = let z : ◌≡◌ {A = ℕ} 0 1 = cc in absurd (omega arith)
back_bits true false b k h p q r = let z : ◌≡◌ {A = ℕ} 0 1 = cc in absurd (omega arith)
back_bits false f b k h p q r = let z : ◌≡◌ {A = ℕ} 0 1 = cc in absurd (omega arith)

module _ (F : ℕ) (found back diff left : FactSet) (next : ℕ) (now : ℕ → Bool)
    (found_is : (e : ℕ) → has found e ≡ (nat_lt e F && now e))
    (diff_is : (e : ℕ) → has diff e ≡ (has found e && not (has back e)))
    (left_is : (e : ℕ) → has left e ≡ (has diff e && nat_le next e)) where
  exit_all : (e : ℕ) → has left e ≡ (((nat_lt e F && now e) && not (has back e)) && nat_le next e)
  exit_all e =
      left_is e ∙ ap (λ (x : Bool). x && nat_le next e) (diff_is e) ∙ ap (λ (x : Bool). (x && not (has back e)) && nat_le next e) (found_is e)

  pub exit_yes : (e : ℕ) → has left e ≡ true → (e < F) × (now e ≡ true) × (next ≤ e)
  exit_yes e h =
      let z = exit_bits (nat_lt e F) (now e) (has back e) (nat_le next e) (sym (exit_all e) ∙ h) in
      (ltb-true e F z.0, z.1, leb-true next e z.2)

  pub exit_no : (e : ℕ) → has left e ≡ false → next ≤ e → e < F → now e ≡ true → has back e ≡ true
  exit_no e h m l y = back_bits (nat_lt e F) (now e) (has back e) (nat_le next e) (sym (exit_all e) ∙ h) (lt_yes e F l) y (le-leb next e m)

-- what is left from fact k on of a set cut to the facts below F
entry_bits : (s a l k : Bool) → ((s && (a && l)) && k) ≡ true → (s ≡ true) × (l ≡ true) × (k ≡ true)
entry_bits true true true true h = (refl, refl, refl)
entry_bits true true true false h = let z : ◌≡◌ {A = ℕ} 0 1 = cc in absurd (omega arith)
entry_bits true true false k h = let z : ◌≡◌ {A = ℕ} 0 1 = cc in absurd (omega arith)
entry_bits true false l k h = let z : ◌≡◌ {A = ℕ} 0 1 = cc in absurd (omega arith)
entry_bits false a l k h = let z : ◌≡◌ {A = ℕ} 0 1 = cc in absurd (omega arith)

out_bits : (s a l k : Bool) → ((s && (a && l)) && k) ≡ false → a ≡ true → l ≡ true → k ≡ true → s ≡ false
out_bits false a l k h p q r = refl
out_bits true true true true h p q r = h
out_bits true true true false h p q r = let z : ◌≡◌ {A = ℕ} 0 1 = cc in absurd (omega arith)
out_bits true true false k h p q r = let z : ◌≡◌ {A = ℕ} 0 1 = cc in absurd (omega arith)
out_bits true false l k h p q r = let z : ◌≡◌ {A = ℕ} 0 1 = cc in absurd (omega arith)

module _ (F : ℕ) (few : F ≤ 64) (s cut left : FactSet) (next : ℕ) (cut_to : Cut F s cut) (left_is : (e : ℕ) → has left e ≡ (has cut e && nat_le next e)) where
  entry_all : (e : ℕ) → has left e ≡ ((has s e && (nat_lt e 64 && nat_lt e F)) && nat_le next e)
  entry_all e = left_is e ∙ ap (λ (x : Bool). x && nat_le next e) (cut_to e)

  pub entry_yes : (e : ℕ) → has left e ≡ true → (has s e ≡ true) × (e < F) × (next ≤ e)
  entry_yes e h =
      let z = entry_bits (has s e) (nat_lt e 64) (nat_lt e F) (nat_le next e) (sym (entry_all e) ∙ h) in
      (z.0, ltb-true e F z.1, leb-true next e z.2)

  pub entry_no : (e : ℕ) → has left e ≡ false → next ≤ e → e < F → has s e ≡ false
  entry_no e h m l =
      out_bits (has s e) (nat_lt e 64) (nat_lt e F) (nat_le next e) (sym (entry_all e) ∙ h) (lt_yes e 64 (omega arith)) (lt_yes e F l) (le-leb next e m)
