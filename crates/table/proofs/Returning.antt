-- Returning to the cells of a call under one origin.
use Rattle.std.proofs.Common.{◌≡◌, ℕ, ◌+◌, ◌*◌, ◌<◌, Bool, true, false, ◌&&◌, nat_lt, vec_items, sym, refl, ap, ◌∙◌, arith}
use Rattle.std.proofs.lemmas.Bool.{ltb-true}
use Rattle.fact_set.specs.Sets.{has}
use Rattle.fact_set.specs.declared.FactSet.{FactSet}
use Rattle.flow.specs.Relation.{Rule}
use Rattle.flow.specs.declared.edge.Edge.TheVariants as edge
use Rattle.moves.specs.declared.moves.Kind.TheVariants as kind
use Rattle.paths.specs.Machine.{both}
use Rattle.paths.specs.Table.{cell, number_of}
use Rattle.paths.specs.Tabled.{Tabled, each, find, is_found, where_yes}
use Rattle.table.specs.Settling.{finds, finds_one, returns_one, returns_block, returns, answers}
use Rattle.table.specs.State.{inner, block_of, Found}
use Rattle.table.specs.declared.sites.Lead.{Lead}
use Rattle.table.specs.declared.sites.Lead.TheVariants as lead
use Rattle.table.specs.declared.sites.ReturnSite.{ReturnSite}
use Rattle.table.specs.declared.state.Core.{Core}
use Rattle.table.proofs.Blocks.{lt_yes}
use Rattle.table.proofs.Finds.{rank_of}
use Rattle.table.proofs.Sets.{where_idle, one_idle}
use Rattle.table.proofs.Turns.{skip_to, all_idle, turn, taken_yes}

-- a cell of the table that is found
pub is_of : (t : Core) (c : ℕ) → c < t.size → is_found c (inner t) ≡ true → Found t c
is_of t c h f = record {
  within = h;
  ranked = (let r = rank_of (vec_items t.records) t.points t.facts t.found t.head t.tail c in let l = ltb-true 0 _ f in omega arith);
}

no : {A : Type 0} → false ≡ true → A
no e = let z : ◌≡◌ {A = ℕ} 0 1 = cc in absurd (omega arith)

both_is : (p q : Bool) → (p && q) ≡ both p q
both_is true q = refl
both_is false q = refl

-- where the set r has the facts of the block c that are found and in x: fact f is in it, or not
pub source_is : (F c f : ℕ) (found x r : FactSet) (t : Tabled) → f < F → has found f ≡ (nat_lt f F && is_found (c * F + f) t) → has r f ≡ (has found f && has x f)
    → has r f ≡ both (is_found (c * F + f) t) (has x f)
source_is F c f found x r t l h k =
    k ∙ ap (λ (z : Bool). z && has x f) (h ∙ ap (λ (z : Bool). z && is_found (c * F + f) t) (lt_yes f F l)) ∙ both_is (is_found (c * F + f) t) (has x f)

pub source_below : (F f : ℕ) (now : Bool) (found x r : FactSet) → has found f ≡ (nat_lt f F && now) → has r f ≡ (has found f && has x f) → has r f ≡ true → f < F
source_below F f now found x r h k y = ltb-true f F (first_of_both (nat_lt f F) now (sym h ∙ first_of_both (has found f) (has x f) (sym k ∙ y)))
  where
    first_of_both : (p q : Bool) → (p && q) ≡ true → p ≡ true
    first_of_both true q e = refl
    first_of_both false q e = e

pub is_source : (F c f : ℕ) (found x r : FactSet) (t : Tabled) → has found f ≡ (nat_lt f F && is_found (c * F + f) t) → has r f ≡ (has found f && has x f) → has r f ≡ true
    → is_found (c * F + f) t ≡ true
is_source F c f found x r t h k y =
    both_first (is_found (c * F + f) t) (has x f) (sym (source_is F c f found x r t (source_below F f (is_found (c * F + f) t) found x r h k y) h k) ∙ y)
  where
    both_first : (p q : Bool) → both p q ≡ true → p ≡ true
    both_first true q e = refl
    both_first false q e = e

module _ (F : ℕ) (x y : FactSet) (s : ReturnSite) (b : ℕ) (t : Tabled) where
  abbrev source : ℕ → Bool
  source f = both (is_found (number_of F (cell s.caller.at.0 b f)) t) (has x f)

  abbrev by : ℕ → Lead
  by f = lead.Return (number_of F (cell s.caller.at.0 b f)) s.exit.cell

  abbrev next : ℕ
  next = block_of F (s.caller.at.0 + 1) b

  one : (f : ℕ) → source f ≡ false → returns_one F x y s b f t ≡ t
  one f h = where_idle (source f) (finds F y (by f) next) t (λ z. no (sym h ∙ z))

  pub no_source : ((f : ℕ) → f < F → source f ≡ false) → t ≡ returns_block F x y s b t
  no_source h = all_idle (returns_one F x y s b) F t (λ f l. one f (h f l))

  pub one_source : (f : ℕ) → f < F → ((g : ℕ) → g < f → source g ≡ false) → source f ≡ true
      → (u : Tabled) → u ≡ finds F y (by f) next t
      → ((e : ℕ) → e < F → has y e ≡ true → is_found (next * F + e) u ≡ true)
      → u ≡ returns_block F x y s b t
  one_source f l before here u is all =
      let w = all_idle (returns_one F x y s b) f t (λ g h. one g (before g h)) in
      let v = turn (returns_one F x y s b) f t t u w (taken_yes (source f) (finds F y (by f) next) t u (sym here) is) in
      skip_to (returns_one F x y s b) t u (f + 1) F (omega arith) v
      (λ k m h. where_idle (both (is_found (number_of F (cell s.caller.at.0 b k)) u) (has x k)) (finds F y (by k) next) u
      (λ _. sym (all_idle (finds_one F y (by k) next) F u (λ d h'. one_idle F y (by k) next d u (all d h')))))

-- the sets are the problem's
pub answers_is : (Q : Rule) (F : ℕ) (x y : FactSet) (s : ReturnSite) (t : Tabled)
    → ((f : ℕ) → has x f ≡ Q (edge.Call s.caller.at s.caller.statement) f s.exit.spot.origin.0)
    → ((e : ℕ) → has y e ≡ Q (edge.Return s.caller.at s.caller.statement s.caller.result) s.exit.spot.fact.0 e)
    → returns F x y s t ≡ answers Q F s t
answers_is Q F x y s t hx hy =
    λ i. each F (λ b. each F (λ f u. where_yes (both (is_found (number_of F (cell s.caller.at.0 b f)) u) (hx f i))
    (each F (λ e. where_yes (hy e i) (find kind.Return (number_of F (cell s.caller.at.0 b f)) s.exit.cell (block_of F (s.caller.at.0 + 1) b * F + e)))) u)) t
