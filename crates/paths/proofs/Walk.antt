-- The trail of a found cell is a call-matched path, in a table whose found cells are justified.
use Rattle.std.proofs.Common.{◌≡◌, ℕ, zero, suc, ◌+◌, ◌≤◌, T, List, [], ◌∷◌, Some, sym, subst, arith}
use Rattle.listing.specs.declared.numbers.Cell.{Cell}
use Rattle.listing.specs.declared.numbers.Proc.{Proc}
use Rattle.listing.specs.declared.statement.Statement.TheVariants.{Call}
use Rattle.flow.specs.Relation.{Rule}
use Rattle.moves.specs.declared.moves.Kind.{Kind}
use Rattle.moves.specs.declared.moves.Kind.TheVariants as kind
use Rattle.moves.specs.declared.moves.Move.{Move}
use Rattle.moves.specs.Words.{arrives}
use Rattle.paths.specs.Supergraph.{Supergraph, Lawful, by_call}
use Rattle.paths.specs.Paths.{Matched, start, step, past, call, return}
use Rattle.paths.specs.Table.{TableCell, cell, Table, Found, Before, Why, as_start, as_step, as_past, as_call, as_return, Justified}
use Rattle.paths.specs.Trail.{inner_by, outer_by, inner, outer, trail, called, PathTo}

module _ (P : Supergraph) (Q : Rule) (Start : ℕ → ℕ → Type 0) (N K : ℕ) (lawful : Lawful P N K) where
  -- the moves that a walk puts on a path to the entry of the cell's procedure go on to the cell
  abbrev Inside : (List Move → List Move) → ℕ → ℕ → ℕ → Type 0
  Inside back n a d = (p b : ℕ) (us : List Move) (open' : List ℕ)
      → Matched P Q p b us open' (P.entry (P.proc n)) a → Matched P Q p b (back us) open' n d

  re_enter : {p b e : ℕ} {us : List Move} {open' : List ℕ} {n m : ℕ} → P.proc m ≡ P.proc n
      → Matched P Q p b us open' (P.entry (P.proc m)) e → Matched P Q p b us open' (P.entry (P.proc n)) e
  re_enter {p} {b} {e} {us} {open'} same h = subst (λ (q : ℕ). Matched P Q p b us open' (P.entry q) e) same h

  into : {p b c f e : ℕ} {us : List Move} {open' : List ℕ} (D : Cell) (q : Proc) (S : Cell) → Matched P Q p b us open' c f
      → P.at c ≡ Some (Call D q S) → T (by_call Q c (Call D q S) f e)
      → (z : ℕ) → Matched P Q p b (called P (cell (P.exit q.0) e z) ∷ us) (c ∷ open') (P.entry (P.proc (P.exit q.0))) e
  into {p} {b} {c} {f} {e} {us} {open'} D q S h is yes' z =
      subst (λ (r : ℕ). Matched P Q p b (arrives kind.Call (P.entry r) e ∷ us) (c ∷ open') (P.entry r) e)
      (sym (lawful.exit_inside q.0 (lawful.callee c D q S is))) (call D q S h is yes')

  module _ (t : Table) (r : ℕ) (back : TableCell → List Move → List Move)
      (ih : (n a d : ℕ) → Before t r n a d → Inside (back (cell n a d)) n a d) where
    inside_by : {k : Kind} {u v : TableCell} {n a d : ℕ} → Why P Q Start t r k u v n a d → Inside (inner_by P back k u v (cell n a d)) n a d
    inside_by (as_start {p} {d} same s) p' b us open' h =
        subst (λ (q : ℕ). Matched P Q p' b us open' (P.entry q) d) same h
    inside_by (as_step {n} {a} {d} {m} {e} s h is follows yes') p' b us open' path =
        step s (ih n a d h p' b us open' (re_enter {n = n} {m = m} (lawful.step_inside n m s is follows) path)) is follows yes'
    inside_by (as_past {n} {a} {d} {e} D q S h is yes') p' b us open' path =
        past D q S (ih n a d h p' b us open' (re_enter {n = n} {m = n + 1} (lawful.past_inside n D q S is) path)) is yes'
    inside_by (as_call {n} {a} {d} {e} D q S h is yes') p' b us open' path =
        subst (λ (x : ℕ). Matched P Q p' b us open' (P.entry x) e) (lawful.entry_inside q.0 (lawful.callee n D q S is)) path
    inside_by (as_return {c} {b} {f} {e} {z} {y} D q S V h g is is_ret in' out) p' b' us open' path =
        return D q S V
        (ih (P.exit q.0) e z g p' b' _ (c ∷ open')
        (into D q S (ih c b f h p' b' us open' (re_enter {n = c} {m = c + 1} (lawful.past_inside c D q S is) path)) is in' z))
        is is_ret out

    module _ (out : TableCell → List Move) (ih' : (n a d : ℕ) → Before t r n a d → PathTo P Q Start (out (cell n a d)) n d) where
      outside_by : {k : Kind} {u v : TableCell} {n a d : ℕ} → Why P Q Start t r k u v n a d
          → PathTo P Q Start (outer_by P back out k u v (cell n a d)) n d
      outside_by (as_start {p} {d} same s) = record { proc = p; origin = d; accepted = s; open_calls = []; path = start }
      outside_by (as_step {n} {a} {d} {m} {e} s h is follows yes') =
          let w = ih' n a d h in
          record { proc = w.proc; origin = w.origin; accepted = w.accepted; open_calls = w.open_calls; path = step s w.path is follows yes' }
      outside_by (as_past {n} {a} {d} {e} D q S h is yes') =
          let w = ih' n a d h in
          record { proc = w.proc; origin = w.origin; accepted = w.accepted; open_calls = w.open_calls; path = past D q S w.path is yes' }
      outside_by (as_call {n} {a} {d} {e} D q S h is yes') =
          let w = ih' n a d h in
          record { proc = w.proc; origin = w.origin; accepted = w.accepted; open_calls = n ∷ w.open_calls; path = call D q S w.path is yes' }
      outside_by (as_return {c} {b} {f} {e} {z} {y} D q S V h g is is_ret in' go) =
          let w = ih' c b f h in
          record {
            proc = w.proc;
            origin = w.origin;
            accepted = w.accepted;
            open_calls = w.open_calls;
            path = return D q S V (ih (P.exit q.0) e z g w.proc w.origin _ (c ∷ w.open_calls) (into D q S w.path is in' z)) is is_ret go;
          }

  module _ (t : Table) (justified : Justified P Q Start t) where
    inside : (k n a d : ℕ) → Found t n a d → (t (cell n a d)).rank ≤ k → Inside (inner P t k (cell n a d)) n a d
    inside zero n a d f h = absurd (omega arith)
    inside (suc k) n a d f h =
        inside_by t (t (cell n a d)).rank (inner P t k) (λ n' a' d' b. inside k n' a' d' b.0 (omega arith)) (justified n a d f)

    outside : (k n a d : ℕ) → Found t n a d → (t (cell n a d)).rank ≤ k → PathTo P Q Start (outer P t k (cell n a d)) n d
    outside zero n a d f h = absurd (omega arith)
    outside (suc k) n a d f h =
        outside_by t (t (cell n a d)).rank (inner P t k) (λ n' a' d' b. inside k n' a' d' b.0 (omega arith))
        (outer P t k) (λ n' a' d' b. outside k n' a' d' b.0 (omega arith)) (justified n a d f)

    pub trail_path : (n a d : ℕ) → Found t n a d → PathTo P Q Start (trail P t (cell n a d)) n d
    trail_path n a d f = outside (t (cell n a d)).rank n a d f (omega arith)
