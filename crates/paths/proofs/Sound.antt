-- What is found is reached, in a table whose found cells are justified.
use Rattle.std.proofs.Common.{◌≡◌, ℕ, zero, suc, ◌≤◌, T, List, [], ◌∷◌, ◌++◌, Some, sym, subst, inl, inr, arith}
use Rattle.listing.specs.declared.numbers.Cell.{Cell}
use Rattle.listing.specs.declared.numbers.Proc.{Proc}
use Rattle.listing.specs.declared.statement.Statement.TheVariants.{Call}
use Rattle.flow.specs.Relation.{Rule}
use Rattle.moves.specs.declared.moves.Kind.{Kind}
use Rattle.moves.specs.declared.moves.Kind.TheVariants as kind
use Rattle.moves.specs.declared.moves.Move.{Move}
use Rattle.moves.specs.Words.{arrives}
use Rattle.paths.specs.Supergraph.{Supergraph, Lawful, by_call}
use Rattle.paths.specs.Paths.{Matched, start, step, past, call, return, ReachedPair, Entered, ReachedCell}
use Rattle.paths.specs.Table.{TableCell, cell, Table, Found, Before, Why, as_start, as_step, as_past, as_call, as_return, Justified}

module _ (P : Supergraph) (Q : Rule) where
  -- a path goes on where another ends; it may open calls on top of those open there
  pub joined : (p a : ℕ) {us : List Move} {open' : List ℕ} (q b : ℕ) {ws : List Move} {more : List ℕ} {n d : ℕ}
      → Matched P Q p a us open' (P.entry q) b → Matched P Q q b ws more n d
      → (vs : List Move) × Matched P Q p a vs (more ++ open') n d
  joined p a {us} q b h start = (us, h)
  joined p a q b h (step {m = m} {e} s before is follows yes') =
      let (vs, k) = joined p a q b h before in (_, step s k is follows yes')
  joined p a q b h (past D r S before is yes') =
      let (vs, k) = joined p a q b h before in (_, past D r S k is yes')
  joined p a q b h (call D r S before is yes') =
      let (vs, k) = joined p a q b h before in (_, call D r S k is yes')
  joined p a q b h (return D r S V before is is_ret yes') =
      let (vs, k) = joined p a q b h before in (_, return D r S V k is is_ret yes')

  module _ (Start : ℕ → ℕ → Type 0) where
    -- a reached cell's pair is reached
    pub pair_of : {n a d : ℕ} → ReachedCell P Q Start n a d → ReachedPair P Q Start n d
    pair_of {n} {a} {d} r = go r.entered
      where
        go : Entered P Q Start (P.proc n) a → ReachedPair P Q Start n d
        go (inl s) = record { proc = P.proc n; origin = a; accepted = s; moves = r.moves; open_calls = []; path = r.path }
        go (inr c) =
            let (vs, k) = joined c.proc c.origin (P.proc n) a c.path r.path in
            record { proc = c.proc; origin = c.origin; accepted = c.accepted; moves = vs; open_calls = c.open_calls; path = k }

    -- the entry of the callee is entered from a reached call
    entered_by : {c b f e : ℕ} (D : Cell) (q : Proc) (S : Cell) → ReachedCell P Q Start c b f
        → P.at c ≡ Some (Call D q S) → T (by_call Q c (Call D q S) f e) → Entered P Q Start q.0 e
    entered_by {c} D q S r is yes' =
        let u = pair_of r in
        inr (record { proc = u.proc; origin = u.origin; accepted = u.accepted; moves = u.moves; open_calls = c ∷ u.open_calls; path = call D q S u.path is yes' })

    -- a cell in the same procedure, with the same origin
    along : {n a d m e : ℕ} → P.proc m ≡ P.proc n → ReachedCell P Q Start n a d
        → ((ws : List Move) → Matched P Q (P.proc n) a ws [] n d → (vs : List Move) × Matched P Q (P.proc n) a vs [] m e)
        → ReachedCell P Q Start m a e
    along {n} {a} {d} {m} {e} same r go =
        let (vs, k) = go r.moves r.path in
        record {
          entered = subst (λ (p : ℕ). Entered P Q Start p a) (sym same) r.entered;
          moves = vs;
          path = subst (λ (p : ℕ). Matched P Q p a vs [] m e) (sym same) k;
        }

    at_entry : {q e : ℕ} → P.proc (P.entry q) ≡ q → Entered P Q Start q e → ReachedCell P Q Start (P.entry q) e e
    at_entry {q} {e} same h =
        record {
          entered = subst (λ (p : ℕ). Entered P Q Start p e) (sym same) h;
          moves = _;
          path = subst (λ (p : ℕ). Matched P Q p e (arrives kind.Start (P.entry q) e ∷ []) [] (P.entry q) e) (sym same) start;
        }

    module _ (N K : ℕ) (lawful : Lawful P N K) (t : Table) where
      -- one justification: what was found before is reached, so the cell is
      because : (r : ℕ) → ((n a d : ℕ) → Before t r n a d → ReachedCell P Q Start n a d)
          → {k : Kind} {u v : TableCell} {n a d : ℕ} → Why P Q Start t r k u v n a d → ReachedCell P Q Start n a d
      because r ih (as_start same s) = at_entry same (inl s)
      because r ih (as_step {n} {a} {d} {m} {e} s h is follows yes') =
          along (lawful.step_inside n m s is follows) (ih n a d h) (λ ws k. (_, step s k is follows yes'))
      because r ih (as_past {n} {a} {d} {e} D q S h is yes') =
          along (lawful.past_inside n D q S is) (ih n a d h) (λ ws k. (_, past D q S k is yes'))
      because r ih (as_call {n} {a} {d} {e} D q S h is yes') =
          at_entry (lawful.entry_inside q.0 (lawful.callee n D q S is)) (entered_by D q S (ih n a d h) is yes')
      because r ih (as_return {c} {b} {f} {e} {z} {y} D q S V h g is is_ret in' out) =
          along (lawful.past_inside c D q S is) (ih c b f h)
          (λ ws k.
          let inner = ih (P.exit q.0) e z g in
          let path : Matched P Q q.0 e inner.moves [] (P.exit q.0) z =
          subst (λ (p : ℕ). Matched P Q p e inner.moves [] (P.exit q.0) z) (lawful.exit_inside q.0 (lawful.callee c D q S is)) inner.path in
          let (vs, l) = joined (P.proc c) b q.0 e (call D q S k is in') path in
          (_, return D q S V l is is_ret out))

      module _ (justified : Justified P Q Start t) where
        below : (k n a d : ℕ) → Found t n a d → (t (cell n a d)).rank ≤ k → ReachedCell P Q Start n a d
        below zero n a d f h = absurd (omega arith)
        below (suc k) n a d f h =
            because (t (cell n a d)).rank (λ n' a' d' b. below k n' a' d' b.0 (omega arith)) (justified n a d f)

        pub cell_reached : (n a d : ℕ) → Found t n a d → ReachedCell P Q Start n a d
        cell_reached n a d f = below (t (cell n a d)).rank n a d f (omega arith)

        pub pair_reached : (n d : ℕ) → (a : ℕ) × Found t n a d → ReachedPair P Q Start n d
        pair_reached n d f = pair_of (cell_reached n f.0 d f.1)
