-- A list of calls is a row.
use Rattle.std.proofs.Common.{◌≡◌, ℕ, zero, suc, ◌<◌, Bool, true, false, cond, T, eqb, ltb, List, [], ◌∷◌, length, Some, None, Option, sym, refl, subst, inl, inr, arith, eqb→eq, ltb→lt, lt→ltb}
use Rattle.flow.specs.Relation.{Rule, Within}
use Rattle.paths.specs.Supergraph.{Supergraph, Lawful}
use Rattle.paths.specs.Table.{TableCell, cell}
use Rattle.paths.specs.Machine.{both, State, sow, is_found}
use Rattle.paths.specs.Rows.{Mode, Open, Closed, Report, pairs_below, After, AtRest, Row, newly_opened, sown, worked, closed, reopened, begun, lined, footed, abandoned}
use Rattle.paths.specs.Calls.{Asks, Sow, Work, Close, Reopen, Begin, Abandon, Line, Foot, Trail, Whole, in_mode, is_empty, later, least, on_open, on_closed, on_report, by_mode, run, Led, Kept}
use Rattle.paths.proofs.Grow.{IsFound, both_left, both_right}
use Rattle.paths.proofs.Loops.{below_suc}
use Rattle.paths.proofs.Cover.{after}

empty_is : (cs : List TableCell) → T (is_empty cs) → cs ≡ []
empty_is [] t = refl
empty_is (c ∷ cs) t = absurd t

module _ (P : Supergraph) (Q : Rule) (N K F : ℕ) where
  abbrev R : Whole → Type 0
  R w = Row P Q N K F w.mode w.state w.starts

  chosen : (b : Bool) (w w' : Whole) → (T b → R w) → R w' → R (cond b w w')
  chosen true w w' h h' = h tt
  chosen false w w' h h' = h'

  open_row : (a : Asks) (w : Whole) → Row P Q N K F Open w.state w.starts → R w → R (on_open P Q N K F a w)
  open_row (Sow p d) w o r =
      chosen (both (ltb p K) (ltb d F)) (record { mode = Open; state = sow P Q N F p d w.state; starts = (p, d) ∷ w.starts }) w
      (λ t. sown p d o (ltb→lt p K (both_left (ltb p K) (ltb d F) t)) (ltb→lt d F (both_right (ltb p K) (ltb d F) t))) r
  open_row (Work k end) w o r = worked k end o
  open_row Close w o r = chosen (is_empty w.state.waiting) (in_mode Closed w) w (λ t. closed o (empty_is w.state.waiting t)) r
  open_row Reopen w o r = r
  open_row Begin w o r = r
  open_row Abandon w o r = r
  open_row (Line fits) w o r = r
  open_row (Foot fits) w o r = r
  open_row (Trail n d) w o r = r

  closed_row : (a : Asks) (w : Whole) → Row P Q N K F Closed w.state w.starts → R w → R (on_closed P Q N K F a w)
  closed_row (Sow p d) w o r = r
  closed_row (Work k end) w o r = r
  closed_row Close w o r = r
  closed_row Reopen w o r = reopened o
  closed_row Begin w o r = begun o
  closed_row Abandon w o r = r
  closed_row (Line fits) w o r = r
  closed_row (Foot fits) w o r = r
  closed_row (Trail n d) w o r = r

  report_row : (i : ℕ) (a : Asks) (w : Whole) → Row P Q N K F (Report i) w.state w.starts → R w → R (on_report P Q N K F i a w)
  report_row i (Sow p d) w o r = r
  report_row i (Work k end) w o r = r
  report_row i Close w o r = r
  report_row i Reopen w o r = r
  report_row i Begin w o r = r
  report_row i Abandon w o r = abandoned o
  report_row i (Line fits) w o r =
      chosen (both fits (ltb i (length (pairs_below F N w.state)))) (in_mode (Report (suc i)) w) w
      (λ t. lined o (ltb→lt i (length (pairs_below F N w.state)) (both_right fits (ltb i (length (pairs_below F N w.state))) t))) r
  report_row i (Foot fits) w o r =
      chosen (both fits (eqb i (length (pairs_below F N w.state)))) (in_mode Closed w) w
      (λ t. footed o (eqb→eq i (length (pairs_below F N w.state)) (both_right fits (eqb i (length (pairs_below F N w.state))) t))) r
  report_row i (Trail n d) w o r = r

  mode_row : (m : Mode) (a : Asks) (w : Whole) → w.mode ≡ m → R w → R (by_mode P Q N K F m a w)
  mode_row Open a w e r = open_row a w (subst (λ (m : Mode). Row P Q N K F m w.state w.starts) e r) r
  mode_row Closed a w e r = closed_row a w (subst (λ (m : Mode). Row P Q N K F m w.state w.starts) e r) r
  mode_row (Report i) a w e r = report_row i a w (subst (λ (m : Mode). Row P Q N K F m w.state w.starts) e r) r

  run_row : (calls : List Asks) → R (run P Q N K F calls)
  run_row [] = newly_opened
  run_row (a ∷ before) = mode_row (run P Q N K F before).mode a (run P Q N K F before) refl (run_row before)

  -- the least a is found, or none is
  abbrev Least : Option ℕ → ℕ → ℕ → ℕ → State → Type 0
  Least None k n d st = (a : ℕ) → a < k → IsFound st (cell n a d) → ⊥
  Least (Some a) k n d st = IsFound st (cell n a d)

  least_is : (k n d : ℕ) (st : State) → Least (least k n d st) k n d st
  least_is zero n d st = λ a h f. absurd (omega arith)
  least_is (suc k) n d st =
      go (is_found (cell n k d) st) (least k n d st) (ltb→lt 0 (st.table (cell n k d)).rank) (lt→ltb 0 (st.table (cell n k d)).rank) (least_is k n d st)
    where
      go : (b : Bool) (o : Option ℕ) → (T b → IsFound st (cell n k d)) → (IsFound st (cell n k d) → T b) → Least o k n d st
          → Least (later b k o) (suc k) n d st
      go true None h h' l = h tt
      go false None h h' l = λ a lt f. elim (below_suc a k lt)
          [ inl p ↦ l a p f | inr p ↦ h' (subst (λ (j : ℕ). IsFound st (cell n j d)) (sym p) f) ]
      go true (Some b) h h' l = l
      go false (Some b) h h' l = l

  pub kept : Lawful P N K → Within F Q → (calls : List Asks) → Kept P Q N K F (run P Q N K F calls)
  kept lawful bounded calls = record {
    after = all;
    trail_to = λ e n d. led n d (least F n d w.state) (subst AtRest (sym e) tt) (least_is F n d w.state);
  }
    where
      w : Whole
      w = run P Q N K F calls

      all : After P Q N F w.mode w.state w.starts
      all = after P Q N K F lawful bounded w.mode w.state w.starts (run_row calls)

      led : (n d : ℕ) (o : Option ℕ) → AtRest w.mode → Least o F n d w.state → Led P Q N K F o w n d
      led n d None rest l = λ r. let (a, f) = ((all.exact rest).pairs n d).1 r in l a (all.range n a d f).1 f
      led n d (Some a) rest l = all.trails n a d l
