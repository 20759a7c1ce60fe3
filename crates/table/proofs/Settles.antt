-- The parts in which a cell is settled make the whole.
use Rattle.std.proofs.Common.{◌≡◌, ℕ, ◌+◌, ◌<◌, true, Some, None, Option, sym, refl, ap, ◌∙◌, arith}
use Rattle.std.specs.List.{slice_get}
use Rattle.std.specs.Option.{option_map}
use Rattle.listing.specs.declared.numbers.Cell.{Cell}
use Rattle.listing.specs.declared.numbers.Point.{Point}
use Rattle.listing.specs.declared.numbers.Proc.{Proc}
use Rattle.listing.specs.declared.control.Control.TheVariants as control
use Rattle.listing.specs.declared.statement.Statement.{Statement}
use Rattle.listing.specs.declared.statement.Statement.TheVariants.{Set, Move, Add, Read, Send, Goto, Test, Call, Ret, Trim}
use Rattle.listing.specs.Lawful.{is_lawful}
use Rattle.listing.specs.Meaning.{Meaning, flow, size, procs, point, statement_at, exit_of}
use Rattle.listing.specs.Procedures.{exit}
use Rattle.listing.specs.Statements.{controlled}
use Rattle.listing.proofs.Lists.{nth_map}
use Rattle.flow.specs.declared.edge.Edge.TheVariants as edge
use Rattle.flow.specs.Relation.{Rule}
use Rattle.moves.specs.declared.moves.Kind.TheVariants as kind
use Rattle.paths.proofs.Callees.{below_some}
use Rattle.paths.proofs.Listed.{listing, exit_ret}
use Rattle.paths.specs.Machine.{calling, shape}
use Rattle.paths.specs.Supergraph.{Supergraph, graph_of}
use Rattle.paths.specs.Table.{cell, number_of}
use Rattle.paths.specs.Tabled.{Tabled, cell_at, find, is_found, each, where_yes, return_by, settle_by, settle}
use Rattle.table.specs.Settling.{Callable, Called, Onward, steps, passes, all_enter}
use Rattle.table.specs.State.{cell_of}
use Rattle.table.specs.declared.sites.CallSite.{CallSite}
use Rattle.table.specs.declared.sites.Callee.{Callee}
use Rattle.table.specs.declared.sites.Site.{Site}
use Rattle.table.specs.declared.sites.Spot.{Spot}

module _ (m : Meaning) (Q : Rule) (F : ℕ) where
  abbrev P : Supergraph
  P = graph_of m

  abbrev N : ℕ
  N = size m

  -- what is settled is told by the statement at the cell's point
  pub at_spot : (spot : Spot) (c : ℕ) (o : Option (Statement Cell)) (t : Tabled) → cell_of spot ≡ cell_at F c → o ≡ statement_at m spot.point
      → settle_by P Q N F (shape o) (cell_of spot) t ≡ settle P Q N F (cell_at F c) t
  at_spot spot c o t e is =
      ap (λ (o : Option (Statement Cell)). settle_by P Q N F (shape o) (cell_of spot) t) is ∙ ap (λ x. settle P Q N F x t) e

  -- the site of a spot
  abbrev site : Spot → Statement Cell → Site
  site spot s = record { spot = spot; cell = number_of F (cell_of spot); statement = s }

  abbrev calling_to : Site → Callee → CallSite
  calling_to x callee = record { site = x; callee = callee }

  module _ (x : Site) (number : x.cell ≡ number_of F (cell_of x.spot)) where
    sited : x ≡ site x.spot x.statement
    sited = λ i. record { spot = x.spot; cell = number i; statement = x.statement }

    pub plain : ((D : Cell) (q : Proc) (S : Cell) → x.statement ≡ Call D q S → ⊥) → ((V : Cell) → x.statement ≡ Ret V → ⊥)
        → (t : Tabled) → steps Q F x t ≡ settle_by P Q N F (shape (Some x.statement)) (cell_of x.spot) t
    plain no_call no_ret t = ap (λ (y : Site). steps Q F y t) sited ∙ by_statement x.statement no_call no_ret
      where
        by_statement : (s : Statement Cell) → ((D : Cell) (q : Proc) (S : Cell) → s ≡ Call D q S → ⊥) → ((V : Cell) → s ≡ Ret V → ⊥)
            → steps Q F (site x.spot s) t ≡ settle_by P Q N F (shape (Some s)) (cell_of x.spot) t
        by_statement (Set D) c r = refl
        by_statement (Move D S) c r = refl
        by_statement (Add D S T) c r = refl
        by_statement (Read D) c r = refl
        by_statement (Send S) c r = refl
        by_statement (Goto K) c r = refl
        by_statement (Test S K) c r = refl
        by_statement (Call D q S) c r = absurd (c D q S refl)
        by_statement (Ret S) c r = absurd (r S refl)
        by_statement (Trim D S) c r = refl

    module _ (D : Cell) (q : Proc) (S : Cell) (is : x.statement ≡ Call D q S) where
      calling_site : x ≡ site x.spot (Call D q S)
      calling_site = sited ∙ ap (site x.spot) is

      -- into a callee that is entered at E and left at X, where o stands
      abbrev into : ℕ → ℕ → Option (Statement Cell) → Tabled → Tabled
      into E X o = each F (λ e. where_yes (Q (edge.Call x.spot.point (Call D q S)) x.spot.fact.0 e)
          (λ t. each F (λ z t'. where_yes (is_found (number_of F (cell X e z)) t') (return_by P Q N F (shape o) (Call D q S) (cell_of x.spot) (cell X e z)) t')
          (find kind.Call (number_of F (cell_of x.spot)) 0 (number_of F (cell E e e)) t)))

      pub call : (callee : Callee) → Called m q callee → (t : Tabled)
          → all_enter Q F (calling_to x callee) (passes Q F (calling_to x callee) t) ≡ settle_by P Q N F (calling D q S) (cell_of x.spot) t
      call callee is-called t =
          let y : Site = site x.spot (Call D q S) in
          let at_exit : Some (Ret callee.result) ≡ P.at (P.exit q.0) =
          sym is-called.result ∙ ap (λ (k : ℕ). P.at k) is-called.exit in
          let u : Tabled = passes Q F (calling_to y callee) t in
          ap (λ (z : Site). all_enter Q F (calling_to z callee) (passes Q F (calling_to z callee) t)) calling_site
          ∙ ap (λ (E : ℕ). into E callee.exit.0 (Some (Ret callee.result)) u) is-called.entry
          ∙ ap (λ (X : ℕ). into (P.entry q.0) X (Some (Ret callee.result)) u) is-called.exit
          ∙ ap (λ (o : Option (Statement Cell)). into (P.entry q.0) (P.exit q.0) o u) at_exit

-- where a lawful program goes on
module _ (m : Meaning) (lawful : is_lawful m ≡ true) (points : ℕ) (same : points ≡ size m) where
  pub goes_on : (n : Point) (s : Statement Cell) → Some s ≡ statement_at m n → Onward points n.0 s
  goes_on n s is = record { below = λ k f. let b = (listing m lawful).step_within n.0 k s (sym is) f in omega arith }

  pub behind : (n : Point) (D : Cell) (q : Proc) (S : Cell) → Some (Call D q S) ≡ statement_at m n → n.0 + 1 < points
  behind n D q S is = let b = (listing m lawful).past_within n.0 D q S (sym is) in omega arith

  pub callable : (q : Proc) (callee : Callee) → Called m q callee → Callable points callee
  callable q callee c = record {
    entry = (let b = (listing m lawful).entry_within q.0 c.below in omega (arith, c.entry));
    exit = (let b = (listing m lawful).within callee.exit.0 (Ret callee.result) c.result in omega arith);
  }

-- the exit of a procedure is a `ret`
module _ (m : Meaning) (p : Proc) (x : Point) (is : Some x ≡ exit_of m p) where
  pub exit_at : (p.0 < procs m) × (x.0 ≡ exit (flow m) p.0)
  exit_at = let b = below_some p.0 (procs m) (point (exit (flow m) p.0)) x is in (b.0, sym (ap (λ (k : Point). k.0) b.1))

  controls : slice_get (flow m) x.0 ≡ Some control.Ret
  controls = ap (slice_get (flow m)) exit_at.1 ∙ exit_ret (flow m) p.0 exit_at.0

  pub some_exit : None ≡ statement_at m x → ⊥
  some_exit none =
      let c : None ≡ Some control.Ret = sym (nth_map controlled m.statements x.0 ∙ ap (option_map controlled) (sym none)) ∙ controls in
      let z : ◌≡◌ {A = ℕ} 0 1 = cc in
      omega arith

  pub ret_exit : (s : Statement Cell) → Some s ≡ statement_at m x → ((V : Cell) → s ≡ Ret V → ⊥) → ⊥
  ret_exit s at no_ret =
      let c : Some (controlled s) ≡ Some control.Ret = sym (nth_map controlled m.statements x.0 ∙ ap (option_map controlled) (sym at)) ∙ controls in
      by_statement s (cc) no_ret
    where
      by_statement : (s : Statement Cell) → controlled s ≡ control.Ret → ((V : Cell) → s ≡ Ret V → ⊥) → ⊥
      by_statement (Set D) e r = let z : ◌≡◌ {A = ℕ} 0 1 = cc in omega arith
      by_statement (Move D S) e r = let z : ◌≡◌ {A = ℕ} 0 1 = cc in omega arith
      by_statement (Add D S T) e r = let z : ◌≡◌ {A = ℕ} 0 1 = cc in omega arith
      by_statement (Read D) e r = let z : ◌≡◌ {A = ℕ} 0 1 = cc in omega arith
      by_statement (Send S) e r = let z : ◌≡◌ {A = ℕ} 0 1 = cc in omega arith
      by_statement (Goto K) e r = let z : ◌≡◌ {A = ℕ} 0 1 = cc in omega arith
      by_statement (Test S K) e r = let z : ◌≡◌ {A = ℕ} 0 1 = cc in omega arith
      by_statement (Call D q S) e r = let z : ◌≡◌ {A = ℕ} 0 1 = cc in omega arith
      by_statement (Ret S) e r = r S refl
      by_statement (Trim D S) e r = let z : ◌≡◌ {A = ℕ} 0 1 = cc in omega arith
