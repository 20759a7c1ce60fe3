-- What settling a cell leaves found.
use Rattle.std.proofs.Common.{◌≡◌, ℕ, suc, ◌+◌, ◌<◌, Bool, T, eqb, ◌⊎◌, Some, None, Option, sym, refl, ap, ◌∙◌, subst, inl, inr, arith, eqb→eq, ltb→lt, lt→ltb}
use lib.Dec.{eqb_refl}
use Rattle.listing.specs.declared.numbers.Cell.{Cell}
use Rattle.listing.specs.declared.numbers.Proc.{Proc}
use Rattle.listing.specs.declared.statement.Statement.{Statement}
use Rattle.listing.specs.declared.statement.Statement.TheVariants.{Set, Move, Add, Read, Send, Goto, Test, Call, Ret, Trim}
use Rattle.flow.specs.Relation.{Rule, Within}
use Rattle.moves.specs.declared.moves.Kind.{Kind}
use Rattle.moves.specs.declared.moves.Kind.TheVariants as kind
use Rattle.paths.specs.Supergraph.{successors, Supergraph, Follows, Lawful, by_step, by_past, by_call, by_return}
use Rattle.paths.proofs.Bounds.{step_bound, past_bound, return_bound}
use Rattle.paths.specs.Table.{TableCell, cell, Before, Why, as_step, as_past, as_call, as_return}
use Rattle.paths.specs.Machine.{both, State, no_cell, find, each, where_yes, is_found, Shape, straight, calling, returning, nothing, shape, step_each, past_each, return_each, return_by, exit_each, call_each, caller_by, caller_each, settle_by, settle}
use Rattle.paths.proofs.Grow.{both_left, both_right, both_two, IsFound, Waits, find_found, Grow, same, grow_trans, grow_one, grow_found, grow_waits, grow_new, Base, grow_base}
use Rattle.paths.proofs.Loops.{Stable, each_grows, each_of_grows, where_grows}

-- the statement that a shape stands for
abbrev pub of_shape : Shape → Option (Statement Cell)
of_shape (straight s) = Some s
of_shape (calling D p S) = Some (Call D p S)
of_shape (returning V) = Some (Ret V)
of_shape nothing = None

pub of_shape_is : (o : Option (Statement Cell)) → o ≡ of_shape (shape o)
of_shape_is None = refl
of_shape_is (Some (Set D)) = refl
of_shape_is (Some (Move D S)) = refl
of_shape_is (Some (Add D S T)) = refl
of_shape_is (Some (Read D)) = refl
of_shape_is (Some (Send S)) = refl
of_shape_is (Some (Goto K)) = refl
of_shape_is (Some (Test S K)) = refl
of_shape_is (Some (Call D p S)) = refl
of_shape_is (Some (Ret V)) = refl
of_shape_is (Some (Trim D S)) = refl

module _ (P : Supergraph) (Q : Rule) (Start : ℕ → ℕ → Type 0) (N K F : ℕ) (lawful : Lawful P N K) (bounded : Within F Q)
    (start_ok : (p d : ℕ) → Start p d → (p < K) × (d < F)) where
  abbrev G : State → State → Type 0
  G = Grow P Q Start

  abbrev B : State → Type 0
  B = Base P Q Start N F

  abbrev Ok : TableCell → State → Type 0
  Ok c st = IsFound st c × B st

  ok_stable : (c : TableCell) → Stable P Q Start (Ok c)
  ok_stable c st st' g ok = (grow_found P Q Start g c ok.0, grow_base P Q Start N K F lawful bounded start_ok ok.1 g)

  before : (n a d : ℕ) (st : State) → Ok (cell n a d) st → Before st.table (suc st.found) n a d
  before n a d st ok = (ok.0, (let r = ok.1.ranked (cell n a d) in omega arith))

  -- one finding behind a test
  one : (c : TableCell) (st : State) (b : Bool) (k : Kind) (u v : TableCell) (n a d : ℕ)
      → (T b → Why P Q Start st.table (suc st.found) k u v n a d)
      → G st (where_yes b (find k u v (cell n a d)) st) × (T b → IsFound (where_yes b (find k u v (cell n a d)) st) (cell n a d))
  one c st b k u v n a d why =
      where_grows P Q Start (λ st'. IsFound st' (cell n a d)) (find k u v (cell n a d)) st b
      (λ t. (grow_one P Q Start (why t), find_found k u v (cell n a d) st))

  found_stable : (A : Type 0) (x : TableCell) → Stable P Q Start (λ st. A → IsFound st x)
  found_stable A x st st' g h = λ a. grow_found P Q Start g x (h a)

  step_settles : (s : Statement Cell) (n a d : ℕ) → P.at n ≡ Some s → (st : State) → Ok (cell n a d) st
      → G st (step_each P Q N F s (cell n a d) st)
      × ((m e : ℕ) → Follows n s m → T (by_step Q n s d e) → IsFound (step_each P Q N F s (cell n a d) st) (cell m a e))
  step_settles s n a d is st ok =
      let r = each_of_grows P Q Start (Ok (cell n a d)) (ok_stable (cell n a d))
      (λ m st'. (e : ℕ) → e < F → T (by_step Q n s d e) → IsFound st' (cell m a e))
      (λ m st₁ st₂ g h e lt t. grow_found P Q Start g (cell m a e) (h e lt t))
      (λ m. each F (λ e. where_yes (by_step Q n s d e) (find kind.Step (cell n a d) no_cell (cell m a e))))
      (successors n s)
      (λ m follows st₁ ok₁.
      each_grows P Q Start (Ok (cell n a d)) (ok_stable (cell n a d))
      (λ e st'. T (by_step Q n s d e) → IsFound st' (cell m a e))
      (λ e. found_stable (T (by_step Q n s d e)) (cell m a e))
      (λ e. where_yes (by_step Q n s d e) (find kind.Step (cell n a d) no_cell (cell m a e)))
      (λ e st₂ ok₂. one (cell n a d) st₂ (by_step Q n s d e) kind.Step (cell n a d) no_cell m a e (λ t. as_step s (before n a d st₂ ok₂) is follows t))
      F st₁ ok₁)
      st ok in
      (r.0, λ m e follows t. r.1 m follows e (step_bound bounded n s d e t) t)

  past_settles : (D : Cell) (q : Proc) (S : Cell) (n a d : ℕ) → P.at n ≡ Some (Call D q S) → (st : State) → Ok (cell n a d) st
      → G st (past_each P Q N F (Call D q S) (cell n a d) st)
      × ((e : ℕ) → T (by_past Q n (Call D q S) d e) → IsFound (past_each P Q N F (Call D q S) (cell n a d) st) (cell (n + 1) a e))
  past_settles D q S n a d is st ok =
      let r = each_grows P Q Start (Ok (cell n a d)) (ok_stable (cell n a d))
      (λ e st'. T (by_past Q n (Call D q S) d e) → IsFound st' (cell (n + 1) a e))
      (λ e. found_stable (T (by_past Q n (Call D q S) d e)) (cell (n + 1) a e))
      (λ e. where_yes (by_past Q n (Call D q S) d e) (find kind.Past (cell n a d) no_cell (cell (n + 1) a e)))
      (λ e st₂ ok₂. one (cell n a d) st₂ (by_past Q n (Call D q S) d e) kind.Past (cell n a d) no_cell (n + 1) a e
      (λ t. as_past D q S (before n a d st₂ ok₂) is t))
      F st ok in
      (r.0, λ e t. r.1 e (past_bound bounded n (Call D q S) d e t) t)

  -- a call cell u = (c, b, f) and an exit cell x = (n, e, z) of the callee
  return_settles : (D : Cell) (q : Proc) (S V : Cell) (c b f n e z : ℕ) → P.at c ≡ Some (Call D q S) → n ≡ P.exit q.0 → P.at n ≡ Some (Ret V)
      → T (by_call Q c (Call D q S) f e) → (st : State) → IsFound st (cell c b f) × Ok (cell n e z) st
      → G st (return_each P Q N F (Call D q S) V (cell c b f) (cell n e z) st)
      × ((y : ℕ) → T (by_return Q c (Call D q S) V z y)
      → IsFound (return_each P Q N F (Call D q S) V (cell c b f) (cell n e z) st) (cell (c + 1) b y))
  return_settles D q S V c b f n e z is at_exit is_ret in' st ok =
      let r = each_grows P Q Start (λ st'. IsFound st' (cell c b f) × Ok (cell n e z) st')
      (λ st₁ st₂ g o. (grow_found P Q Start g (cell c b f) o.0, ok_stable (cell n e z) st₁ st₂ g o.1))
      (λ y st'. T (by_return Q c (Call D q S) V z y) → IsFound st' (cell (c + 1) b y))
      (λ y. found_stable (T (by_return Q c (Call D q S) V z y)) (cell (c + 1) b y))
      (λ y. where_yes (by_return Q c (Call D q S) V z y) (find kind.Return (cell c b f) (cell n e z) (cell (c + 1) b y)))
      (λ y st₂ ok₂. one (cell c b f) st₂ (by_return Q c (Call D q S) V z y) kind.Return (cell c b f) (cell n e z) (c + 1) b y
      (λ t. subst (λ (m : ℕ). Why P Q Start st₂.table (suc st₂.found) kind.Return (cell c b f) (cell m e z) (c + 1) b y) (sym at_exit)
      (as_return D q S V (before c b f st₂ (ok₂.0, ok₂.1.1))
      (subst (λ (m : ℕ). Before st₂.table (suc st₂.found) m e z) at_exit (before n e z st₂ ok₂.1))
      is (subst (λ (m : ℕ). P.at m ≡ Some (Ret V)) at_exit is_ret) in' t)))
      F st ok in
      (r.0, λ y t. r.1 y (return_bound bounded c (Call D q S) V z y t) t)

  -- what is found stays so, or was found later and waits
  late_stable : (x : TableCell) (R : State → Type 0) → Stable P Q Start R → Stable P Q Start (λ st. IsFound st x → Waits st x ⊎ R st)
  late_stable x R stays st st' g h f =
      elim (grow_new P Q Start g x f) [
        | inl f₀ ↦ elim (h f₀) [ inl w ↦ inl (grow_waits P Q Start g x w) | inr r ↦ inr (stays st st' g r) ]
        | inr w ↦ inl w
      ]

  -- the returns of a call cell (n, a, d) of statement s with fact z at the callee's exit, whose statement has the shape σ
  abbrev pub Returned : Shape → Statement Cell → ℕ → ℕ → ℕ → State → Type 0
  Returned (straight _) s n a z st = Unit {0}
  Returned (calling _ _ _) s n a z st = Unit {0}
  Returned (returning V) s n a z st = (y : ℕ) → T (by_return Q n s V z y) → IsFound st (cell (n + 1) a y)
  Returned nothing s n a z st = Unit {0}

  returned_stable : (σ : Shape) (s : Statement Cell) (n a z : ℕ) → Stable P Q Start (Returned σ s n a z)
  returned_stable (straight _) s n a z st st' g h = tt
  returned_stable (calling _ _ _) s n a z st st' g h = tt
  returned_stable (returning V) s n a z st st' g h = λ y t. grow_found P Q Start g (cell (n + 1) a y) (h y t)
  returned_stable nothing s n a z st st' g h = tt

  return_by_settles : (σ : Shape) (D : Cell) (q : Proc) (S : Cell) (n a d e z : ℕ) → P.at (P.exit q.0) ≡ of_shape σ → P.at n ≡ Some (Call D q S)
      → T (by_call Q n (Call D q S) d e) → (st : State) → Ok (cell n a d) st → IsFound st (cell (P.exit q.0) e z)
      → G st (return_by P Q N F σ (Call D q S) (cell n a d) (cell (P.exit q.0) e z) st)
      × Returned σ (Call D q S) n a z (return_by P Q N F σ (Call D q S) (cell n a d) (cell (P.exit q.0) e z) st)
  return_by_settles (straight _) D q S n a d e z at_exit is in' st ok f = (same, tt)
  return_by_settles (calling _ _ _) D q S n a d e z at_exit is in' st ok f = (same, tt)
  return_by_settles (returning V) D q S n a d e z at_exit is in' st ok f =
      return_settles D q S V n a d (P.exit q.0) e z is refl at_exit in' st (ok.0, (f, ok.1))
  return_by_settles nothing D q S n a d e z at_exit is in' st ok f = (same, tt)

  abbrev pub Exits : Proc → Statement Cell → ℕ → ℕ → ℕ → ℕ → State → Type 0
  Exits q s n a e z st = IsFound st (cell (P.exit q.0) e z) → Waits st (cell (P.exit q.0) e z) ⊎ Returned (shape (P.at (P.exit q.0))) s n a z st

  exits_stable : (q : Proc) (s : Statement Cell) (n a e z : ℕ) → Stable P Q Start (Exits q s n a e z)
  exits_stable q s n a e z =
      late_stable (cell (P.exit q.0) e z) (Returned (shape (P.at (P.exit q.0))) s n a z) (returned_stable (shape (P.at (P.exit q.0))) s n a z)

  exit_settles : (D : Cell) (q : Proc) (S : Cell) (n a d e : ℕ) → P.at n ≡ Some (Call D q S) → T (by_call Q n (Call D q S) d e) → (st : State) → Ok (cell n a d) st
      → G st (exit_each P Q N F (Call D q S) q (cell n a d) e st)
      × ((z : ℕ) → z < F → Exits q (Call D q S) n a e z (exit_each P Q N F (Call D q S) q (cell n a d) e st))
  exit_settles D q S n a d e is in' =
      each_grows P Q Start (Ok (cell n a d)) (ok_stable (cell n a d)) (Exits q (Call D q S) n a e) (exits_stable q (Call D q S) n a e)
      (λ z st. where_yes (is_found (cell (P.exit q.0) e z) st)
      (return_by P Q N F (shape (P.at (P.exit q.0))) (Call D q S) (cell n a d) (cell (P.exit q.0) e z)) st)
      (λ z st ok.
      let x : TableCell = cell (P.exit q.0) e z in
      let r = where_grows P Q Start (Returned (shape (P.at (P.exit q.0))) (Call D q S) n a z)
      (return_by P Q N F (shape (P.at (P.exit q.0))) (Call D q S) (cell n a d) x) st (is_found x st)
      (λ t. return_by_settles (shape (P.at (P.exit q.0))) D q S n a d e z (of_shape_is (P.at (P.exit q.0))) is in' st ok
      (ltb→lt 0 (st.table x).rank t)) in (
        r.0,
        λ f. elim (grow_new P Q Start r.0 x f)
            [ inl f₀ ↦ inr (r.1 (lt→ltb 0 (st.table x).rank f₀)) | inr w ↦ inl w ],
      ))
      F

  abbrev pub Entries : Proc → Statement Cell → ℕ → ℕ → ℕ → ℕ → State → Type 0
  Entries q s n a d e st = T (by_call Q n s d e) → IsFound st (cell (P.entry q.0) e e) × ((z : ℕ) → z < F → Exits q s n a e z st)

  call_settles : (D : Cell) (q : Proc) (S : Cell) (n a d : ℕ) → P.at n ≡ Some (Call D q S) → (st : State) → Ok (cell n a d) st
      → G st (call_each P Q N F (Call D q S) q (cell n a d) st)
      × ((e : ℕ) → e < F → Entries q (Call D q S) n a d e (call_each P Q N F (Call D q S) q (cell n a d) st))
  call_settles D q S n a d is =
      each_grows P Q Start (Ok (cell n a d)) (ok_stable (cell n a d)) (Entries q (Call D q S) n a d)
      (λ e st st' g h t. (grow_found P Q Start g (cell (P.entry q.0) e e) (h t).0, λ z lt. exits_stable q (Call D q S) n a e z st st' g ((h t).1 z lt)))
      (λ e. where_yes (by_call Q n (Call D q S) d e)
      (λ st. exit_each P Q N F (Call D q S) q (cell n a d) e (find kind.Call (cell n a d) no_cell (cell (P.entry q.0) e e) st)))
      (λ e st ok.
      where_grows P Q Start (λ st'. IsFound st' (cell (P.entry q.0) e e) × ((z : ℕ) → z < F → Exits q (Call D q S) n a e z st'))
      (λ st'. exit_each P Q N F (Call D q S) q (cell n a d) e (find kind.Call (cell n a d) no_cell (cell (P.entry q.0) e e) st'))
      st (by_call Q n (Call D q S) d e)
      (λ t.
      let st₁ : State = find kind.Call (cell n a d) no_cell (cell (P.entry q.0) e e) st in
      let g : G st st₁ = grow_one P Q Start (as_call D q S (before n a d st ok) is t) in
      let r = exit_settles D q S n a d e is t st₁ (ok_stable (cell n a d) st st₁ g ok) in (
        grow_trans P Q Start g r.0,
        (grow_found P Q Start r.0 (cell (P.entry q.0) e e) (find_found kind.Call (cell n a d) no_cell (cell (P.entry q.0) e e) st), r.1),
      )))
      F

  -- what the exit cell (n, a, d) with the `ret` cell V returns to the point c, whose statement has the shape σ
  abbrev pub Callers : Shape → Cell → ℕ → ℕ → ℕ → ℕ → State → Type 0
  Callers (straight _) V n a d c st = Unit {0}
  Callers (calling D q S) V n a d c st = q.0 ≡ P.proc n → (b : ℕ) → b < F → (f : ℕ) → f < F → T (by_call Q c (Call D q S) f a)
      → IsFound st (cell c b f) → Waits st (cell c b f) ⊎ Returned (returning V) (Call D q S) c b d st
  Callers (returning _) V n a d c st = Unit {0}
  Callers nothing V n a d c st = Unit {0}

  callers_stable : (σ : Shape) (V : Cell) (n a d c : ℕ) → Stable P Q Start (Callers σ V n a d c)
  callers_stable (straight _) V n a d c st st' g h = tt
  callers_stable (calling D q S) V n a d c st st' g h = λ e b lb f lf t.
      late_stable (cell c b f) (Returned (returning V) (Call D q S) c b d) (returned_stable (returning V) (Call D q S) c b d) st st' g (h e b lb f lf t)
  callers_stable (returning _) V n a d c st st' g h = tt
  callers_stable nothing V n a d c st st' g h = tt

  caller_by_settles : (σ : Shape) (V : Cell) (n a d c : ℕ) → P.at c ≡ of_shape σ → P.at n ≡ Some (Ret V) → (st : State) → Ok (cell n a d) st
      → G st (caller_by P Q N F σ V c (cell n a d) st) × Callers σ V n a d c (caller_by P Q N F σ V c (cell n a d) st)
  caller_by_settles (straight _) V n a d c is is_ret st ok = (same, tt)
  caller_by_settles (calling D q S) V n a d c is is_ret st ok =
      let x : TableCell = cell n a d in
      let Late : ℕ → ℕ → State → Type 0 = λ b f st'. T (by_call Q c (Call D q S) f a) → IsFound st' (cell c b f)
      → Waits st' (cell c b f) ⊎ Returned (returning V) (Call D q S) c b d st' in
      let r = where_grows P Q Start (λ st'. (b : ℕ) → b < F → (f : ℕ) → f < F → Late b f st')
      (each F (λ b. each F (λ f st'. where_yes (both (is_found (cell c b f) st') (by_call Q c (Call D q S) f a))
      (return_each P Q N F (Call D q S) V (cell c b f) x) st'))) st (eqb q.0 (P.proc n))
      (λ t.
      let at_exit : n ≡ P.exit q.0 = lawful.only_exit n V is_ret ∙ ap P.exit (sym (eqb→eq q.0 (P.proc n) t)) in
      each_grows P Q Start (Ok x) (ok_stable x) (λ b st'. (f : ℕ) → f < F → Late b f st')
      (λ b st₁ st₂ g h f lf t'. late_stable (cell c b f) (Returned (returning V) (Call D q S) c b d)
      (returned_stable (returning V) (Call D q S) c b d) st₁ st₂ g (h f lf t'))
      (λ b. each F (λ f st'. where_yes (both (is_found (cell c b f) st') (by_call Q c (Call D q S) f a))
      (return_each P Q N F (Call D q S) V (cell c b f) x) st'))
      (λ b.
      each_grows P Q Start (Ok x) (ok_stable x) (Late b)
      (λ f st₁ st₂ g h t'. late_stable (cell c b f) (Returned (returning V) (Call D q S) c b d)
      (returned_stable (returning V) (Call D q S) c b d) st₁ st₂ g (h t'))
      (λ f st'. where_yes (both (is_found (cell c b f) st') (by_call Q c (Call D q S) f a))
      (return_each P Q N F (Call D q S) V (cell c b f) x) st')
      (λ f st' ok'.
      let u : TableCell = cell c b f in
      let test : Bool = both (is_found u st') (by_call Q c (Call D q S) f a) in
      let w = where_grows P Q Start (Returned (returning V) (Call D q S) c b d) (return_each P Q N F (Call D q S) V u x) st' test
      (λ h. return_settles D q S V c b f n a d is at_exit is_ret (both_right (is_found u st') (by_call Q c (Call D q S) f a) h) st'
      (ltb→lt 0 (st'.table u).rank (both_left (is_found u st') (by_call Q c (Call D q S) f a) h), ok')) in (
        w.0,
        λ t' found. elim (grow_new P Q Start w.0 u found) [
          | inl f₀ ↦ inr (w.1 (both_two (is_found u st') (by_call Q c (Call D q S) f a) (lt→ltb 0 (st'.table u).rank f₀) t'))
          | inr l ↦ inl l
        ],
      ))
      F)
      F st ok) in
      (r.0, λ e. r.1 (subst (λ (m : ℕ). T (eqb q.0 m)) e (eqb_refl q.0)))
  caller_by_settles (returning _) V n a d c is is_ret st ok = (same, tt)
  caller_by_settles nothing V n a d c is is_ret st ok = (same, tt)

  caller_settles : (V : Cell) (n a d : ℕ) → P.at n ≡ Some (Ret V) → (st : State) → Ok (cell n a d) st
      → G st (caller_each P Q N F V (cell n a d) st)
      × ((c : ℕ) → c < N → Callers (shape (P.at c)) V n a d c (caller_each P Q N F V (cell n a d) st))
  caller_settles V n a d is_ret =
      each_grows P Q Start (Ok (cell n a d)) (ok_stable (cell n a d)) (λ c. Callers (shape (P.at c)) V n a d c)
      (λ c. callers_stable (shape (P.at c)) V n a d c)
      (λ c. caller_by P Q N F (shape (P.at c)) V c (cell n a d))
      (λ c st ok. caller_by_settles (shape (P.at c)) V n a d c (of_shape_is (P.at c)) is_ret st ok)
      N

  -- what settling the cell (n, a, d), whose statement has the shape σ, leaves
  abbrev pub Left : Shape → ℕ → ℕ → ℕ → State → Type 0
  Left (straight s) n a d st = (m e : ℕ) → Follows n s m → T (by_step Q n s d e) → IsFound st (cell m a e)
  Left (calling D q S) n a d st =
      ((e : ℕ) → T (by_past Q n (Call D q S) d e) → IsFound st (cell (n + 1) a e)) × ((e : ℕ) → e < F → Entries q (Call D q S) n a d e st)
  Left (returning V) n a d st = (c : ℕ) → c < N → Callers (shape (P.at c)) V n a d c st
  Left nothing n a d st = Unit {0}

  settle_by_leaves : (σ : Shape) (n a d : ℕ) → P.at n ≡ of_shape σ → (st : State) → Ok (cell n a d) st
      → G st (settle_by P Q N F σ (cell n a d) st) × Left σ n a d (settle_by P Q N F σ (cell n a d) st)
  settle_by_leaves (straight s) n a d is st ok = step_settles s n a d is st ok
  settle_by_leaves (calling D q S) n a d is st ok =
      let (g, pasts) = past_settles D q S n a d is st ok in
      let st₁ : State = past_each P Q N F (Call D q S) (cell n a d) st in
      let (g', calls) = call_settles D q S n a d is st₁ (ok_stable (cell n a d) st st₁ g ok) in
      (grow_trans P Q Start g g', ((λ e t. grow_found P Q Start g' (cell (n + 1) a e) (pasts e t)), calls))
  settle_by_leaves (returning V) n a d is st ok = caller_settles V n a d is st ok
  settle_by_leaves nothing n a d is st ok = (same, tt)

  pub settle_leaves : (n a d : ℕ) (st : State) → Ok (cell n a d) st
      → G st (settle P Q N F (cell n a d) st) × Left (shape (P.at n)) n a d (settle P Q N F (cell n a d) st)
  settle_leaves n a d st ok = settle_by_leaves (shape (P.at n)) n a d (of_shape_is (P.at n)) st ok
