-- From call to call of one procedure: the points between them are passed over.
use Rattle.std.proofs.Common.{◌≡◌, ℕ, zero, suc, ◌+◌, ◌-◌, ◌<◌, ◌≤◌, Bool, true, false, cond, eqb, List, [], ◌∷◌, map, length, drop, Some, None, Option, sym, refl, ap, ◌∙◌, subst, inl, inr, add-one, arith, length-drop}
use lib.ListN.{length-map}
use Rattle.std.specs.List.{slice_get}
use Rattle.std.specs.Option.{option_map}
use Rattle.std.proofs.lemmas.Bool.{cases_Bool, eqb-true}
use Rattle.listing.specs.declared.numbers.Cell.{Cell}
use Rattle.listing.specs.declared.numbers.Point.{Point}
use Rattle.listing.specs.declared.control.Control.{Control}
use Rattle.listing.specs.declared.control.Control.TheVariants as control
use Rattle.listing.specs.declared.statement.Statement.{Statement}
use Rattle.listing.specs.declared.statement.Statement.TheVariants.{Set, Move, Add, Read, Send, Goto, Test, Call, Ret, Trim}
use Rattle.listing.specs.Statements.{controlled}
use Rattle.listing.specs.Meaning.{Meaning, flow, size, point, statement_at}
use Rattle.listing.specs.Callers.{calls, first_call, call_from, call_after, next_caller_of}
use Rattle.listing.specs.Lawful.{is_lawful}
use Rattle.listing.proofs.Lists.{nth_front, nth_within, nth_map, drop_nth}
use Rattle.flow.specs.Relation.{Rule}
use Rattle.paths.proofs.Listed.{listing}
use Rattle.paths.specs.Machine.{shape}
use Rattle.paths.specs.Supergraph.{graph_of}
use Rattle.paths.specs.Table.{number_of}
use Rattle.paths.specs.Tabled.{Tabled, each, where_yes, caller_by}
use Rattle.table.specs.Settling.{answers}
use Rattle.table.specs.State.{cell_of}
use Rattle.table.specs.declared.sites.ReturnSite.{ReturnSite}
use Rattle.table.specs.declared.sites.Site.{Site}
use Rattle.table.proofs.Turns.{turn, taken_yes}

-- the statement that does this to control is a call of p
abbrev pub calls_at : ℕ → Option Control → Bool
calls_at p None = false
calls_at p (Some c) = calls p c

-- the first call from k on stands at k or later, and in the list
pub call_later : (p : ℕ) (ys : List Control) (k : ℕ) (a : Point) → Some a ≡ first_call p k ys → (k ≤ a.0) × (a.0 < k + length ys)
call_later p [] k a e = let z : ◌≡◌ {A = ℕ} 0 1 = cc in absurd (omega arith)
call_later p (c ∷ ys) k a e = go (calls p c) e (call_later p ys (k + 1) a)
  where
    go : (b : Bool) → Some a ≡ cond b (Some (point k)) (first_call p (k + 1) ys)
        → (Some a ≡ first_call p (k + 1) ys → (k + 1 ≤ a.0) × (a.0 < k + 1 + length ys)) → (k ≤ a.0) × (a.0 < k + suc (length ys))
    go true h r = let same : a ≡ point k = cc in let at : a.0 ≡ k = ap (λ (x : Point). x.0) same in (omega arith, omega arith)
    go false h r = (omega (arith, (r h).0), omega (arith, (r h).1))

-- how many points are left from a call on
abbrev pub left : ℕ → Option Point → ℕ
left N None = 0
left N (Some a) = suc (N - a.0)

not_taken : (b : Bool) (f : Tabled → Tabled) (t : Tabled) → b ≡ false → where_yes b f t ≡ t
not_taken true f t e = let z : ◌≡◌ {A = ℕ} 0 1 = cc in absurd (omega arith)
not_taken false f t e = refl

module _ (m : Meaning) (Q : Rule) (F : ℕ) (V : Cell) (x : Site) (start : Tabled) where
  abbrev cs : List Control
  cs = flow m

  abbrev N : ℕ
  N = size m

  same_size : length cs ≡ N
  same_size = length-map m.statements controlled

  -- the procedure whose calls are meant
  abbrev pub callee : ℕ
  callee = (graph_of m).proc x.spot.point.0

  -- what one point is answered
  abbrev pub at_point : ℕ → Tabled → Tabled
  at_point c = caller_by (graph_of m) Q N F (shape ((graph_of m).at c)) V c (cell_of x.spot)

  -- where the walk stands: before a call, with all points before it done; or with all done
  abbrev pub Progress : Option Point → Tabled → Type 0
  Progress None t = t ≡ each N at_point start
  Progress (Some a) t = (t ≡ each a.0 at_point start) × (calls_at callee (slice_get cs a.0) ≡ true)

  no_call : (s : Statement Cell) (c : ℕ) (t : Tabled) → calls callee (controlled s) ≡ false → caller_by (graph_of m) Q N F (shape (Some s)) V c (cell_of x.spot) t ≡ t
  no_call (Set D) c t e = refl
  no_call (Move D S) c t e = refl
  no_call (Add D S T) c t e = refl
  no_call (Read D) c t e = refl
  no_call (Send S) c t e = refl
  no_call (Goto K) c t e = refl
  no_call (Test S K) c t e = refl
  no_call (Call D q S) c t e = not_taken (eqb q.0 callee) _ t e
  no_call (Ret S) c t e = refl
  no_call (Trim D S) c t e = refl

  -- a statement stands where its control does
  stated : (ss : List (Statement Cell)) (k : ℕ) (c : Control) → slice_get (map controlled ss) k ≡ Some c → (s : Statement Cell) × (slice_get ss k ≡ Some s) × (controlled s ≡ c)
  stated [] k c e = let z : ◌≡◌ {A = ℕ} 0 1 = cc in absurd (omega arith)
  stated (s ∷ ss) zero c e = (s, refl, cc)
  stated (s ∷ ss) (suc k) c e = stated ss k c e

  -- a point that is no call of the procedure is answered nothing
  pass_over : (k : ℕ) (c : Control) → slice_get cs k ≡ Some c → calls callee c ≡ false → (t : Tabled) → at_point k t ≡ t
  pass_over k c e h t =
      let r = stated m.statements k c e in
      ap (λ (o : Option (Statement Cell)). caller_by (graph_of m) Q N F (shape o) V k (cell_of x.spot) t) r.1 ∙ no_call r.0 k t (ap (calls callee) r.2 ∙ h)

  -- from a point on to the next call
  onto : (ys : List Control) (k : ℕ) → drop k cs ≡ ys → k ≤ N → (t : Tabled) → t ≡ each k at_point start → Progress (first_call callee k ys) t
  onto [] k e l t h =
      let len : length (drop k cs) ≡ 0 = ap length e in
      let more : k ≡ N = (let a = length-drop k cs in let b = same_size in omega arith) in
      h ∙ ap (λ (n : ℕ). each n at_point start) more
  onto (c ∷ ys) k e l t h =
      let here : slice_get cs k ≡ Some c = nth_front cs ys k c e in
      let d = drop_nth cs k c here in
      let rest : drop (k + 1) cs ≡ ys = cc in
      let below : k + 1 ≤ N = (let w = nth_within cs k c here in let b = same_size in omega arith) in
      elim (cases_Bool (calls callee c)) [
        | inl y ↦ subst (λ (b : Bool). Progress (cond b (Some (point k)) (first_call callee (k + 1) ys)) t) (sym y) (h, ap (calls_at callee) here ∙ y)
        | inr n ↦ subst (λ (b : Bool). Progress (cond b (Some (point k)) (first_call callee (k + 1) ys)) t) (sym n)
            (onto ys (k + 1) rest below t
            (h ∙ sym (pass_over k c here n (each k at_point start)) ∙ sym (ap (λ (n : ℕ). each n at_point start) (add-one k))))
      ]

  -- before the first call
  pub at_first : (o : Option Point) → o ≡ call_from cs callee 0 → Progress o start
  at_first o e = subst (λ (p : Option Point). Progress p start) (sym e) (onto cs 0 refl (omega arith) start refl)

  -- from the exit to a call
  abbrev pub return_to : Point → Statement Cell → ReturnSite
  return_to a s = record { exit = x; caller = record { at = a; statement = s; result = V } }

  module _ (a : Point) (s : Statement Cell) (is : Some s ≡ statement_at m a) where
    control_is : slice_get cs a.0 ≡ Some (controlled s)
    control_is = nth_map controlled m.statements a.0 ∙ ap (option_map controlled) (sym is)

    module _ (called : calls_at callee (slice_get cs a.0) ≡ true) where
      called_by : calls callee (controlled s) ≡ true
      called_by = ap (calls_at callee) (sym control_is) ∙ called

      -- the call that is reached is answered so
      answered : x.cell ≡ number_of F (cell_of x.spot) → (t : Tabled) → answers Q F (return_to a s) t ≡ at_point a.0 t
      answered number t =
          by_statement s called_by
          ∙ ap (λ (o : Option (Statement Cell)). caller_by (graph_of m) Q N F (shape o) V a.0 (cell_of x.spot) t) is
        where
          no : {A : Type 0} → false ≡ true → A
          no e = let z : ◌≡◌ {A = ℕ} 0 1 = cc in absurd (omega arith)

          by_statement : (s : Statement Cell) → calls callee (controlled s) ≡ true
              → answers Q F (return_to a s) t ≡ caller_by (graph_of m) Q N F (shape (Some s)) V a.0 (cell_of x.spot) t
          by_statement (Set D) e = no e
          by_statement (Move D S) e = no e
          by_statement (Add D S T) e = no e
          by_statement (Read D) e = no e
          by_statement (Send S) e = no e
          by_statement (Goto K) e = no e
          by_statement (Test S K) e = no e
          by_statement (Call D q S) e = taken_yes (eqb q.0 callee) _ t _ (sym e)
              (ap (λ (k : ℕ). answers Q F (record { exit = record { spot = x.spot; cell = k; statement = x.statement }; caller = record { at = a; statement = Call D q S; result = V } }) t) number)
          by_statement (Ret S) e = no e
          by_statement (Trim D S) e = no e

      next_is : next_caller_of m a ≡ call_from cs callee (a.0 + 1)
      next_is = ap (call_after cs a.0) control_is ∙ by_control (controlled s) called_by
        where
          by_control : (c : Control) → calls callee c ≡ true → call_after cs a.0 (Some c) ≡ call_from cs callee (a.0 + 1)
          by_control control.Next e = let z : ◌≡◌ {A = ℕ} 0 1 = cc in absurd (omega arith)
          by_control (control.Goto k) e = let z : ◌≡◌ {A = ℕ} 0 1 = cc in absurd (omega arith)
          by_control (control.Test k) e = let z : ◌≡◌ {A = ℕ} 0 1 = cc in absurd (omega arith)
          by_control (control.Call q) e = ap (λ (p : ℕ). call_from cs p (a.0 + 1)) (eqb-true q.0 callee e)
          by_control control.Ret e = let z : ◌≡◌ {A = ℕ} 0 1 = cc in absurd (omega arith)

      inside : a.0 < N
      inside = let w = nth_within cs a.0 (controlled s) control_is in let b = same_size in omega arith

      pub at_next : (t u : Tabled) → t ≡ each a.0 at_point start → x.cell ≡ number_of F (cell_of x.spot)
          → u ≡ answers Q F (return_to a s) t → (o : Option Point) → o ≡ next_caller_of m a → Progress o u
      at_next t u h number e o n =
          subst (λ (p : Option Point). Progress p u) (sym (n ∙ next_is))
          (onto (drop (a.0 + 1) cs) (a.0 + 1) refl (let i = inside in omega arith) u (turn at_point a.0 start t u h (e ∙ answered number t)))

      pub fewer : (o : Option Point) → o ≡ next_caller_of m a → left N o < left N (Some a)
      fewer o n = go o (n ∙ next_is)
        where
          go : (o : Option Point) → o ≡ call_from cs callee (a.0 + 1) → left N o < left N (Some a)
          go None e = omega arith
          go (Some b) e =
              let r = call_later callee (drop (a.0 + 1) cs) (a.0 + 1) b e in
              let l = length-drop (a.0 + 1) cs in
              let i = inside in
              let z = same_size in
              omega (arith, r.0, r.1)

  -- a point without a statement is no call
  pub no_statement : (a : Point) → None ≡ statement_at m a → calls_at callee (slice_get cs a.0) ≡ true → ⊥
  no_statement a e h =
      let c : slice_get cs a.0 ≡ None = nth_map controlled m.statements a.0 ∙ ap (option_map controlled) (sym e) in
      let f : false ≡ true = ap (calls_at callee) (sym c) ∙ h in
      let z : ◌≡◌ {A = ℕ} 0 1 = cc in
      omega arith

  -- behind a call another statement stands
  pub after_call : is_lawful m ≡ true → (a : Point) (s : Statement Cell) → Some s ≡ statement_at m a → calls_at callee (slice_get cs a.0) ≡ true → a.0 + 1 < N
  after_call lawful a s is called = by_statement s (called_by a s is called) is
    where
      by_statement : (s : Statement Cell) → calls callee (controlled s) ≡ true → Some s ≡ statement_at m a → a.0 + 1 < N
      by_statement (Set D) e is = let z : ◌≡◌ {A = ℕ} 0 1 = cc in absurd (omega arith)
      by_statement (Move D S) e is = let z : ◌≡◌ {A = ℕ} 0 1 = cc in absurd (omega arith)
      by_statement (Add D S T) e is = let z : ◌≡◌ {A = ℕ} 0 1 = cc in absurd (omega arith)
      by_statement (Read D) e is = let z : ◌≡◌ {A = ℕ} 0 1 = cc in absurd (omega arith)
      by_statement (Send S) e is = let z : ◌≡◌ {A = ℕ} 0 1 = cc in absurd (omega arith)
      by_statement (Goto K) e is = let z : ◌≡◌ {A = ℕ} 0 1 = cc in absurd (omega arith)
      by_statement (Test S K) e is = let z : ◌≡◌ {A = ℕ} 0 1 = cc in absurd (omega arith)
      by_statement (Call D q S) e is = (listing m lawful).past_within a.0 D q S (sym is)
      by_statement (Ret S) e is = let z : ◌≡◌ {A = ℕ} 0 1 = cc in absurd (omega arith)
      by_statement (Trim D S) e is = let z : ◌≡◌ {A = ℕ} 0 1 = cc in absurd (omega arith)
