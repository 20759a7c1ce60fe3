-- What is reached is found, in a table in which nothing is left to find.
use Rattle.std.proofs.Common.{◌≡◌, ℕ, ◌+◌, T, List, [], ◌∷◌, Some, refl, subst, inl, inr, arith}
use Rattle.listing.specs.declared.numbers.Cell.{Cell}
use Rattle.listing.specs.declared.numbers.Proc.{Proc}
use Rattle.listing.specs.declared.statement.Statement.{Statement}
use Rattle.listing.specs.declared.statement.Statement.TheVariants.{Call, Ret}
use Rattle.flow.specs.Relation.{Rule}
use Rattle.moves.specs.declared.moves.Kind.{Kind}
use Rattle.moves.specs.declared.moves.Kind.TheVariants as kind
use Rattle.moves.specs.declared.moves.Move.{Move}
use Rattle.paths.specs.Supergraph.{Supergraph, by_call, by_return}
use Rattle.paths.specs.Paths.{Matched, start, step, past, call, return, ReachedPair, Entered, ReachedCell}
use Rattle.paths.specs.Table.{Table, Found, Closed}

-- the kind of the latest move
abbrev latest : List Move → Kind
latest [] = kind.Start
latest (w ∷ ws) = w.kind

module _ (P : Supergraph) (Q : Rule) (Start : ℕ → ℕ → Type 0) (t : Table) (closed : Closed P Q Start t) where
  -- `Chain open a n d`: the cell (n, a, d) is found, and for each open call a cell of its point is found from which the fact at the entry
  -- follows by a call, up to the path's own origin
  data Chain (origin : ℕ) : List ℕ → ℕ → ℕ → ℕ → Type 0 where
    whole : {n d : ℕ} → Found t n origin d → Chain origin [] origin n d
    inside : {open' : List ℕ} {b c f e n d : ℕ} (D : Cell) (q : Proc) (S : Cell) → Chain origin open' b c f
        → P.at c ≡ Some (Call D q S) → T (by_call Q c (Call D q S) f e) → Found t n e d → Chain origin (c ∷ open') e n d

  found : {origin : ℕ} {open' : List ℕ} {a n d : ℕ} → Chain origin open' a n d → Found t n a d
  found (whole h) = h
  found (inside D q S below is follows h) = h

  -- a move inside the procedure changes the last cell alone
  moved : {origin : ℕ} {open' : List ℕ} {a n d m e : ℕ} → Chain origin open' a n d → Found t m a e → Chain origin open' a m e
  moved (whole _) h = whole h
  moved (inside D q S below is follows _) h = inside D q S below is follows h

  same_call : {c : ℕ} {D : Cell} {q : Proc} {S D' : Cell} {q' : Proc} {S' : Cell} → P.at c ≡ Some (Call D q S) → P.at c ≡ Some (Call D' q' S') → Call D q S ≡ Call D' q' S'
  same_call x y = cc

  -- a return closes the latest open call
  closes : {origin : ℕ} {open' : List ℕ} {c a n d y : ℕ} (D : Cell) (q : Proc) (S V : Cell) → Chain origin (c ∷ open') a n d
      → n ≡ P.exit q.0 → P.at c ≡ Some (Call D q S) → P.at (P.exit q.0) ≡ Some (Ret V) → T (by_return Q c (Call D q S) V d y)
      → (b : ℕ) × Chain origin open' b (c + 1) y
  closes {c = c} {a} {d = d} {y} D q S V (inside {b = b} {f = f} D' q' S' below is follows h) e at_c at_exit yes' = (
    b,
    moved below
        (closed.returns c b f a d y D q S V (found below) (subst (λ (m : ℕ). Found t m a d) e h) at_c at_exit
        (subst (λ (s : Statement Cell). T (by_call Q c s f a)) (same_call is at_c) follows) yes'),
  )

  -- the found cells that a path from a found entry passes
  chain : (p a : ℕ) {ws : List Move} {open' : List ℕ} {n d : ℕ} → Found t (P.entry p) a a → Matched P Q p a ws open' n d → (b : ℕ) × Chain a open' b n d
  chain p a h start = (a, whole h)
  chain p a h (step {n = n} {d} {m} {e} s before is follows yes') =
      let (b, k) = chain p a h before in (b, moved k (closed.steps n b d m e s (found k) is follows yes'))
  chain p a h (past {n = n} {d} {e} D q S before is yes') =
      let (b, k) = chain p a h before in (b, moved k (closed.pasts n b d e D q S (found k) is yes'))
  chain p a h (call {n = n} {d} {e} D q S before is yes') =
      let (b, k) = chain p a h before in (e, inside D q S k is yes' (closed.calls n b d e D q S (found k) is yes'))
  chain p a h (return D q S V before is is_ret yes') =
      let (b, k) = chain p a h before in closes D q S V k refl is is_ret yes'

  -- a path that closes each call it opens ends in a found cell of its origin
  level : (p a : ℕ) {ws : List Move} {n d : ℕ} → Found t (P.entry p) a a → Matched P Q p a ws [] n d → Found t n a d
  level p a {n = n} {d} h path = whole_found (chain p a h path).1
    where
      whole_found : {b : ℕ} → Chain a [] b n d → Found t n a d
      whole_found (whole f) = f

  -- a call move ends in a found cell that is its own origin
  called_found : (p a : ℕ) {ws : List Move} {open' : List ℕ} {n d : ℕ} → Found t (P.entry p) a a → Matched P Q p a ws open' n d
      → latest ws ≡ kind.Call → Found t n d d
  called_found p a h start e = h
  called_found p a {n = n} {d} h (step s before is follows yes') e = let z : ◌≡◌ {A = ℕ} 0 1 = cc in omega arith
  called_found p a {n = n} {d} h (past D q S before is yes') e = let z : ◌≡◌ {A = ℕ} 0 1 = cc in omega arith
  called_found p a h (call {n = n} {d} {e} D q S before is yes') _ =
      let (b, k) = chain p a h before in closed.calls n b d e D q S (found k) is yes'
  called_found p a {n = n} {d} h (return D q S V before is is_ret yes') e = let z : ◌≡◌ {A = ℕ} 0 1 = cc in omega arith

  -- what was entered is found
  pub entry_found : (p a : ℕ) → Entered P Q Start p a → Found t (P.entry p) a a
  entry_found p a (inl s) = closed.starts p a s
  entry_found p a (inr c) = called_found c.proc c.origin (closed.starts c.proc c.origin c.accepted) c.path refl

  pub cell_found : (n a d : ℕ) → ReachedCell P Q Start n a d → Found t n a d
  cell_found n a d r = level (P.proc n) a (entry_found (P.proc n) a r.entered) r.path

  pub pair_found : (n d : ℕ) → ReachedPair P Q Start n d → (a : ℕ) × Found t n a d
  pair_found n d r =
      let (b, k) = chain r.proc r.origin (closed.starts r.proc r.origin r.accepted) r.path in (b, found k)
