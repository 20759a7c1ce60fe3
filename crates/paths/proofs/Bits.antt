-- A move's word read back, and the calls that a trail closes.
use Rattle.std.proofs.Common.{◌≡◌, ℕ, ◌<◌, ◌≤◌, List, [], ◌∷◌, map, reverse, Some, Option, refl, ap, ◌∙◌, arith}
use mathlib.Core.List.{reverse_aux}
use Rattle.listing.specs.declared.statement.Statement.TheVariants.{Call}
use Rattle.flow.specs.Relation.{Rule, Within}
use Rattle.moves.specs.declared.moves.Move.{Move}
use Rattle.moves.proofs.Inverse.{read_back}
use Rattle.moves.specs.Words.{decode, encoded}
use Rattle.paths.specs.Supergraph.{Supergraph, Lawful}
use Rattle.paths.proofs.Bounds.{step_bound, past_bound, call_bound, return_bound}
use Rattle.paths.specs.Paths.{Matched, start, step, past, call, return}
use Rattle.paths.specs.Words.{spelt}

-- each word's point and fact are in range
abbrev pub Ranged : ℕ → ℕ → List Move → Type 0
Ranged N F [] = Unit {0}
Ranged N F (w ∷ ws) = (w.point.0 < N) × (w.fact.0 < F) × Ranged N F ws

read_all : (N F : ℕ) (ws : List Move) → N ≤ 1000 → F ≤ 64 → Ranged N F ws → map decode (map encoded ws) ≡ map Some ws
read_all N F [] hN hF r = refl
read_all N F (w ∷ ws) hN hF r =
    ap (λ (x : Option Move). x ∷ map decode (map encoded ws)) (read_back w (let h = r.0 in omega arith) (let h = r.1 in omega arith))
    ∙ ap (λ (xs : List (Option Move)). Some w ∷ xs) (read_all N F ws hN hF r.2)

pub ranged_aux : (N F : ℕ) (us ws : List Move) → Ranged N F us → Ranged N F ws → Ranged N F (reverse_aux us ws)
ranged_aux N F [] ws h k = k
ranged_aux N F (u ∷ us) ws h k = ranged_aux N F us (u ∷ ws) h.2 (h.0, h.1, k)

-- the words of a path, read back
pub read_path : (N F : ℕ) (ws : List Move) → N ≤ 1000 → F ≤ 64 → Ranged N F ws → map decode (spelt ws) ≡ map Some (reverse ws)
read_path N F ws hN hF r = read_all N F (reverse ws) hN hF (ranged_aux N F ws [] r tt)

module _ (P : Supergraph) (Q : Rule) (N K F : ℕ) (lawful : Lawful P N K) (bounded : Within F Q) where
  pub path_ranged : {p a n d : ℕ} {ws : List Move} {o : List ℕ} → p < K → a < F → Matched P Q p a ws o n d → Ranged N F ws
  path_ranged {p} hp ha start = (lawful.entry_within p hp, ha, tt)
  path_ranged hp ha (step {ws} {open'} {n} {d} {m} {e} s h is follows yes') =
      (lawful.step_within n m s is follows, step_bound bounded n s d e yes', path_ranged hp ha h)
  path_ranged hp ha (past {ws} {open'} {n} {d} {e} D q S h is yes') =
      (lawful.past_within n D q S is, past_bound bounded n (Call D q S) d e yes', path_ranged hp ha h)
  path_ranged hp ha (call {ws} {open'} {n} {d} {e} D q S h is yes') =
      (lawful.entry_within q.0 (lawful.callee n D q S is), call_bound bounded n (Call D q S) d e yes', path_ranged hp ha h)
  path_ranged hp ha (return {ws} {open'} {c} {d} {e} D q S V h is is_ret yes') =
      (lawful.past_within c D q S is, return_bound bounded c (Call D q S) V d e yes', path_ranged hp ha h)
