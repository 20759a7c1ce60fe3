-- The trail check passes the words of paths, and tells the first word that leads nowhere.
use Rattle.std.proofs.Common.{◌≡◌, ℕ, zero, suc, ◌<◌, ◌≤◌, Bool, true, false, cond, not, T, leb, ◌⊎◌, List, [], ◌∷◌, ◌++◌, map, reverse, length, take, Some, None, Option, sym, refl, ap, ◌∙◌, subst, inl, inr, append_assoc, arith, leb→le}
use mathlib.Core.List.{reverse_aux, reverse_aux-eq, reverse-reverse, map-append}
use lib.Dec.{nleb→lt}
use Rattle.flow.specs.Relation.{Rule}
use Rattle.moves.specs.declared.moves.Kind.{Kind}
use Rattle.moves.specs.declared.moves.Kind.TheVariants as kind
use Rattle.moves.specs.declared.moves.Move.{Move}
use Rattle.moves.proofs.Inverse.{read_back, same_word}
use Rattle.moves.specs.Words.{decode, encoded}
use Rattle.paths.specs.Supergraph.{Supergraph}
use Rattle.paths.specs.Check.{Spot, nowhere, at_spot, guard, move, moved, move_on, start_on, spot_of, PathAlong}
use Rattle.paths.specs.Words.{spelt}
use Rattle.paths.specs.Does.{Handed}
use Rattle.paths.specs.Law.{Sound}
use Rattle.paths.specs.Checked.{one_more, stuck_by, at_18, lead, stuck, first_stuck, check_no, Spells, StuckAt, no_room, no_move, Verdict, lead_by}
use Rattle.paths.proofs.Passes.{checked, passed}
use Rattle.paths.proofs.Bits.{Ranged, path_ranged, ranged_aux}

module _ (H : Handed) (sound : Sound H) where
  abbrev P : Supergraph
  P = H.graph

  abbrev Q : Rule
  Q = H.rule

  abbrev N : ℕ
  N = H.points

  abbrev F : ℕ
  F = H.facts

  abbrev spot : List Move → Option Spot
  spot us = spot_of P Q N F us

  -- a word that leads on is a move's
  leads : (z z' : Spot) (x : ℕ) → lead H z x ≡ Some z' → (w : Move) × (encoded w ≡ x) × (move P Q N F z w ≡ Some z')
  leads z z' x e = go (decode x) refl e
    where
      go : (o : Option Move) → decode x ≡ o → lead_by H z o ≡ Some z' → (w : Move) × (encoded w ≡ x) × (move P Q N F z w ≡ Some z')
      go None d e' = let n : ◌≡◌ {A = ℕ} 0 1 = cc in absurd (omega arith)
      go (Some w) d e' = (w, ((same_word x (decode x) refl).only w d).0, e')

  -- what leads on to the end
  record Led (us : List Move) (xs : List ℕ) : Type 0 where
    moves : List Move
    end : Spot
    at_end : spot moves ≡ Some end
    words : spelt moves ≡ spelt us ++ xs

  spelt_more : (us : List Move) (w : Move) → spelt (w ∷ us) ≡ spelt us ++ (encoded w ∷ [])
  spelt_more us w = ap (map encoded) (reverse_aux-eq us (w ∷ [])) ∙ map-append encoded (reverse us) (w ∷ [])

  free : (us : List Move) (z : Spot) (xs : List ℕ) → spot us ≡ Some z → stuck H xs z ≡ None → Led us xs
  free us z [] e f = record { moves = us; end = z; at_end = e; words = sym (append_nil (spelt us)) }
    where
      append_nil : (ys : List ℕ) → ys ++ [] ≡ ys
      append_nil [] = refl
      append_nil (y ∷ ys) = ap (λ (r : List ℕ). y ∷ r) (append_nil ys)
  free us z (x ∷ xs) e f = go (λ us' z' e' f'. free us' z' xs e' f') (lead H z x) refl f
    where
      more : (o : Option ℕ) → one_more o ≡ None → o ≡ None
      more None g = refl
      more (Some k) g = let n : ◌≡◌ {A = ℕ} 0 1 = cc in absurd (omega arith)

      go : ((us' : List Move) (z' : Spot) → spot us' ≡ Some z' → stuck H xs z' ≡ None → Led us' xs)
          → (o : Option Spot) → lead H z x ≡ o → stuck_by o (stuck H xs) ≡ None → Led us (x ∷ xs)
      go ih None l g = let n : ◌≡◌ {A = ℕ} 0 1 = cc in absurd (omega arith)
      go ih (Some z') l g =
          let q = leads z z' x l in
          let on : spot (q.0 ∷ us) ≡ Some z' = ap (λ (o : Option Spot). moved P Q N F o q.0) e ∙ q.2 in
          let r = ih (q.0 ∷ us) z' on (more (stuck H xs z') g) in
          record {
            moves = r.moves;
            end = r.end;
            at_end = r.at_end;
            words =
                r.words
                ∙ ap (λ (ys : List ℕ). ys ++ xs) (spelt_more us q.0 ∙ ap (λ (y : ℕ). spelt us ++ (y ∷ [])) q.1)
                ∙ append_assoc (spelt us) (x ∷ []) xs;
          }

  -- no move leads nowhere
  abbrev Somewhere : Option Spot → Type 0
  Somewhere None = Unit {0}
  Somewhere (Some nowhere) = ⊥
  Somewhere (Some (at_spot o n d)) = Unit {0}

  guarded : (b : Bool) (o : List ℕ) (n d : ℕ) → Somewhere (guard b (at_spot o n d))
  guarded true o n d = tt
  guarded false o n d = tt

  on_somewhere : (k : Kind) (o : List ℕ) (n d m e : ℕ) → Somewhere (move_on P Q N F k o n d m e)
  on_somewhere kind.Start o n d m e = tt
  on_somewhere kind.Step o n d m e = guarded _ o m e
  on_somewhere kind.Past o n d m e = guarded _ o m e
  on_somewhere kind.Call o n d m e = guarded _ (n ∷ o) m e
  on_somewhere kind.Return [] n d m e = tt
  on_somewhere kind.Return (c ∷ o) n d m e = guarded _ o m e

  start_somewhere : (k : Kind) (m e : ℕ) → Somewhere (start_on P Q N F k m e)
  start_somewhere kind.Start m e = guarded _ [] m e
  start_somewhere kind.Step m e = tt
  start_somewhere kind.Past m e = tt
  start_somewhere kind.Call m e = tt
  start_somewhere kind.Return m e = tt

  moved_somewhere : (o : Option Spot) (w : Move) → Somewhere (moved P Q N F o w)
  moved_somewhere None w = tt
  moved_somewhere (Some nowhere) w = start_somewhere w.kind w.point.0 w.fact.0
  moved_somewhere (Some (at_spot o n d)) w = on_somewhere w.kind o n d w.point.0 w.fact.0

  -- the words of moves that lead somewhere are a path's
  led_spells : (ws : List Move) (z : Spot) (words : List ℕ) → spot ws ≡ Some z → spelt ws ≡ words → 0 < length words → Spells H words
  led_spells [] z words e is h = absurd (let l = ap length is in omega arith)
  led_spells (w ∷ ws) nowhere words e is h = absurd (subst Somewhere e (moved_somewhere (spot ws) w))
  led_spells (w ∷ ws) (at_spot o n d) words e is h = record {
    moves = w ∷ ws;
    open_calls = o;
    point = n;
    fact = d;
    path = checked P Q N H.procs F sound.lawful (w ∷ ws) o n d e;
    words_are = sym is;
  }

  free_spells : (words : List ℕ) → 0 < length words → stuck H words nowhere ≡ None → Spells H words
  free_spells words h e = let r = free [] nowhere words refl e in led_spells r.moves r.end words r.at_end r.words h

  -- moves that lead somewhere did so all along
  along : (fs us : List Move) (z : Spot) → spot (reverse_aux fs us) ≡ Some z → (z' : Spot) × (spot us ≡ Some z')
  along [] us z e = (z, e)
  along (f ∷ fs) us z e = go (spot us) refl (along fs (f ∷ us) z e)
    where
      go : (o : Option Spot) → spot us ≡ o → (z' : Spot) × (moved P Q N F (spot us) f ≡ Some z') → (z' : Spot) × (spot us ≡ Some z')
      go None s r = let c = ap (λ (o : Option Spot). moved P Q N F o f) s in let d = r.1 in let n : ◌≡◌ {A = ℕ} 0 1 = cc in absurd (omega arith)
      go (Some z') s r = (z', s)

  lawful_lead : (z z' : Spot) (w : Move) → w.point.0 < N → w.fact.0 < F → move P Q N F z w ≡ Some z' → lead H z (encoded w) ≡ Some z'
  lawful_lead z z' w hp hf e =
      ap (lead_by H z) (read_back w (let b = sound.few_points in omega arith) (let b = sound.few_facts in omega arith)) ∙ e

  passes : (fs us : List Move) (z end : Spot) → spot us ≡ Some z → spot (reverse_aux fs us) ≡ Some end → Ranged N F fs → stuck H (map encoded fs) z ≡ None
  passes [] us z end e e' r = refl
  passes (f ∷ fs) us z end e e' r =
      let (z', on) = along fs (f ∷ us) end e' in
      let m : move P Q N F z f ≡ Some z' = ap (λ (o : Option Spot). moved P Q N F o f) (sym e) ∙ on in
      ap (λ (o : Option Spot). stuck_by o (stuck H (map encoded fs))) (lawful_lead z z' f r.0 r.1 m)
      ∙ ap one_more (passes fs (f ∷ us) z' end on e' r.2)

  spells_free : (words : List ℕ) → Spells H words → stuck H words nowhere ≡ None
  spells_free words s =
      let p = s.path in
      let at_end = passed P Q N H.procs F sound.lawful s.moves s.open_calls s.point s.fact p in
      let ranged : Ranged N F s.moves = path_ranged P Q N H.procs F sound.lawful sound.bounded p.proc_ok p.origin_ok p.path in
      ap (λ (xs : List ℕ). stuck H xs nowhere) s.words_are
      ∙ passes (reverse s.moves) [] nowhere (at_spot s.open_calls s.point s.fact) refl
      (ap spot (reverse-reverse s.moves) ∙ at_end) (ranged_aux N F s.moves [] ranged tt)

  -- up to the first word that leads nowhere
  record Cut (xs : List ℕ) (z : Spot) (k : ℕ) : Type 0 where
    within : k < length xs
    with_it : stuck H (take (suc k) xs) z ≡ Some k
    without : stuck H (take k xs) z ≡ None

  cut : (xs : List ℕ) (z : Spot) (k : ℕ) → stuck H xs z ≡ Some k → Cut xs z k
  cut [] z k e = let n : ◌≡◌ {A = ℕ} 0 1 = cc in absurd (omega arith)
  cut (x ∷ xs) z k e = go (λ z' j e'. cut xs z' j e') (lead H z x) refl e
    where
      deeper : (z' : Spot) → ((j : ℕ) → stuck H xs z' ≡ Some j → Cut xs z' j) → lead H z x ≡ Some z' → (o : Option ℕ) → stuck H xs z' ≡ o → one_more o ≡ Some k → Cut (x ∷ xs) z k
      deeper z' ih l None s g = let n : ◌≡◌ {A = ℕ} 0 1 = cc in absurd (omega arith)
      deeper z' ih l (Some j) s g =
          let c = ih j s in
          let is : suc j ≡ k = cc in
          subst (Cut (x ∷ xs) z) is (record {
            within = (let h = c.within in omega arith);
            with_it = ap (λ (o : Option Spot). stuck_by o (stuck H (take (suc j) xs))) l ∙ ap one_more c.with_it;
            without = ap (λ (o : Option Spot). stuck_by o (stuck H (take j xs))) l ∙ ap one_more c.without;
          })

      go : ((z' : Spot) (j : ℕ) → stuck H xs z' ≡ Some j → Cut xs z' j)
          → (o : Option Spot) → lead H z x ≡ o → stuck_by o (stuck H xs) ≡ Some k → Cut (x ∷ xs) z k
      go ih None l g =
          let is : 0 ≡ k = cc in
          subst (Cut (x ∷ xs) z) is (record {
            within = omega arith;
            with_it = ap (λ (o : Option Spot). stuck_by o (stuck H (take 0 xs))) l;
            without = refl;
          })
      go ih (Some z') l g = deeper z' (ih z') l (stuck H xs z') refl g

  none_some : {A : Type 0} (o : Option ℕ) (k : ℕ) → o ≡ None → o ≡ Some k → A
  none_some o k a b = let n : ◌≡◌ {A = ℕ} 0 1 = cc in absurd (omega arith)

  no_spelling : Spells H [] → ⊥
  no_spelling s = none_moves s.moves s.words_are s.path
    where
      none_moves : (ws : List Move) → [] ≡ spelt ws → PathAlong P Q H.procs F ws s.open_calls s.point s.fact → ⊥
      none_moves [] e p =
          let a = passed P Q N H.procs F sound.lawful [] s.open_calls s.point s.fact p in
          let n : ◌≡◌ {A = ℕ} 0 1 = cc in
          omega arith
      none_moves (w ∷ ws) e p =
          let l = ap length (e ∙ spelt_more ws w) in
          let m = length_more (spelt ws) (encoded w) in
          omega arith
        where
          length_more : (ys : List ℕ) (y : ℕ) → 0 < length (ys ++ (y ∷ []))
          length_more [] y = omega arith
          length_more (z ∷ ys) y = omega arith

  stuck_at : (words : List ℕ) (j : ℕ) → first_stuck H words ≡ Some j → StuckAt H words j
  stuck_at [] j e =
      let is : 0 ≡ j = cc in
      subst (StuckAt H []) is (record { before = inl refl; not_on = no_spelling; no_path = no_spelling; place = inl (refl, refl) })
  stuck_at (x ∷ xs) j e =
      let c = cut (x ∷ xs) nowhere j e in
      record {
        before = first j c.without c.within;
        not_on = λ s. none_some (stuck H (take (suc j) (x ∷ xs)) nowhere) j (spells_free (take (suc j) (x ∷ xs)) s) c.with_it;
        no_path = λ s. none_some (stuck H (x ∷ xs) nowhere) j (spells_free (x ∷ xs) s) e;
        place = inr c.within;
      }
    where
      first : (k : ℕ) → stuck H (take k (x ∷ xs)) nowhere ≡ None → k < length (x ∷ xs) → (k ≡ 0) ⊎ Spells H (take k (x ∷ xs))
      first zero f h = inl refl
      first (suc k) f h = inr (free_spells (take (suc k) (x ∷ xs)) (omega arith) f)

  passed_spells : (words : List ℕ) → first_stuck H words ≡ None → Spells H words
  passed_spells [] e = let n : ◌≡◌ {A = ℕ} 0 1 = cc in absurd (omega arith)
  passed_spells (x ∷ xs) e = free_spells (x ∷ xs) (omega arith) e

  pub check_law : (words : List ℕ) (room : ℕ) → Verdict H words room (check_no H words room)
  check_law words room = go (leb (length words) room) (leb→le (length words) room) (nleb→lt (length words) room) (first_stuck H words) refl
    where
      go : (b : Bool) → (T b → length words ≤ room) → (T (not b) → room < length words) → (o : Option ℕ) → first_stuck H words ≡ o
          → Verdict H words room (cond b (at_18 o) (Some (17, 0)))
      go true h h' None e = (h tt, passed_spells words e)
      go true h h' (Some j) e = no_move (h tt) (stuck_at words j e)
      go false h h' o e = no_room (h' tt)
