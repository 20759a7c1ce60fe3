-- Loops over sets of facts.
use Rattle.std.proofs.Common.{◌≡◌, ℕ, zero, suc, ◌+◌, ◌*◌, ◌<◌, ◌≤◌, Bool, true, false, not, ◌&&◌, nat_lt, nat_le, Some, None, Option, vec_items, length, get_or-set_same, sym, refl, ap, ◌∙◌, arith}
use Rattle.std.proofs.lemmas.List.{length-map}
use Rattle.std.proofs.lemmas.Bool.{ltb-true, leb-true, le-leb}
use Rattle.moves.specs.declared.moves.Kind.{Kind}
use Rattle.moves.specs.Words.{code}
use Rattle.paths.specs.Memory.{Rec}
use Rattle.paths.specs.Memory as memory
use Rattle.paths.specs.Tabled.{Tabled, record_at, find_at, find, is_found, where_yes}
use Rattle.fact_set.specs.Sets.{has, IsFirst}
use Rattle.listing.specs.declared.numbers.Fact.{Fact}
use Rattle.std.specs.Option.{is_some}
use Rattle.fact_set.specs.declared.FactSet.{FactSet}
use Rattle.table.proofs.Blocks.{lt_yes}
use Rattle.table.proofs.Finds.{rank_of}
use Rattle.table.specs.Settling.{finds_one}
use Rattle.table.specs.State.{inner, rec, Kept}
use Rattle.table.specs.declared.state.Core.{Core}
use Rattle.table.specs.declared.sites.Lead.{Lead}

-- finding what is found does nothing
found_idle : (r : ℕ) (k : Kind) (u v c : ℕ) (t : Tabled) → nat_lt 0 r ≡ true → find_at r k u v c t ≡ t
found_idle zero k u v c t h = let z = ltb-true 0 0 h in absurd (omega arith)
found_idle (suc r) k u v c t h = refl

pub find_idle : (k : Kind) (u v c : ℕ) (t : Tabled) → is_found c t ≡ true → find k u v c t ≡ t
find_idle k u v c t h = found_idle (record_at t c).rank k u v c t h

-- nor does a step that is not taken, or that is idle where it is
pub where_idle : (b : Bool) (f : Tabled → Tabled) (t : Tabled) → (b ≡ true → f t ≡ t) → where_yes b f t ≡ t
where_idle true f t h = h refl
where_idle false f t h = refl

pub one_idle : (F : ℕ) (s : FactSet) (by : Lead) (b e : ℕ) (t : Tabled) → (has s e ≡ true → is_found (b * F + e) t ≡ true) → finds_one F s by b e t ≡ t
one_idle F s by b e t h = where_idle (has s e) (find _ _ _ (b * F + e)) t (λ y. find_idle _ _ _ (b * F + e) t (h y))

-- what is left of a set from fact k on: its facts below F that are not found
left_bits : (s a l f k : Bool) → (((s && (a && l)) && not (l && f)) && k) ≡ true → (s ≡ true) × (l ≡ true) × (k ≡ true) × (f ≡ false)
left_bits true true true false true h = (refl, refl, refl, refl)
left_bits true true true true k h = let z : ◌≡◌ {A = ℕ} 0 1 = cc in absurd (omega arith)
left_bits true true true false false h = let z : ◌≡◌ {A = ℕ} 0 1 = cc in absurd (omega arith)
left_bits true true false f k h = let z : ◌≡◌ {A = ℕ} 0 1 = cc in absurd (omega arith)
left_bits true false l f k h = let z : ◌≡◌ {A = ℕ} 0 1 = cc in absurd (omega arith)
left_bits false a l f k h = let z : ◌≡◌ {A = ℕ} 0 1 = cc in absurd (omega arith)

none_bits : (s a l f k : Bool) → (((s && (a && l)) && not (l && f)) && k) ≡ false → s ≡ true → a ≡ true → l ≡ true → k ≡ true → f ≡ true
none_bits true true true true true h p q r t = refl
none_bits true true true false true h p q r t = let z : ◌≡◌ {A = ℕ} 0 1 = cc in absurd (omega arith)
none_bits true true true f false h p q r t = let z : ◌≡◌ {A = ℕ} 0 1 = cc in absurd (omega arith)
none_bits true true false f k h p q r t = let z : ◌≡◌ {A = ℕ} 0 1 = cc in absurd (omega arith)
none_bits true false l f k h p q r t = let z : ◌≡◌ {A = ℕ} 0 1 = cc in absurd (omega arith)
none_bits false a l f k h p q r t = let z : ◌≡◌ {A = ℕ} 0 1 = cc in absurd (omega arith)

-- a set that has no least fact has none
pub nothing : (s : FactSet) (o : Option Fact) → IsFirst s o → is_some o ≡ false → (e : ℕ) → has s e ≡ false
nothing s None h n = h
nothing s (Some e) h n = let z : ◌≡◌ {A = ℕ} 0 1 = cc in absurd (omega arith)

-- every fact below F is found, where none of them is missing
pub full : (F : ℕ) (few : F ≤ 64) (all found missing : FactSet) (is_found_now : ℕ → Bool) → ((e : ℕ) → has all e ≡ (nat_lt e 64 && nat_lt e F))
    → ((e : ℕ) → has found e ≡ (nat_lt e F && is_found_now e)) → ((e : ℕ) → has missing e ≡ (has all e && not (has found e)))
    → (e : ℕ) → has missing e ≡ false → e < F → is_found_now e ≡ true
full F few all found missing is_found_now all_is found_is missing_is e none l =
    none_bits true (nat_lt e 64) (nat_lt e F) (is_found_now e) true
    (ap (λ (x : Bool). x && true) (sym (missing_is e ∙ ap (λ (x : Bool). x && not (has found e)) (all_is e) ∙ ap (λ (x : Bool). (nat_lt e 64 && nat_lt e F) && not x) (found_is e)) ∙ none))
    refl (lt_yes e 64 (omega arith)) (lt_yes e F l) refl

-- a set cut to the facts below F
abbrev pub Cut : ℕ → FactSet → FactSet → Type 0
Cut F s cut = (e : ℕ) → has cut e ≡ (has s e && (nat_lt e 64 && nat_lt e F))

pub cut_is : (F : ℕ) (s below cut : FactSet) → ((e : ℕ) → has below e ≡ (nat_lt e 64 && nat_lt e F)) → ((e : ℕ) → has cut e ≡ (has s e && has below e)) → Cut F s cut
cut_is F s below cut h k e = k e ∙ ap (λ (x : Bool). has s e && x) (h e)

pub cut_still : (F G : ℕ) (s cut : FactSet) → G ≡ F → Cut F s cut → Cut G s cut
cut_still F G s cut e h d = h d ∙ ap (λ (f : ℕ). has s d && (nat_lt d 64 && nat_lt d f)) (sym e)

module _ (F : ℕ) (few : F ≤ 64) (s cut found diff : FactSet) (is_found_now : ℕ → Bool) (cut_to : Cut F s cut)
    (found_is : (e : ℕ) → has found e ≡ (nat_lt e F && is_found_now e))
    (diff_is : (e : ℕ) → has diff e ≡ (has cut e && not (has found e))) where
  pub diff_all : (e : ℕ) → has diff e ≡ ((has s e && (nat_lt e 64 && nat_lt e F)) && not (nat_lt e F && is_found_now e))
  diff_all e =
      diff_is e
      ∙ ap (λ (x : Bool). x && not (has found e)) (cut_to e)
      ∙ ap (λ (x : Bool). (has s e && (nat_lt e 64 && nat_lt e F)) && not x) (found_is e)

  pub diff_no : (e : ℕ) → has diff e ≡ false → e < F → has s e ≡ true → is_found_now e ≡ true
  diff_no e h l y =
      none_bits (has s e) (nat_lt e 64) (nat_lt e F) (is_found_now e) true (ap (λ (x : Bool). x && true) (sym (diff_all e) ∙ h)) y
      (lt_yes e 64 (omega arith)) (lt_yes e F l) refl

module _ (F : ℕ) (few : F ≤ 64) (s cut found diff left : FactSet) (next : ℕ) (is_found_now : ℕ → Bool) (cut_to : Cut F s cut)
    (found_is : (e : ℕ) → has found e ≡ (nat_lt e F && is_found_now e))
    (diff_is : (e : ℕ) → has diff e ≡ (has cut e && not (has found e)))
    (left_is : (e : ℕ) → has left e ≡ (has diff e && nat_le next e)) where
  left_all : (e : ℕ) → has left e ≡ (((has s e && (nat_lt e 64 && nat_lt e F)) && not (nat_lt e F && is_found_now e)) && nat_le next e)
  left_all e = left_is e ∙ ap (λ (x : Bool). x && nat_le next e) (diff_all F few s cut found diff is_found_now cut_to found_is diff_is e)

  pub left_yes : (e : ℕ) → has left e ≡ true → (has s e ≡ true) × (e < F) × (next ≤ e) × (is_found_now e ≡ false)
  left_yes e h =
      let z = left_bits (has s e) (nat_lt e 64) (nat_lt e F) (is_found_now e) (nat_le next e) (sym (left_all e) ∙ h) in
      (z.0, ltb-true e F z.1, leb-true next e z.2, z.3)

  pub left_no : (e : ℕ) → has left e ≡ false → next ≤ e → e < F → has s e ≡ true → is_found_now e ≡ true
  left_no e h m l y =
      none_bits (has s e) (nat_lt e 64) (nat_lt e F) (is_found_now e) (nat_le next e) (sym (left_all e) ∙ h) y
      (lt_yes e 64 (omega arith)) (lt_yes e F l) (le-leb next e m)

-- what is found stays found
pub still_found : (s t : Core) (c : ℕ) → Kept s t → is_found c (inner s) ≡ true → is_found c (inner t) ≡ true
still_found s t c k h =
    let r = rank_of (vec_items s.records) s.points s.facts s.found s.head s.tail c in
    let q = rank_of (vec_items t.records) t.points t.facts t.found t.head t.tail c in
    let l = ltb-true 0 _ h in
    let m = k.stays c (omega arith) in
    lt_yes 0 _ (omega arith)

-- a cell of the table is found once it was looked for
found_at : (r : ℕ) (k : Kind) (u v c : ℕ) (t : Tabled) → c < length t.records → (record_at t c).rank ≡ r → is_found c (find_at r k u v c t) ≡ true
found_at zero k u v c t h e = ap (λ (x : Rec). nat_lt 0 x.rank) (get_or-set_same t.records c (record { rank = suc t.found; kind = code k; first = u; second = v }) memory.blank h) ∙ lt_yes 0 (suc t.found) (omega arith)
found_at (suc r) k u v c t h e = ap (nat_lt 0) e ∙ lt_yes 0 (suc r) (omega arith)

pub find_finds : (t : Core) (k : Kind) (u v c : ℕ) → c < t.size → is_found c (find k u v c (inner t)) ≡ true
find_finds t k u v c h =
    let l = length-map (vec_items t.records) rec in
    found_at (record_at (inner t) c).rank k u v c (inner t) (omega (arith, t.held)) refl
