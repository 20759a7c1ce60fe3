-- The graph of a lawful program is lawful.
use Rattle.std.proofs.Common.{◌≡◌, ℕ, zero, suc, ◌+◌, ◌<◌, Bool, true, false, T, eqb, ltb, List, [], ◌∷◌, length, Some, sym, refl, ap, ◌∙◌, subst, inl, inr, add-zero, zero-add, add-one, arith, eqb→eq, ltb→lt}
use mathlib.Core.List.Memᴰ
use mathlib.Core.List.{Memᴰ}
use lib.ListN.{length-map}
use Rattle.std.specs.List.{slice_get}
use Rattle.std.specs.Option.{option_map}
use Rattle.std.proofs.lemmas.Bool.{and_parts}
use Rattle.listing.specs.declared.numbers.Cell.{Cell}
use Rattle.listing.specs.declared.numbers.Proc.{Proc}
use Rattle.listing.specs.declared.control.Control.{Control}
use Rattle.listing.specs.declared.control.Control.TheVariants as control
use Rattle.listing.specs.declared.statement.Statement.{Statement}
use Rattle.listing.specs.declared.statement.Statement.TheVariants.{Set, Move, Add, Read, Send, Goto, Test, Call, Ret, Trim}
use Rattle.listing.specs.Statements.{controlled, is_ret}
use Rattle.listing.specs.Procedures.{bump, rets, procedure, entry, exit, exit_by, ends_in_ret}
use Rattle.listing.specs.Meaning.{Meaning, flow, size, procs}
use Rattle.listing.specs.Lawful.{every, together, stays, exists, is_lawful}
use Rattle.listing.proofs.Lists.{nth_within, nth_map}
use Rattle.listing.proofs.Parts as parts
use Rattle.paths.specs.Supergraph.{graph_of, Follows, Lawful}

bump_bump : (a b : Bool) (n : ℕ) → bump a (bump b n) ≡ bump b (bump a n)
bump_bump true true n = refl
bump_bump true false n = refl
bump_bump false true n = refl
bump_bump false false n = refl

-- the next point is in the next procedure if the statement is a `ret`
proc_next : (cs : List Control) (n : ℕ) (c : Control) → slice_get cs n ≡ Some c → procedure cs (suc n) ≡ bump (is_ret c) (procedure cs n)
proc_next [] n c e = absurd (let z : ◌≡◌ {A = ℕ} 0 1 = cc in omega arith)
proc_next (d ∷ cs) zero c e = let same : d ≡ c = cc in ap (λ (x : Control). bump (is_ret x) 0) same
proc_next (d ∷ cs) (suc n) c e = ap (bump (is_ret d)) (proc_next cs n c e) ∙ bump_bump (is_ret d) (is_ret c) (procedure cs n)

ret_is : (c : Control) → is_ret c ≡ true → c ≡ control.Ret
ret_is control.Next e = absurd (let z : ◌≡◌ {A = ℕ} 0 1 = cc in omega arith)
ret_is (control.Goto k) e = absurd (let z : ◌≡◌ {A = ℕ} 0 1 = cc in omega arith)
ret_is (control.Test k) e = absurd (let z : ◌≡◌ {A = ℕ} 0 1 = cc in omega arith)
ret_is (control.Call p) e = absurd (let z : ◌≡◌ {A = ℕ} 0 1 = cc in omega arith)
ret_is control.Ret e = refl

pub exit_ret : (cs : List Control) (p : ℕ) → p < rets cs → slice_get cs (exit cs p) ≡ Some control.Ret
exit_ret [] p h = absurd (omega arith)
exit_ret (c ∷ cs) p h = go (is_ret c) (ret_is c) p h (exit_ret cs)
  where
    go : (b : Bool) → (b ≡ true → c ≡ control.Ret) → (p : ℕ) → p < bump b (rets cs)
        → ((p : ℕ) → p < rets cs → slice_get cs (exit cs p) ≡ Some control.Ret)
        → slice_get (c ∷ cs) (exit_by b (exit cs) p) ≡ Some control.Ret
    go true r zero h ih = ap Some (r refl)
    go true r (suc p) h ih = ih p (omega arith)
    go false r p h ih = ih p h

proc_exit : (cs : List Control) (p : ℕ) → p < rets cs → procedure cs (exit cs p) ≡ p
proc_exit [] p h = absurd (omega arith)
proc_exit (c ∷ cs) p h = go (is_ret c) refl p h (proc_exit cs)
  where
    go : (b : Bool) → is_ret c ≡ b → (p : ℕ) → p < bump b (rets cs) → ((p : ℕ) → p < rets cs → procedure cs (exit cs p) ≡ p)
        → procedure (c ∷ cs) (exit_by b (exit cs) p) ≡ p
    go true e zero h ih = refl
    go true e (suc p) h ih = ap (λ (b : Bool). bump b (procedure cs (exit cs p))) e ∙ ap suc (ih p (omega arith))
    go false e p h ih = ap (λ (b : Bool). bump b (procedure cs (exit cs p))) e ∙ ih p h

exit_proc : (cs : List Control) (n : ℕ) → slice_get cs n ≡ Some control.Ret → n ≡ exit cs (procedure cs n)
exit_proc [] n e = absurd (let z : ◌≡◌ {A = ℕ} 0 1 = cc in omega arith)
exit_proc (c ∷ cs) zero e = let same : control.Ret ≡ c = cc in ap (λ (x : Control). exit_by (is_ret x) (exit cs) 0) same
exit_proc (c ∷ cs) (suc n) e = go (is_ret c) (exit_proc cs n e)
  where
    go : (b : Bool) → n ≡ exit cs (procedure cs n) → suc n ≡ exit_by b (exit cs) (bump b (procedure cs n))
    go true ih = ap suc ih
    go false ih = ap suc ih

exit_step : (cs : List Control) (p : ℕ) → suc p < rets cs → exit cs p < exit cs (suc p)
exit_step [] p h = absurd (omega arith)
exit_step (c ∷ cs) p h = go (is_ret c) p h (exit_step cs)
  where
    go : (b : Bool) (p : ℕ) → suc p < bump b (rets cs) → ((p : ℕ) → suc p < rets cs → exit cs p < exit cs (suc p))
        → exit_by b (exit cs) p < exit_by b (exit cs) (suc p)
    go true zero h ih = omega arith
    go true (suc p) h ih = let r = ih p (omega arith) in omega arith
    go false p h ih = let r = ih p h in omega arith

bump_lt : (b : Bool) (m n : ℕ) → m < n → bump b m < bump b n
bump_lt true m n h = omega arith
bump_lt false m n h = h

bump_pos : (b : Bool) (n : ℕ) → 0 < n → 0 < bump b n
bump_pos true n h = omega arith
bump_pos false n h = h

proc_below : (cs : List Control) → ends_in_ret cs ≡ true → (n : ℕ) → n < length cs → procedure cs n < rets cs
proc_below [] t n h = absurd (omega arith)
proc_below (c ∷ []) t zero h = let z : bump (is_ret c) 0 ≡ 1 = ap (λ (b : Bool). bump b 0) t in omega arith
proc_below (c ∷ []) t (suc n) h = absurd (omega arith)
proc_below (c ∷ d ∷ cs) t zero h = bump_pos (is_ret c) (rets (d ∷ cs)) (proc_below (d ∷ cs) t zero (omega arith))
proc_below (c ∷ d ∷ cs) t (suc n) h = bump_lt (is_ret c) (procedure (d ∷ cs) n) (rets (d ∷ cs)) (proc_below (d ∷ cs) t n (omega arith))

next_within : (cs : List Control) → ends_in_ret cs ≡ true → (n : ℕ) (c : Control) → slice_get cs n ≡ Some c → is_ret c ≡ false → suc n < length cs
next_within [] t n c e h = absurd (let z : ◌≡◌ {A = ℕ} 0 1 = cc in omega arith)
next_within (d ∷ []) t zero c e h =
    let same : d ≡ c = cc in
    let clash : true ≡ false = sym t ∙ ap is_ret same ∙ h in
    absurd (let z : ◌≡◌ {A = ℕ} 0 1 = cc in omega arith)
next_within (d ∷ []) t (suc n) c e h = absurd (let z : ◌≡◌ {A = ℕ} 0 1 = cc in omega arith)
next_within (d ∷ u ∷ cs) t zero c e h = omega arith
next_within (d ∷ u ∷ cs) t (suc n) c e h = let r = next_within (u ∷ cs) t n c e h in omega arith

-- a test of each element with its place says yes at each place
every_at : {A : Type 0} (f : ℕ → A → Bool) (xs : List A) (i : ℕ) → every f i xs ≡ true → (n : ℕ) (x : A) → slice_get xs n ≡ Some x → f (i + n) x ≡ true
every_at f [] i t n x e = absurd (let z : ◌≡◌ {A = ℕ} 0 1 = cc in omega arith)
every_at f (u ∷ xs) i t zero x e =
    let same : u ≡ x = cc in
    ap (λ (k : ℕ). f k x) (add-zero i) ∙ ap (f i) (sym same) ∙ (and_parts (f i u) (every f (i + 1) xs) t).0
every_at f (u ∷ xs) i t (suc n) x e =
    let next : i + 1 + n ≡ i + suc n = omega arith in
    subst (λ (k : ℕ). f k x ≡ true) next (every_at f xs (i + 1) (and_parts (f i u) (every f (i + 1) xs) t).1 n x e)

abbrev Stays : List Control → ℕ → ℕ → Type 0
Stays cs n m = (m < length cs) × (procedure cs m ≡ procedure cs n)

test_true : (b : Bool) → b ≡ true → T b
test_true true e = tt
test_true false e = absurd (let z : ◌≡◌ {A = ℕ} 0 1 = cc in omega arith)

together_stays : (cs : List Control) (n k : ℕ) → together cs n k ≡ true → Stays cs n k
together_stays cs n k e =
    let two = and_parts (ltb k (length cs)) (eqb (procedure cs k) (procedure cs n)) e in
    (ltb→lt k (length cs) (test_true _ two.0), eqb→eq (procedure cs k) (procedure cs n) (test_true _ two.1))

module _ (m : Meaning) (lawful : parts.Lawful m) where
  abbrev ss : List (Statement Cell)
  ss = m.statements

  abbrev cs : List Control
  cs = flow m

  same_length : length cs ≡ length ss
  same_length = length-map ss controlled

  -- what a statement does to control stands in the flow
  in_flow : (n : ℕ) (s : Statement Cell) → slice_get ss n ≡ Some s → slice_get cs n ≡ Some (controlled s)
  in_flow n s e = nth_map controlled ss n ∙ ap (option_map controlled) e

  next_stays : (n : ℕ) (s : Statement Cell) → slice_get ss n ≡ Some s → is_ret (controlled s) ≡ false → Stays cs n (n + 1)
  next_stays n s e h =
      subst (Stays cs n) (sym (add-one n)) (
        next_within cs lawful.end n (controlled s) (in_flow n s e) h,
        proc_next cs n (controlled s) (in_flow n s e) ∙ ap (λ (b : Bool). bump b (procedure cs n)) h,
      )

  to_next : (n k : ℕ) (s : Statement Cell) → slice_get ss n ≡ Some s → is_ret (controlled s) ≡ false → Memᴰ k ((n + 1) ∷ []) → Stays cs n k
  to_next n k s e h f = subst (Stays cs n) (sym (Memᴰ.eq_of_singleton f)) (next_stays n s e h)

  jump_at : (n : ℕ) (s : Statement Cell) → slice_get ss n ≡ Some s → stays cs n (controlled s) ≡ true
  jump_at n s e =
      subst (λ (k : ℕ). stays cs k (controlled s) ≡ true) (zero-add n) (every_at (stays cs) cs 0 lawful.jumps n (controlled s) (in_flow n s e))

  callee_at : (n : ℕ) (D : Cell) (q : Proc) (S : Cell) → slice_get ss n ≡ Some (Call D q S) → q.0 < procs m
  callee_at n D q S e =
      ltb→lt q.0 (procs m)
      (test_true _ (every_at (exists (procs m)) cs 0 lawful.callees n (control.Call q) (in_flow n (Call D q S) e)))

  follows_stays : (n k : ℕ) (s : Statement Cell) → slice_get ss n ≡ Some s → Follows n s k → Stays cs n k
  follows_stays n k (Set D) e f = to_next n k (Set D) e refl f
  follows_stays n k (Move D S) e f = to_next n k (Move D S) e refl f
  follows_stays n k (Add D S T) e f = to_next n k (Add D S T) e refl f
  follows_stays n k (Read D) e f = to_next n k (Read D) e refl f
  follows_stays n k (Send S) e f = to_next n k (Send S) e refl f
  follows_stays n k (Goto K) e f = subst (Stays cs n) (sym (Memᴰ.eq_of_singleton f)) (together_stays cs n K.0 (jump_at n (Goto K) e))
  follows_stays n k (Test S K) e f =
      elim (Memᴰ.cases_cons f) [
        | inl p ↦ subst (Stays cs n) (sym p) (next_stays n (Test S K) e refl)
        | inr f' ↦ subst (Stays cs n) (sym (Memᴰ.eq_of_singleton f')) (together_stays cs n K.0 (jump_at n (Test S K) e))
      ]
  follows_stays n k (Call D q S) e f = elim f [ ]
  follows_stays n k (Ret S) e f = elim f [ ]
  follows_stays n k (Trim D S) e f = to_next n k (Trim D S) e refl f

  entry_proc : (p : ℕ) → p < rets cs → procedure cs (entry cs p) ≡ p
  entry_proc zero h = refl
  entry_proc (suc p) h =
      let below : p < rets cs = omega arith in
      proc_next cs (exit cs p) control.Ret (exit_ret cs p below) ∙ ap suc (proc_exit cs p below)

  exit_within : (p : ℕ) → p < rets cs → exit cs p < length cs
  exit_within p h = nth_within cs (exit cs p) control.Ret (exit_ret cs p h)

  entry_below : (p : ℕ) → p < rets cs → entry cs p < length cs
  entry_below zero h = let r = exit_within zero h in omega arith
  entry_below (suc p) h = let r = exit_within (suc p) h in let q = exit_step cs p h in omega arith

  within_size : (k : ℕ) → k < length cs → k < size m
  within_size k h = subst (λ (x : ℕ). k < x) same_length h

  lawful_graph : Lawful (graph_of m) (size m) (procs m)
  lawful_graph = record {
    within = nth_within ss;
    step_within = λ n k s e f. within_size k (follows_stays n k s e f).0;
    past_within = λ n D q S e. within_size (n + 1) (next_stays n (Call D q S) e refl).0;
    proc_within = λ n h. proc_below cs lawful.end n (subst (λ (x : ℕ). n < x) (sym same_length) h);
    entry_within = λ p h. within_size (entry cs p) (entry_below p h);
    step_inside = λ n k s e f. (follows_stays n k s e f).1;
    past_inside = λ n D q S e. (next_stays n (Call D q S) e refl).1;
    callee = callee_at;
    entry_inside = entry_proc;
    exit_inside = proc_exit cs;
    only_exit = λ n V e. exit_proc cs n (in_flow n (Ret V) e);
  }

pub listing : (m : Meaning) → is_lawful m ≡ true → Lawful (graph_of m) (size m) (procs m)
listing m e = lawful_graph m (parts.parts m e)
