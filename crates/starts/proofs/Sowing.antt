-- One start after the other.
use Rattle.std.proofs.Common.{◌≡◌, ℕ, zero, suc, ◌+◌, ◌<◌, ◌≤◌, List, [], ◌∷◌, take, drop, Some, None, Option, sym, refl, ap, ◌∙◌, subst, arith}
use Rattle.std.proofs.lemmas.List.{drop_all, length-take}
use Rattle.std.specs.List.{slice_get}
use Rattle.flow.specs.declared.interface.Start.{Start}
use Rattle.listing.proofs.Lists.{drop_nth, nth_none}
use Rattle.paths.specs.Does.{Handed, Answer, answer_by, one_if_new, Open, Sows, Sow, sown, Call}
use Rattle.paths.specs.Law.{accepted}
use Rattle.paths.specs.Tabled.{Tabled, is_found, start_cell}
use Rattle.paths.specs.Usage.{Standing}
use Rattle.table.specs.Told.{CountsStay}
use Rattle.starts.specs.Sown.{given_starts, start_no, sown_all, accepted_by, accepted_all, Carries}

module _ (h : Handed) (s : Start) (t u : Tabled) (answer : Answer) (sows : Sows h s.procedure.0 s.fact.0 t answer u) where
  counted : (o : Option ℕ) (k : ℕ) (calls : List Call) → accepted (Sow h s.procedure.0 s.fact.0 (answer_by o k) ∷ calls) ≡ accepted_by o s (accepted calls)
  counted None k calls = refl
  counted (Some q) k calls = refl

  -- a start that is sown, accepted or not
  pub stands : (first : Tabled) (before : List (ℕ × ℕ)) → Standing h first before (Open t) → Standing h first (accepted_by (start_no h s t) s before) (Open u)
  stands first before st = record {
    calls = Sow h s.procedure.0 s.fact.0 answer ∷ st.calls;
    row = sown st.row (λ _ _. refl) sows;
    starts_are =
        ap (λ (a : Answer). accepted (Sow h s.procedure.0 s.fact.0 a ∷ st.calls)) sows.answers
        ∙ counted (start_no h s t) (one_if_new (is_found (start_cell h.graph h.rule h.points h.facts s.procedure.0 s.fact.0) t)) st.calls
        ∙ ap (accepted_by (start_no h s t) s) st.starts_are;
  }

-- the starts that are left to sow, by place
pub front : (ss : List Start) (i : ℕ) (s : Start) → i < 256 → Some s ≡ slice_get ss i → drop i (given_starts ss) ≡ s ∷ drop (i + 1) (given_starts ss)
unfolding given_starts
front ss i s l e = drop_nth (given_starts ss) i s (in_front ss i 256 l ∙ sym e)
  where
    in_front : (ss : List Start) (i k : ℕ) → i < k → slice_get (take k ss) i ≡ slice_get ss i
    in_front ss i zero l = absurd (omega arith)
    in_front [] i (suc k) l = refl
    in_front (x ∷ ss) zero (suc k) l = refl
    in_front (x ∷ ss) (suc i) (suc k) l = in_front ss i k (omega arith)

-- none is left past the last
pub spent : (ss : List Start) (i : ℕ) → None ≡ slice_get ss i → drop i (given_starts ss) ≡ []
unfolding given_starts
spent ss i e = drop_all i (given_starts ss) (let n = nth_none ss i (sym e) in let m = length-take 256 ss in omega arith)

-- nor past the number of those that can be given
pub counted_out : (ss : List Start) (i : ℕ) → 256 ≤ i → drop i (given_starts ss) ≡ []
unfolding given_starts
counted_out ss i l = drop_all i (given_starts ss) (let m = length-take 256 ss in omega arith)

-- while the starts ss are sown in a table: what those that are left make of it, and which starts a row of calls has accepted by then
pub record Sowing (h : Handed) (ss : List Start) (first now : Tabled) (left : List Start) : Type 0 where
  pub table : sown_all h left now ≡ sown_all h ss first
  pub accepts : (opened : Tabled) (before : List (ℕ × ℕ)) → Standing h opened before (Open first)
      → (by : List (ℕ × ℕ)) × Standing h opened by (Open now) × (accepted_all h left now by ≡ accepted_all h ss first before)
  pub counts : CountsStay first now

pub begun : (h : Handed) (ss : List Start) (t : Tabled) → Sowing h ss t t ss
begun h ss t = record { table = refl; accepts = λ opened before st. (before, st, refl); counts = record { points = refl; facts = refl } }

-- one start more
pub sown_more : (h : Handed) (ss : List Start) (first t u : Tabled) (s : Start) (rest left : List Start) (answer : Answer) → Sowing h ss first t left → left ≡ s ∷ rest
    → Sows h s.procedure.0 s.fact.0 t answer u → CountsStay t u → Sowing h ss first u rest
sown_more h ss first t u s rest left answer w next sows same = record {
  table = ap (sown_all h rest) sows.leaves ∙ sym (ap (λ (xs : List Start). sown_all h xs t) next) ∙ w.table;
  accepts = λ opened before st.
      let (by, here, is) = w.accepts opened before st in (
        accepted_by (start_no h s t) s by,
        stands h s t u answer sows opened by here,
        ap (λ (x : Tabled). accepted_all h rest x (accepted_by (start_no h s t) s by)) sows.leaves ∙ sym (ap (λ (xs : List Start). accepted_all h xs t by) next) ∙ is,
      );
  counts = record { points = same.points ∙ w.counts.points; facts = same.facts ∙ w.counts.facts };
}

-- where none is left
pub all_sown : (h : Handed) (ss : List Start) (first t : Tabled) (left : List Start) → Sowing h ss first t left → left ≡ []
    → (t ≡ sown_all h ss first) × Carries h ss first t
all_sown h ss first t left w none = (
  sym (ap (λ (xs : List Start). sown_all h xs t) none) ∙ w.table,
  record {
    row = λ opened before st.
        let (by, here, is) = w.accepts opened before st in
        subst (λ (xs : List (ℕ × ℕ)). Standing h opened xs (Open t)) (sym (ap (λ (xs : List Start). accepted_all h xs t by) none) ∙ is) here;
  },
)
