-- Starts that are in range are all accepted, and so are the default starts of a problem about the cells of a lawful program.
use Rattle.std.proofs.Common.{◌≡◌, ℕ, zero, suc, ◌+◌, ◌<◌, ◌≤◌, Bool, true, false, List, [], ◌∷◌, length, Some, None, Option, sym, refl, ap, ◌∙◌, arith}
use Rattle.std.proofs.lemmas.Bool.{cond-true, eq-eqb, lt-ltb}
use Rattle.std.proofs.lemmas.List.{take_all}
use Rattle.listing.proofs.Parts.{parts}
use Rattle.listing.specs.Lawful.{is_lawful}
use Rattle.listing.specs.Meaning.{Meaning, size, procs, flow}
use Rattle.listing.specs.Procedures.{bump, rets, ends_in_ret}
use Rattle.listing.specs.Statements.{is_ret}
use Rattle.listing.specs.declared.control.Control.{Control}
use Rattle.flow.specs.CellFacts.{facts_in, from_each}
use Rattle.flow.specs.Choices.{starts_of}
use Rattle.flow.specs.declared.choice.Choice.{Choice}
use Rattle.flow.specs.declared.choice.Choice.TheVariants.{Unset, Raw}
use Rattle.flow.specs.declared.interface.Start.{Start}
use Rattle.paths.specs.Does.{Handed, left_by}
use Rattle.paths.specs.Handing.{posed}
use Rattle.paths.specs.Machine.{both}
use Rattle.paths.specs.Tabled.{Tabled, record_at, find_at, start_cell, sow}
use Rattle.starts.specs.Sown.{given_starts, start_no, sown_one, accepted_by, accepted_all, latest_first}

-- sowing keeps the counts, so those of a table still fit after it
pub record Fits (h : Handed) (t : Tabled) : Type 0 where
  pub points : t.points ≡ h.points
  pub facts : t.facts ≡ h.facts

by_rank : {K : Type 0} (h : Handed) (after : K → ℕ → Tabled) (k : K) → Fits h (after k 0) → ((r : ℕ) → Fits h (after k (suc r))) → (r : ℕ) → Fits h (after k r)
by_rank h after k new old zero = new
by_rank h after k new old (suc r) = old r

sow_fits : (h : Handed) (p d : ℕ) (t : Tabled) → Fits h t → Fits h (sow h.graph h.rule h.points h.facts p d t)
sow_fits h p d t f =
    let c : ℕ = start_cell h.graph h.rule h.points h.facts p d in
    by_rank h (λ k r. find_at r k 0 0 c t) _ (record { points = f.points; facts = f.facts }) (λ r. f) (record_at t c).rank

left_fits : (h : Handed) (o : Option ℕ) (before after : Tabled) → Fits h before → Fits h after → Fits h (left_by o before after)
left_fits h None before after b a = a
left_fits h (Some q) before after b a = b

one_fits : (h : Handed) (s : Start) (t : Tabled) → Fits h t → Fits h (sown_one h s t)
one_fits h s t f = left_fits h (start_no h s t) t _ f (sow_fits h s.procedure.0 s.fact.0 t f)

-- starts in range
abbrev pub InRange : Handed → List Start → Type 0
InRange h [] = Unit {0}
InRange h (s ∷ ss) = (s.procedure.0 < h.procs) × (s.fact.0 < h.facts) × InRange h ss

both_true : (a b : Bool) → a ≡ true → b ≡ true → both a b ≡ true
both_true a b e f = ap (λ (x : Bool). both x b) e ∙ f

no_question : (h : Handed) (s : Start) (t : Tabled) → Fits h t → s.procedure.0 < h.procs → s.fact.0 < h.facts → start_no h s t ≡ None
no_question h s t f p d =
    cond-true _ _ _ (both_true _ _ (eq-eqb h.points t.points (sym f.points)) (eq-eqb h.facts t.facts (sym f.facts)))
    ∙ cond-true _ _ _ (both_true _ _ (lt-ltb _ _ p) (lt-ltb _ _ d))

-- starts in range are accepted one after the other
pub all_accepted : (h : Handed) (ss : List Start) (t : Tabled) (before : List (ℕ × ℕ)) → InRange h ss → Fits h t
    → accepted_all h ss t before ≡ latest_first ss before
all_accepted h [] t before r f = refl
all_accepted h (s ∷ ss) t before (p, d, r) f =
    ap (λ (o : Option ℕ). accepted_all h ss (sown_one h s t) (accepted_by o s before)) (no_question h s t f p d)
    ∙ all_accepted h ss (sown_one h s t) ((s.procedure.0, s.fact.0) ∷ before) r (one_fits h s t f)

-- where the last statement is a `ret`, there is a procedure
bump_some : (b : Bool) (n : ℕ) → b ≡ true → 0 < bump b n
bump_some b n e = let f : bump b n ≡ suc n = ap (λ (x : Bool). bump x n) e in omega arith

bump_least : (b : Bool) (n : ℕ) → n ≤ bump b n
bump_least true n = omega arith
bump_least false n = omega arith

some_ret : (cs : List Control) → ends_in_ret cs ≡ true → 0 < rets cs
some_ret [] e = absurd (let z : ◌≡◌ {A = ℕ} 0 1 = cc in omega arith)
some_ret (c ∷ []) e = bump_some (is_ret c) 0 e
some_ret (c ∷ d ∷ cs) e = omega (arith, some_ret (d ∷ cs) e, bump_least (is_ret c) (rets (d ∷ cs)))

pub some_procedure : (m : Meaning) → is_lawful m ≡ true → 0 < procs m
some_procedure m lawful = some_ret (flow m) (parts m lawful).end

-- procedure 0 with each of k facts
each_in_range : (h : Handed) (d k : ℕ) → 0 < h.procs → d + k ≤ h.facts → InRange h (from_each d k)
each_in_range h d zero p l = _
each_in_range h d (suc k) p l = (p, omega arith, each_in_range h (d + 1) k p (omega arith))

each_many : (d k : ℕ) → length (from_each d k) ≡ k
each_many d zero = refl
each_many d (suc k) = ap suc (each_many (d + 1) k)

in_range : (choice : Choice) (m : Meaning) → 0 < procs m → InRange (posed choice m.globals m.locals m) (starts_of choice m.globals m.locals)
in_range Unset m p = each_in_range (posed Unset m.globals m.locals m) 0 (facts_in m.globals m.locals) p (omega arith)
in_range Raw m p = each_in_range (posed Raw m.globals m.locals m) 0 1 p (omega arith)

most : (choice : Choice) (g l : ℕ) → g ≤ 31 → l ≤ 32 → length (starts_of choice g l) ≤ 256
most Unset g l a b = omega (arith, each_many 0 (facts_in g l))
most Raw g l a b = omega arith

-- of a lawful program every default start is accepted
pub default_starts : (choice : Choice) (m : Meaning) → is_lawful m ≡ true → (t : Tabled) → t.points ≡ size m → t.facts ≡ facts_in m.globals m.locals
    → accepted_all (posed choice m.globals m.locals m) (given_starts (starts_of choice m.globals m.locals)) t [] ≡ latest_first (starts_of choice m.globals m.locals) []
unfolding given_starts
default_starts choice m lawful t points facts =
    let h : Handed = posed choice m.globals m.locals m in
    let ss = starts_of choice m.globals m.locals in
    let l = parts m lawful in
    ap (λ (xs : List Start). accepted_all h xs t []) (take_all 256 ss (most choice m.globals m.locals l.few_globals l.few_locals))
    ∙ all_accepted h ss t [] (in_range choice m (some_procedure m lawful)) (record { points = points; facts = facts })
