-- A text that is accepted means a lawful program.
use Rattle.std.proofs.Common.{◌≡◌, ℕ, suc, ◌+◌, Bool, true, leb, List, [], ◌∷◌, map, length, is_some, Some, None, Option, sym, refl, ap, ◌∙◌, arith}
use Rattle.std.specs.List.{slice_get}
use Rattle.std.specs.Option.{option_map}
use Rattle.std.proofs.lemmas.List.{length-map}
use Rattle.std.proofs.lemmas.Bool.{and_from, and_parts}
use Rattle.listing.proofs.Lists.{nth_map}
use Rattle.listing.specs.Lawful.{points_in_range, each, every, owns, stays, exists, is_lawful}
use Rattle.listing.specs.Meaning.{flow, size}
use Rattle.listing.specs.Procedures.{rets, ends_in_ret}
use Rattle.listing.specs.Statements.{controlled}
use Rattle.listing.specs.declared.statement.Statement.{Statement}
use Rattle.draft.specs.Rules.{failing, unended, crowded, foreign, astray, missing}
use Rattle.draft.proofs.Failing.{passing, none_parts}
use Rattle.grammar.specs.Grammar.{then}
use Rattle.grammar.specs.declared.name.Name.{Name}
use Rattle.text.specs.Reading.{kept, collect, counted, written, flow_of, renumbered, meaning_of, or_true, owned_of, unranged, miscounted, accepted}
use Rattle.text.proofs.Written.{collect_nth, collect_length}
use Rattle.text.proofs.Refusals.{passed}
use Rattle.text.proofs.Accepted.{Answered, answered_yes, numbered_keeps}

-- where nothing fails, the whole passes
every_from : {A : Type 0} (test : ℕ → A → Bool) (xs : List A) (n : ℕ) → failing test n xs ≡ None → every test n xs ≡ true
every_from test [] n h = refl
every_from test (x ∷ xs) n h =
    let p = none_parts (test n x) (failing test (n + 1) xs) n h in
    and_from (test n x) (every test (n + 1) xs) p.0 (every_from test xs (n + 1) p.1)

module _ {A B : Type 0} (f : A → Option B) where
  each_kept : (test : B → Bool) (o : Option B) (ys : List B) → ((y : B) → o ≡ Some y → test y ≡ true) → each test ys ≡ true → each test (kept o ys) ≡ true
  each_kept test None ys h e = e
  each_kept test (Some y) ys h e = and_from (test y) (each test ys) (h y refl) e

  -- what holds of all that f gives holds of what it collects
  each_collect : (test : B → Bool) → ((x : A) (y : B) → f x ≡ Some y → test y ≡ true) → (xs : List A) → each test (collect f xs) ≡ true
  each_collect test h [] = refl
  each_collect test h (x ∷ xs) = each_kept test (f x) (collect f xs) (h x) (each_collect test h xs)

  map_kept : {C : Type 0} (u : A → C) (v : B → C) (x : A) (o : Option B) (ys : List B) (cs : List C) → ((y : B) → o ≡ Some y → v y ≡ u x) → is_some o ≡ true → map v ys ≡ cs → map v (kept o ys) ≡ u x ∷ cs
  map_kept u v x None ys cs h s e = let z : ◌≡◌ {A = ℕ} 0 1 = cc in absurd (omega arith)
  map_kept u v x (Some y) ys cs h s e = ap (λ c. c ∷ map v ys) (h y refl) ∙ ap (λ ds. u x ∷ ds) e

  -- what f keeps of each element is the same in what it collects
  map_collect : {C : Type 0} (u : A → C) (v : B → C) → ((x : A) (y : B) → f x ≡ Some y → v y ≡ u x) → (xs : List A) → ((k : ℕ) (x : A) → slice_get xs k ≡ Some x → is_some (f x) ≡ true) → map v (collect f xs) ≡ map u xs
  map_collect u v h [] s = refl
  map_collect u v h (x ∷ xs) s = map_kept u v x (f x) (collect f xs) (map u xs) (h x) (s 0 x refl) (map_collect u v h xs (λ k. s (suc k)))

module _ (t : List ℕ) (yes_all : Answered t) where
  -- each statement is over the program's own cells
  own_all : (k : ℕ) (s : Statement Name) → slice_get (written t) k ≡ Some s → is_some (renumbered t s) ≡ true
  unfolding foreign
  own_all k s e =
      let own = passing (λ n c. owned_of t n) (flow_of t) 0 yes_all.cells k (controlled s) (nth_map controlled (written t) k ∙ ap (option_map controlled) e) in
      let z : 0 + k ≡ k = omega arith in
      sym (ap (or_true (λ x. is_some (renumbered t x))) (ap (slice_get (written t)) z ∙ e)) ∙ own

  -- the statement of the program at a point is that of the text, renumbered
  pub meant_nth : (n : ℕ) → slice_get (meaning_of t).statements n ≡ then (slice_get (written t) n) (renumbered t)
  meant_nth n = collect_nth (renumbered t) (written t) own_all n

  pub meant_length : size (meaning_of t) ≡ length (written t)
  meant_length = collect_length (renumbered t) (written t) own_all

  pub meant_flow : flow (meaning_of t) ≡ flow_of t
  meant_flow = map_collect (renumbered t) controlled controlled (λ s y e. (numbered_keeps (counted t).globals (counted t).locals s y e).0) (written t) own_all

  pub lawful_by : is_lawful (meaning_of t) ≡ true
  unfolding unranged miscounted unended crowded astray missing
  lawful_by =
      and_from _ _ (passed _ 1 yes_all.ranges)
      (and_from _ _ (ap points_in_range meant_length ∙ passed _ 0 yes_all.count)
      (and_from _ _ (ap ends_in_ret meant_flow ∙ passed _ _ yes_all.end)
      (and_from _ _ (ap (λ cs. leb (rets cs) 60) meant_flow ∙ passed _ _ yes_all.procedures)
      (and_from _ _ (each_collect (renumbered t) (owns ((counted t).globals + (counted t).locals)) (λ s y e. (numbered_keeps (counted t).globals (counted t).locals s y e).1) (written t))
      (and_from _ _ (ap (λ cs. every (stays cs) 0 cs) meant_flow ∙ every_from (stays (flow_of t)) (flow_of t) 0 yes_all.jumps)
      (ap (λ cs. every (exists (rets cs)) 0 cs) meant_flow ∙ every_from (exists (rets (flow_of t))) (flow_of t) 0 yes_all.callees))))))

pub lawful : (t : List ℕ) → accepted t ≡ true → is_lawful (meaning_of t) ≡ true
lawful t a = lawful_by t (answered_yes t a)

-- the program of a text that is accepted has as many statements as the text, and they are the text's
pub as_long : (t : List ℕ) → accepted t ≡ true → length (collect (renumbered t) (written t)) ≡ length (written t)
as_long t a = meant_length t (answered_yes t a)

pub as_ended : (t : List ℕ) (n : ℕ) → accepted t ≡ true → None ≡ slice_get (written t) n → slice_get (collect (renumbered t) (written t)) n ≡ None
as_ended t n a e = meant_nth t (answered_yes t a) n ∙ ap (λ o. then o (renumbered t)) (sym e)

pub as_written : (t : List ℕ) (n : ℕ) (s : Statement Name) → accepted t ≡ true → Some s ≡ slice_get (written t) n → slice_get (collect (renumbered t) (written t)) n ≡ renumbered t s
as_written t n s a e = meant_nth t (answered_yes t a) n ∙ ap (λ o. then o (renumbered t)) (sym e)

pub few_points : (t : List ℕ) → miscounted t ≡ None → leb (length (flow_of t)) 1000 ≡ true
unfolding miscounted
few_points t h = ap (λ n. leb n 1000) (length-map (written t) controlled) ∙ (and_parts _ _ (passed _ 0 h)).1
