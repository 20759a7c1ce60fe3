-- What is told of a turn of the machine, and that it is so.
use Rattle.std.proofs.Common.{◌≡◌, ℕ, ◌+◌, ◌^◌, ◌<◌, List, [], ◌∷◌, ◌++◌, map, reverse, length, get_or, take, drop, Some, codes, decimal, Option, sym, refl, ap, ◌∙◌, subst, arith}
use Rattle.std.proofs.lemmas.Fmt.{decimal_injective}
use Rattle.std.proofs.lemmas.List.{append_cancel_left, append_cancel_right, take_at}
use Rattle.listing.specs.Refusals.{refused_text}
use Rattle.listing.specs.Meaning.{Meaning}
use Rattle.moves.specs.Names.{kind_text}
use Rattle.moves.specs.Words.{decode}
use Rattle.moves.specs.declared.moves.Kind.{Kind}
use Rattle.moves.specs.declared.moves.Kind.TheVariants.{Start, Step, Past, Call, Return}
use Rattle.moves.specs.declared.moves.Move.{Move}
use Rattle.paths.specs.Does.{Handed, Answer, gives, refuses, Closed, Turn, no, nothing_left, writes, memory_by, trail_turn, trail_answer, Trails}
use Rattle.paths.specs.Law.{Told, Reached, Shown, Refusal, out_of_range, not_reached, no_fit}
use Rattle.paths.specs.Tabled.{Tabled}
use Rattle.findings.specs.Report.{Led}
use Rattle.text.specs.Reading.{kept, collect}
use Rattle.explanation.specs.Explained as explained
use Rattle.explanation.specs.Explained.{room, memory_of, refused_line, turn_text, Tells, Explains}
use Rattle.explanation.specs.Lines.{path_text, moves_of}

-- what f gives of each element, where it gives something of each
collected : {A B : Type 0} (f : A → Option B) (xs : List A) (ys : List B) → map f xs ≡ map Some ys → collect f xs ≡ ys
collected f [] [] e = refl
collected f [] (y ∷ ys) e = let z : ◌≡◌ {A = ℕ} 0 1 = cc in absurd (omega arith)
collected f (x ∷ xs) [] e = let z : ◌≡◌ {A = ℕ} 0 1 = cc in absurd (omega arith)
collected {B = B} f (x ∷ xs) (y ∷ ys) e =
    let head : f x ≡ Some y = cc in
    let tail : map f xs ≡ map Some ys = cc in
    ap (λ (o : Option B). kept o (collect f xs)) head ∙ ap (λ (zs : List B). y ∷ zs) (collected f xs ys tail)

-- a line of a move is no refusal
no_refusal : (k : Kind) (a b c d : List ℕ) → get_or ((((kind_text k ++ a) ++ b) ++ c) ++ d) 2 0 ≡ 102 → ⊥
no_refusal Start a b c d e = omega (arith, e)
no_refusal Step a b c d e = omega (arith, e)
no_refusal Past a b c d e = omega (arith, e)
no_refusal Call a b c d e = omega (arith, e)
no_refusal Return a b c d e = omega (arith, e)

no_path : (m : Meaning) (facts : ℕ → List ℕ) (ws : List Move) (q : ℕ) → path_text m facts ws ≡ refused_line q → ⊥
no_path m facts [] q e = let z : ◌≡◌ {A = ℕ} 0 114 = ap (λ (xs : List ℕ). get_or xs 0 0) e in omega (arith, z)
no_path m facts (w ∷ ws) q e = no_refusal w.kind _ _ _ _ (ap (λ (xs : List ℕ). get_or xs 2 0) e)

same_number : (p q : ℕ) → p < 2 ^ 64 → q < 2 ^ 64 → refused_line p ≡ refused_line q → p ≡ q
same_number p q l k e =
    let line = append_cancel_right (refused_text p 0) (refused_text q 0) (10 ∷ []) e in
    let rest = append_cancel_left (codes "refused ") (decimal p ++ (codes " at " ++ decimal 0)) (decimal q ++ (codes " at " ++ decimal 0)) line in
    decimal_injective p q l k (append_cancel_right (decimal p) (decimal q) (codes " at " ++ decimal 0) rest)

-- of the refusals only 15 says that a pair is not reached
explains : (h : Handed) (starts : List (ℕ × ℕ)) (m : Meaning) (facts : ℕ → List ℕ) (n d : ℕ) (text : List ℕ)
    → Tells h starts m facts n d text → Explains h starts m facts n d text
explains h starts m facts n d text tells = record { tells = tells; unreached = go tells }
  where
    go : Tells h starts m facts n d text → text ≡ refused_line 15 → Reached h starts n d → ⊥
    go (explained.of_path moves path is) e r = no_path m facts (reverse moves) 15 (sym is ∙ e)
    go (explained.out_of_range f is) e r = let z : ◌≡◌ {A = ℕ} 13 15 = same_number 13 15 (omega arith) (omega arith) (sym is ∙ e) in omega (arith, z)
    go (explained.not_reached f is) e r = f r
    go (explained.no_fit f is) e r = let z : ◌≡◌ {A = ℕ} 17 15 = same_number 17 15 (omega arith) (omega arith) (sym is ∙ e) in omega (arith, z)

module _ (m : Meaning) (facts : ℕ → List ℕ) where
  given_by : (turn : Turn) (memory memory' : List ℕ) (k : ℕ) → gives k ≡ trail_answer turn → memory' ≡ memory_by turn 0 memory
      → path_text m facts (moves_of (take k memory')) ≡ turn_text m facts turn
  given_by (no q) memory memory' k a h = let z : ◌≡◌ {A = ℕ} 0 1 = cc in absurd (omega arith)
  given_by nothing_left memory memory' k a h =
      let none : k ≡ 0 = cc in
      ap (λ (j : ℕ). path_text m facts (moves_of (take j memory'))) none
  given_by (writes new) memory memory' k a h =
      let count : k ≡ length new = cc in
      ap (λ (ws : List ℕ). path_text m facts (moves_of ws))
      (ap (λ (ws : List ℕ). take k ws) h ∙ take_at new (drop (0 + length new) memory) k (sym count))

  refused_by : (turn : Turn) (q : ℕ) → refuses q ≡ trail_answer turn → refused_line q ≡ turn_text m facts turn
  refused_by (no p) q a = let same : q ≡ p = cc in ap refused_line same
  refused_by nothing_left q a = let z : ◌≡◌ {A = ℕ} 0 1 = cc in absurd (omega arith)
  refused_by (writes new) q a = let z : ◌≡◌ {A = ℕ} 0 1 = cc in absurd (omega arith)

  module _ (t : Tabled) (n d : ℕ) (size : ℕ) where
    -- the words that are written are those of the text
    pub told_given : (k : ℕ) (memory memory' : List ℕ) → memory ≡ memory_of room → size ≡ room → Trails t n d memory size (gives k) memory'
        → path_text m facts (moves_of (take k memory')) ≡ turn_text m facts (trail_turn t n d (memory_of room) room)
    told_given k memory memory' first many does =
        given_by (trail_turn t n d memory size) memory memory' k does.answers does.holds
        ∙ ap (λ (ws : List ℕ). turn_text m facts (trail_turn t n d ws size)) first
        ∙ ap (λ (j : ℕ). turn_text m facts (trail_turn t n d (memory_of room) j)) many

    pub told_refused : (q : ℕ) (memory memory' : List ℕ) → memory ≡ memory_of room → size ≡ room → Trails t n d memory size (refuses q) memory'
        → refused_line q ≡ turn_text m facts (trail_turn t n d (memory_of room) room)
    told_refused q memory memory' first many does =
        refused_by (trail_turn t n d memory size) q does.answers
        ∙ ap (λ (ws : List ℕ). turn_text m facts (trail_turn t n d ws size)) first
        ∙ ap (λ (j : ℕ). turn_text m facts (trail_turn t n d (memory_of room) j)) many

    module _ (h : Handed) (starts : List (ℕ × ℕ)) (led : Led h starts (Closed t)) where
      told : (answer : Answer) (memory memory' : List ℕ) → memory ≡ memory_of room → size ≡ room → Trails t n d memory size answer memory'
          → Told h starts n d answer (memory_of room) room memory'
      told answer memory memory' first many does =
          subst (λ (j : ℕ). Told h starts n d answer (memory_of room) j memory') many
          (subst (λ (ws : List ℕ). Told h starts n d answer ws size memory') first
          (led.usage.trailed starts t n d size answer memory memory' led.stands does))

      pub path_told : (k : ℕ) (memory memory' text : List ℕ) → memory ≡ memory_of room → size ≡ room → Trails t n d memory size (gives k) memory'
          → text ≡ path_text m facts (moves_of (take k memory')) → Explains h starts m facts n d text
      path_told k memory memory' text first many does is =
          let s : Shown h starts n d k (memory_of room) room memory' = told (gives k) memory memory' first many does in
          explains h starts m facts n d text (explained.of_path s.moves s.path
          (is ∙ ap (path_text m facts) (collected decode (take k memory') (reverse s.moves) s.read_back)))

      by_reason : (q : ℕ) (text : List ℕ) → text ≡ refused_line q → Refusal h starts n d (memory_of room) room q → Tells h starts m facts n d text
      by_reason q text is (out_of_range f) = explained.out_of_range f is
      by_reason q text is (not_reached f) = explained.not_reached f is
      by_reason q text is (no_fit f) = explained.no_fit f is

      pub no_told : (q : ℕ) (memory memory' text : List ℕ) → memory ≡ memory_of room → size ≡ room → Trails t n d memory size (refuses q) memory'
          → text ≡ refused_line q → Explains h starts m facts n d text
      no_told q memory memory' text first many does is =
          explains h starts m facts n d text (by_reason q text is (told (refuses q) memory memory' first many does).0)
