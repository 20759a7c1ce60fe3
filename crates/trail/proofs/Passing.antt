-- The two passes over a trail: the first counts its moves, the second writes their words, the last move first.
use Rattle.std.proofs.Common.{◌≡◌, ℕ, suc, ◌+◌, ◌*◌, ◌<◌, ◌≤◌, Bool, true, false, List, [], ◌∷◌, ◌++◌, map, reverse, length, drop, set, Some, None, Option, sym, refl, ap, ◌∙◌, append_assoc, inl, inr, arith}
use Rattle.std.proofs.lemmas.Bool.{le-leb, lt-leb, lt-ltb, cases_lt}
use Rattle.std.proofs.lemmas.List.{length-reverse, length-map, map-append, reverse-append, drop-set, drop_all, append-nil}
use Rattle.std.specs.Bool.{then_some}
use Rattle.moves.specs.declared.moves.Kind.{Kind}
use Rattle.moves.specs.declared.moves.Kind.TheVariants as kind
use Rattle.moves.specs.declared.moves.Move.{Move}
use Rattle.moves.specs.Words.{arrives, encoded, fits}
use Rattle.table.proofs.Numbers.{some_facts, point_below, rest_below}
use Rattle.std.proofs.Math.Dec.{leb, ltb}
use Rattle.std.specs.Prelude.{◌&&◌}
use Rattle.paths.specs.Machine.{both}
use Rattle.paths.specs.Tabled.{Tabled, record_at, cell_at}
use Rattle.paths.specs.Words.{kind_of, spelt, trail_of, arrive, deep_of}
use Rattle.trail.specs.Walk.{Place, place, turn_at, left, peak, Found, words_of, measured}
use Rattle.trail.proofs.Led.{Led}
use Rattle.trail.proofs.Steps as steps
use Rattle.trail.proofs.Steps.{Stands, most}

spelt_length : (ms : List Move) → length (spelt ms) ≡ length ms
spelt_length ms = length-map (reverse ms) encoded ∙ length-reverse ms

spelt_more : (m : Move) (ms : List Move) → spelt (m ∷ ms) ≡ spelt ms ++ (encoded m ∷ [])
spelt_more m ms = ap (map encoded) (reverse-append (m ∷ []) ms) ∙ map-append encoded (reverse ms) (m ∷ [])

none_in : (ms : List Move) → length ms ≡ 0 → ms ≡ []
none_in [] e = refl
none_in (m ∷ ms) e = absurd (omega arith)

-- what is needed of a room above it is above it too
more : (deep peak R : ℕ) → (deep ≤ R → peak ≤ R) → R < peak → R < deep
more deep peak R h l = elim (cases_lt R deep) [ inl m ↦ m | inr m ↦ (let n = h m in absurd (omega arith)) ]

no_second : (b : Bool) (n : ℕ) → then_some (both b false) n ≡ None
no_second true n = refl
no_second false n = refl

-- n moves of the trail of the cell c are counted, and the walk is at p
pub record Counted (t : Tabled) (R c n : ℕ) (p : Option Place) : Type 0 where
  pub stands : Stands t p
  pub count : length (left t p) + n ≡ length (words_of t c)
  pub needs : deep_of t c ≤ R → most t p ≤ R
  pub fits : most t p ≤ R → deep_of t c ≤ R

-- the words from the place n on are written, and the walk is at p
pub record Written (t : Tabled) (R c n : ℕ) (p : Option Place) (words : List ℕ) : Type 0 where
  pub stands : Stands t p
  pub count : length (left t p) ≡ n
  pub room : most t p ≤ R
  pub words_are : spelt (left t p) ++ drop n words ≡ words_of t c

module _ (t : Tabled) (led : Led t) (R c : ℕ) where
  pub counting : Found t c → Counted t R c 0 (Some (place c []))
  counting f = record {
    stands = (f, tt);
    count = (let e = spelt_length (trail_of t c) in omega arith);
    needs = λ h. h;
    fits = λ h. h;
  }

  module _ (n x : ℕ) (us : List ℕ) (on : Counted t R c n (Some (place x us))) where
    one_less : suc (length (left t (turn_at t (place x us)).before)) + n ≡ length (words_of t c)
    one_less = ap (λ (ws : List Move). length ws + n) (sym (steps.told t led x us on.stands.0)) ∙ on.count

    pub count_on : length us ≤ R → Counted t R c (n + 1) (turn_at t (place x us)).before
    count_on l = record {
      stands = steps.stands t led x us on.stands.0 on.stands.1;
      count = (let e = one_less in omega arith);
      needs = λ h. steps.needs t led R x us on.stands.0 (on.needs h);
      fits = λ h. on.fits (steps.fits t led R x us on.stands.0 l h);
    }

    some_left : n < length (words_of t c)
    some_left = let e = one_less in omega arith

    pub too_long : None ≡ measured t c n R
    too_long =
        sym (ap (λ b. then_some (both b (leb (deep_of t c) R)) (length (words_of t c))) (lt-leb (length (words_of t c)) n some_left))

    pub too_deep : (room : ℕ) → kind_of (record_at t x).kind ≡ kind.Return → R ≤ length us → None ≡ measured t c room R
    too_deep room k l =
        let above = steps.stuck t led R x us on.stands.0 k l in
        let deep : R < deep_of t c = more (deep_of t c) (peak t us x) R on.needs above in
        let n = length (words_of t c) in
        let b = leb n room in
        sym (ap (λ b'. then_some (both b b') n) (lt-leb (deep_of t c) R deep) ∙ no_second b n)

    pub counted : (room : ℕ) → (turn_at t (place x us)).before ≡ None → length us ≤ R → n < room → Some (n + 1) ≡ measured t c room R
    counted room e l h =
        let all : suc 0 + n ≡ length (words_of t c) = ap (λ (o : Option Place). suc (length (left t o)) + n) (sym e) ∙ one_less in
        let over : most t (turn_at t (place x us)).before ≡ 0 = ap (most t) e in
        let deep : deep_of t c ≤ R = on.fits (steps.fits t led R x us on.stands.0 l (omega arith)) in
        let m = length (words_of t c) in
        let same : n + 1 ≡ m = omega arith in
        ap (λ (k : ℕ). Some k) same
        ∙ sym (ap (λ b. then_some (both b (leb (deep_of t c) R)) m) (le-leb m room (omega arith))
        ∙ ap (λ b. then_some b m) (le-leb (deep_of t c) R deep))

  pub writing : Found t c → deep_of t c ≤ R → (words : List ℕ) → length words ≡ length (words_of t c)
      → Written t R c (length words) (Some (place c [])) words
  writing f h words l = record {
    stands = (f, tt);
    count = sym (spelt_length (trail_of t c)) ∙ sym l;
    room = h;
    words_are = ap (λ (ws : List ℕ). words_of t c ++ ws) (drop_all (length words) words (omega arith)) ∙ append-nil (words_of t c);
  }

  pub write_on : (n x : ℕ) (us words : List ℕ) → Written t R c (n + 1) (Some (place x us)) words → n < length words
      → (word : ℕ) → word ≡ encoded (arrive t.facts (turn_at t (place x us)).kind x)
      → Written t R c n (turn_at t (place x us)).before (set words n word)
  write_on n x us words on h word e =
      let m = arrive t.facts (turn_at t (place x us)).kind x in
      let ms = left t (turn_at t (place x us)).before in
      let told = steps.told t led x us on.stands.0 in
      record {
        stands = steps.stands t led x us on.stands.0 on.stands.1;
        count = (let k = ap (λ (ws : List Move). length ws) (sym told) ∙ on.count in omega arith);
        room = steps.needs t led R x us on.stands.0 on.room;
        words_are =
            ap (λ (ws : List ℕ). spelt ms ++ ws) (drop-set words n word h ∙ ap (λ (w : ℕ). w ∷ drop (n + 1) words) e)
            ∙ sym (append_assoc (spelt ms) (encoded m ∷ []) (drop (n + 1) words))
            ∙ ap (λ (ws : List ℕ). ws ++ drop (n + 1) words) (sym (ap spelt told ∙ spelt_more m ms))
            ∙ on.words_are;
      }

  pub written : (p : Option Place) (words : List ℕ) → Written t R c 0 p words → words ≡ words_of t c
  written p words on =
      ap (λ (ms : List Move). spelt ms ++ words) (sym (none_in (left t p) on.count)) ∙ on.words_are

encoded_by : (k k' : Kind) (n n' d d' : ℕ) → k ≡ k' → n ≡ n' → d ≡ d' → encoded (arrives k n d) ≡ encoded (arrives k' n' d')
encoded_by k k' n n' d d' e f g =
    ap (λ (x : Kind). encoded (arrives x n d)) e ∙ ap (λ (x : ℕ). encoded (arrives k' x d)) f ∙ ap (λ (x : ℕ). encoded (arrives k' n' x)) g

-- a move to the cell x has the word of x's point and fact
pub same_word : (F x : ℕ) (m : Move) (k : Kind) → m.kind ≡ k → m.point.0 ≡ (cell_at F x).point → m.fact.0 ≡ (cell_at F x).fact
    → encoded m ≡ encoded (arrive F k x)
same_word F x m k e f g = encoded_by m.kind k m.point.0 (cell_at F x).point m.fact.0 (cell_at F x).fact e f g

both_bits : (m : Move) → m.point.0 < 1024 → m.fact.0 < 64 → fits m ≡ true
both_bits m p q = ap (λ b. b && ltb m.fact.0 64) (lt-ltb m.point.0 1024 p) ∙ lt-ltb m.fact.0 64 q

-- and a cell of a table has a word
pub has_word : (N F x : ℕ) (m : Move) → N ≤ 1000 → F ≤ 64 → x < N * F * F → m.point.0 ≡ (cell_at F x).point → m.fact.0 ≡ (cell_at F x).fact
    → fits m ≡ true
has_word N F x m few few' h p q =
    let some = some_facts N F (omega arith) in
    let point = point_below N F x some h in
    let fact = rest_below x F some in
    both_bits m (omega arith) (omega arith)
