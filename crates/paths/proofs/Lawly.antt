-- The law over rows of calls, put together.
use Rattle.std.proofs.Common.{◌≡◌, ℕ, ◌+◌, ◌<◌, Bool, true, false, cond, not, T, ltb, leb, List, ◌∷◌, ◌++◌, map, reverse, length, take, drop, Some, None, Option, sym, refl, ap, ◌∙◌, subst, inl, inr, zero-add, arith, ltb→lt, lt→ltb, leb→le}
use mathlib.Core.List.{Memᴰ}
use lib.Dec.{nleb→lt}
use Rattle.std.proofs.lemmas.List.{length-map, length-reverse, take_at}
use Rattle.flow.specs.Relation.{Rule}
use Rattle.moves.specs.declared.moves.Move.{Move}
use Rattle.moves.specs.Words.{decode, encoded}
use Rattle.paths.specs.Supergraph.{Supergraph}
use Rattle.paths.specs.Paths.{ReachedCell}
use Rattle.paths.specs.Table.{cell, number_of, Found}
use Rattle.paths.specs.Theorem.{Accepted}
use Rattle.paths.specs.Trail.{PathTo}
use Rattle.paths.specs.Machine.{both, opened}
use Rattle.paths.specs.Rows as rows
use Rattle.paths.specs.Rows.{After}
use Rattle.paths.specs.Tabled.{Tabled, is_found}
use Rattle.paths.specs.Words.{spelt, nested, trail_of, deep_of, least_found}
use Rattle.paths.specs.Page.{pairs_of}
use Rattle.paths.specs.Does.{Handed, Answer, gives, State, Closed, Begun, Turn, no, fitting, memory_by, trail_turn_by, trail_turn, trail_answer, Call, Foot, Trail, Newly, Row}
use Rattle.paths.specs.Exactly.{Exactly}
use Rattle.paths.specs.Law.{accepted, OnePage, Reported, out_of_range, not_reached, no_fit, Told, table_in, Law, Sound}
use Rattle.paths.proofs.Grow.{both_left, both_right, both_two, Base}
use Rattle.paths.proofs.Cover.{after, base_after, starts_after, rest_after}
use Rattle.paths.proofs.Mirror.{Mirror, at_newly, same_found}
use Rattle.paths.proofs.Stands.{Stands, mode_in, stands, prefix, latest}
use Rattle.paths.proofs.Pages.{pairs_same, pages, Paged, foot_page}
use Rattle.paths.proofs.Told.{trail_same, deep_same, Least, least_is}
use Rattle.paths.proofs.Bits.{Ranged, read_path, path_ranged}

module _ (H : Handed) (sound : Sound H) (first : Tabled) (at_first : Mirror H.points H.facts first opened) where
  abbrev P : Supergraph
  P = H.graph

  abbrev Q : Rule
  Q = H.rule

  abbrev N : ℕ
  N = H.points

  abbrev F : ℕ
  F = H.facts

  holds_after : {calls : List Call} {s : State} (w : Stands H calls s) → After P Q N F (mode_in s) w.state (accepted calls)
  holds_after {calls} {s} w = after P Q N H.procs F sound.lawful sound.bounded (mode_in s) w.state (accepted calls) w.row

  reported : (calls : List Call) (k : ℕ) (page page' : List ℕ) (s : State) → Row H first (Foot page (gives k) page' ∷ calls) s → OnePage calls page
      → Reported H (accepted calls) (take k page')
  reported calls k page page' s row one =
      let (r, before, does) = latest row in
      let w : Stands H calls (Begun r) = stands H sound at_first before in
      let all = holds_after w in
      let p : Paged r page = pages before page one in
      let same : pairs_of r.table ≡ rows.pairs_below F N w.state = pairs_same N F r.table w.state w.mirror in
      record {
        pairs = pairs_of r.table;
        cells = r.table.settled;
        tells = foot_page r k page page' s does p;
        ascending = subst rows.Ascending (sym same) all.order;
        exact = λ n d.
            let both_ways = all.lines tt n d in
            ((λ i. both_ways.0 (subst (Memᴰ (n, d)) same i)), (λ g. subst (Memᴰ (n, d)) (sym same) (both_ways.1 g)));
        counted = subst (λ (k : ℕ). rows.Number (λ c. ReachedCell P Q (Accepted (accepted calls)) c.point c.origin c.fact) k) (sym w.mirror.settled) (all.number tt);
        bounded = (let b = all.bound in let e = w.mirror.settled in omega arith);
      }

  spelt_length : (ws : List Move) → length (spelt ws) ≡ length ws
  spelt_length ws = length-map (reverse ws) encoded ∙ length-reverse ws

  fit_told : (starts : List (ℕ × ℕ)) (n d room deep : ℕ) (ws : List Move) (memory : List ℕ) (b b' : Bool)
      → b ≡ leb (length (spelt ws)) (length memory) → b' ≡ leb deep room
      → PathTo P Q (Accepted starts) ws n d → nested ws 0 ≡ deep → Ranged N F ws
      → Told H starts n d (trail_answer (fitting (both b b') (spelt ws))) memory room (memory_by (fitting (both b b') (spelt ws)) 0 memory)
  fit_told starts n d room deep ws memory true true e e' p is r = record {
    moves = ws;
    path = p;
    count = sym (spelt_length ws);
    words = ap (λ (x : ℕ). spelt ws ++ drop x memory) (zero-add (length (spelt ws)));
    read_back =
        ap (map decode) (take_at (spelt ws) (drop (0 + length (spelt ws)) memory) (length (spelt ws)) refl)
        ∙ read_path N F ws sound.few_points sound.few_facts r;
    fits = leb→le (length (spelt ws)) (length memory) (subst T e tt);
    calls_fit = (let h = leb→le deep room (subst T e' tt) in omega arith);
  }
  fit_told starts n d room deep ws memory true false e e' p is r = (
    no_fit (record { moves = ws; path = p; too_long = inr (let h = nleb→lt deep room (subst (λ x. T (not x)) e' tt) in omega arith) }),
    refl,
  )
  fit_told starts n d room deep ws memory false b' e e' p is r = (
    no_fit (record {
      moves = ws;
      path = p;
      too_long = inl (let h = nleb→lt (length (spelt ws)) (length memory) (subst (λ x. T (not x)) e tt) in let l = spelt_length ws in omega arith);
    }),
    refl,
  )

  module _ (calls : List Call) (t : Tabled) (w : Stands H calls (Closed t)) (n d : ℕ) (hn : n < N) (hd : d < F) where
    found_in : (o : ℕ) → o < F → T (is_found (number_of t.facts (cell n o d)) t) → Found w.state.table n o d
    found_in o ho f =
        ltb→lt 0 (w.state.table (cell n o d)).rank
        (subst T (ap (λ (x : ℕ). is_found (number_of x (cell n o d)) t) w.mirror.facts
        ∙ same_found N F t w.state (cell n o d) w.mirror (hn, ho, hd)) f)

    found_of : (o : ℕ) → o < F → Found w.state.table n o d → T (is_found (number_of t.facts (cell n o d)) t)
    found_of o ho f =
        subst T (sym (ap (λ (x : ℕ). is_found (number_of x (cell n o d)) t) w.mirror.facts
        ∙ same_found N F t w.state (cell n o d) w.mirror (hn, ho, hd)))
        (lt→ltb 0 (w.state.table (cell n o d)).rank f)

    base : Base P Q (Accepted (accepted calls)) N F w.state
    base = base_after P Q N H.procs F sound.lawful sound.bounded rows.Closed w.state (accepted calls) w.row

    deep_is : (o : ℕ) → Found w.state.table n o d
        → nested (trail_of t (number_of F (cell n o d))) 0 ≡ deep_of t (number_of F (cell n o d))
    deep_is o f = deep_same P Q (Accepted (accepted calls)) N H.procs F sound.lawful t w.state w.mirror
        (λ n' o' d' f'. base.justified (cell n' o' d') f') (λ n' o' d' f'. base.ranged (cell n' o' d') f') n o d f

    ranged_of : (ws : List Move) → PathTo P Q (Accepted (accepted calls)) ws n d → Ranged N F ws
    ranged_of ws p =
        let ok = starts_after P Q N H.procs F sound.lawful sound.bounded rows.Closed w.state (accepted calls) w.row p.proc p.origin p.accepted in
        path_ranged P Q N H.procs F sound.lawful sound.bounded ok.0 ok.1 p.path

    path_of : (o : ℕ) → Found w.state.table n o d → PathTo P Q (Accepted (accepted calls)) (trail_of t (number_of F (cell n o d))) n d
    path_of o f =
        let all = holds_after w in
        subst (λ (ws : List Move). PathTo P Q (Accepted (accepted calls)) ws n d)
        (sym (trail_same P Q (Accepted (accepted calls)) N H.procs F sound.lawful t w.state w.mirror
        (λ n' o' d' f'. base.justified (cell n' o' d') f') (λ n' o' d' f'. base.ranged (cell n' o' d') f') n o d f))
        (all.trails n o d f)

    least_told : (o : Option ℕ) → Least o t.facts n d t → (memory : List ℕ) (room : ℕ)
        → Told H (accepted calls) n d (trail_answer (trail_turn_by o t (length memory) room)) memory room
        (memory_by (trail_turn_by o t (length memory) room) 0 memory)
    least_told None l memory room = (
      not_reached (λ g.
          let all = holds_after w in
          let (o, f) = ((all.exact tt).pairs n d).1 g in
          let ho : o < F = (all.range n o d f).1 in
          l o (let e = w.mirror.facts in omega arith) (found_of o ho f)),
      refl,
    )
    least_told (Some c) l memory room =
        let ho : l.0 < F = (let h = l.1 in let e = w.mirror.facts in omega arith) in
        let is : number_of F (cell n l.0 d) ≡ c = ap (λ (x : ℕ). number_of x (cell n l.0 d)) (sym w.mirror.facts) ∙ sym l.2 in
        let f = found_in l.0 ho l.3 in
        let p : PathTo P Q (Accepted (accepted calls)) (trail_of t c) n d =
        subst (λ (x : ℕ). PathTo P Q (Accepted (accepted calls)) (trail_of t x) n d) is (path_of l.0 f) in
        fit_told (accepted calls) n d room (deep_of t c) (trail_of t c) memory
        (leb (length (spelt (trail_of t c))) (length memory)) (leb (deep_of t c) room) refl refl p
        (subst (λ (x : ℕ). nested (trail_of t x) 0 ≡ deep_of t x) is (deep_is l.0 f)) (ranged_of (trail_of t c) p)

  told_by : (calls : List Call) (t : Tabled) (w : Stands H calls (Closed t)) (n d : ℕ) (memory : List ℕ) (room : ℕ) (b : Bool)
      → (T b → (n < N) × (d < F)) → ((n < N) → (d < F) → T b)
      → (turn : Turn) → cond b (trail_turn_by (least_found t.facts n d t) t (length memory) room) (no 13) ≡ turn
      → Told H (accepted calls) n d (trail_answer turn) memory room (memory_by turn 0 memory)
  told_by calls t w n d memory room true h h' turn e =
      subst (λ (x : Turn). Told H (accepted calls) n d (trail_answer x) memory room (memory_by x 0 memory)) e
      (least_told calls t w n d (h tt).0 (h tt).1 (least_found t.facts n d t) (least_is t.facts n d t) memory room)
  told_by calls t w n d memory room false h h' turn e =
      subst (λ (x : Turn). Told H (accepted calls) n d (trail_answer x) memory room (memory_by x 0 memory)) e
      (out_of_range h', refl)

  told : (calls : List Call) (n d room : ℕ) (answer : Answer) (memory memory' : List ℕ) (s : State)
      → Row H first (Trail n d memory room answer memory' ∷ calls) s → Told H (accepted calls) n d answer memory room memory'
  told calls n d room answer memory memory' s row =
      let (t, before, does) = latest row in
      let w : Stands H calls (Closed t) = stands H sound at_first before in
      let ep = w.mirror.points in
      let ef = w.mirror.facts in
      let turn = trail_turn t n d memory room in
      subst (λ (x : Answer). Told H (accepted calls) n d x memory room memory') (sym does.answers)
      (subst (λ (x : List ℕ). Told H (accepted calls) n d (trail_answer turn) memory room x) (sym does.holds)
      (told_by calls t w n d memory room (both (ltb n t.points) (ltb d t.facts))
      (λ b. (
        (let z = ltb→lt n t.points (both_left (ltb n t.points) (ltb d t.facts) b) in omega arith),
        (let z = ltb→lt d t.facts (both_right (ltb n t.points) (ltb d t.facts) b) in omega arith),
      ))
      (λ hn hd. both_two (ltb n t.points) (ltb d t.facts) (lt→ltb n t.points (omega arith)) (lt→ltb d t.facts (omega arith)))
      turn refl))

  exactly : (calls : List Call) (t : Tabled) → Row H first calls (Closed t) → Exactly H (accepted calls) t
  exactly calls t row =
      let w : Stands H calls (Closed t) = stands H sound at_first row in
      let all = holds_after w in
      let settled = w.mirror.settled in
      let empty : length w.state.waiting ≡ 0 =
      ap length (rest_after P Q N H.procs F sound.lawful sound.bounded rows.Closed w.state (accepted calls) w.row tt) in
      record {
        cells = λ n a d hn ha hd. (
          (λ f. ((all.exact tt).cells n a d).0 (found_in calls t w n d hn hd a ha f)),
          (λ g. found_of calls t w n d hn hd a ha (((all.exact tt).cells n a d).1 g)),
        );
        within = λ n a d g. all.range n a d (((all.exact tt).cells n a d).1 g);
        number = subst (λ (k : ℕ). rows.Number (λ c. ReachedCell P Q (Accepted (accepted calls)) c.point c.origin c.fact) k) (sym settled) (all.number tt);
        all_settled = (let a = all.tally in let f = w.mirror.found in omega arith);
        bound = (let b = all.bound in omega arith);
      }

  law : (calls : List Call) (s : State) → Row H first calls s → Law H calls s
  law calls s row =
      let w = stands H sound at_first row in
      let all = holds_after w in
      record {
        tally =
            (let a = all.tally in
            let f = w.mirror.found in
            let g = w.mirror.settled in
            let l : length (table_in s).waiting ≡ length w.state.waiting =
            ap length w.mirror.waiting ∙ length-map w.state.waiting (number_of F) in
            omega arith);
        reports = λ later earlier k page page' e one.
            let (s', row') = prefix later (Foot page (gives k) page') earlier calls s e row in reported earlier k page page' s' row' one;
        trails = λ later earlier n d room answer memory memory' e.
            let (s', row') = prefix later (Trail n d memory room answer memory') earlier calls s e row in
            told earlier n d room answer memory memory' s' row';
      }

pub the_law : (H : Handed) → Sound H → (first : Tabled) → Newly H first → (calls : List Call) (s : State) → Row H first calls s → Law H calls s
the_law H sound first new =
    law H sound first
    (subst (λ (t : Tabled). Mirror H.points H.facts t opened) (sym new.cleared) (at_newly H.points H.facts new.memory new.room))

pub exact_rows : (H : Handed) → Sound H → (first : Tabled) → Newly H first → (calls : List Call) (t : Tabled) → Row H first calls (Closed t)
    → Exactly H (accepted calls) t
exact_rows H sound first new =
    exactly H sound first
    (subst (λ (t : Tabled). Mirror H.points H.facts t opened) (sym new.cleared) (at_newly H.points H.facts new.memory new.room))
