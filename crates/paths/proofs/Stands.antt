-- A row of calls is a row of the table of cells.
use Rattle.std.proofs.Common.{◌≡◌, ℕ, ◌<◌, Bool, true, false, cond, T, eqb, ltb, List, [], ◌∷◌, ◌++◌, map, Some, None, Option, sym, refl, ◌∙◌, subst, arith, eqb→eq, ltb→lt}
use Rattle.paths.specs.Table.{TableCell, number_of}
use Rattle.paths.specs.Machine as m
use Rattle.paths.specs.Machine.{both, opened}
use Rattle.paths.specs.declared.worklist.End.{End}
use Rattle.paths.specs.Rows as rows
use Rattle.paths.specs.Rows.{Mode}
use Rattle.paths.specs.Tabled.{Tabled, sow, work}
use Rattle.paths.specs.Does.{Handed, Answer, gives, Report, State, Open, Closed, Begun, counts_fit, sow_no, work_no, answer_by, left_by, close_after, Turn, no, nothing_left, writes, line_turn, line_after, foot_turn, foot_after, Foots, Call, Sow, Work, Close, Reopen, Begin, Abandon, Line, Foot, Trail, Trails, One, Row, not_yet_called, sown, worked, closed, reopened, begun_on, lined, footed, abandoned, trailed}
use Rattle.paths.specs.Law.{accepted, table_in, Sound}
use Rattle.paths.proofs.Grow.{both_left, both_right}
use Rattle.paths.proofs.Mirror.{Mirror, sow_alike, work_alike}

abbrev pub mode_in : State → Mode
mode_in (Open t) = rows.Open
mode_in (Closed t) = rows.Closed
mode_in (Begun r) = rows.Closed

pub record Stands (H : Handed) (calls : List Call) (s : State) : Type 0 where
  pub state : m.State
  pub mirror : Mirror H.points H.facts (table_in s) state
  pub row : rows.Row H.graph H.rule H.points H.procs H.facts (mode_in s) state (accepted calls)

some_none : {A : Type 0} (q : ℕ) → Some q ≡ None → A
some_none q e = let z : ◌≡◌ {A = ℕ} 0 1 = cc in absurd (omega arith)

no_question : (b b' : Bool) → cond {A = Option ℕ} b (cond {A = Option ℕ} b' None (Some 13)) (Some 12) ≡ None → T b × T b'
no_question true true e = (tt, tt)
no_question true false e = some_none 13 e
no_question false b' e = some_none 12 e

no_question_work : (b : Bool) → cond {A = Option ℕ} b None (Some 12) ≡ None → T b
no_question_work true e = tt
no_question_work false e = some_none 12 e

unmapped : (f : TableCell → ℕ) (cs : List TableCell) → map f cs ≡ [] → cs ≡ []
unmapped f [] e = refl
unmapped f (c ∷ cs) e = let z : ◌≡◌ {A = ℕ} 0 1 = cc in absurd (omega arith)

module _ (H : Handed) (sound : Sound H) where
  abbrev N : ℕ
  N = H.points

  abbrev F : ℕ
  F = H.facts

  same_handed : (h : Handed) (t : Tabled) (st : m.State) → One H h → Mirror N F t st → T (counts_fit h t) → h ≡ H
  same_handed h t st one a b =
      one (eqb→eq h.points t.points (both_left (eqb h.points t.points) (eqb h.facts t.facts) b) ∙ a.points)
      (eqb→eq h.facts t.facts (both_right (eqb h.points t.points) (eqb h.facts t.facts) b) ∙ a.facts)

  sow_stands : (calls : List Call) (h : Handed) (p d k : ℕ) (t : Tabled) (o : Option ℕ) → sow_no h p d t ≡ o → One H h → Stands H calls (Open t)
      → Stands H (Sow h p d (answer_by o k) ∷ calls) (Open (left_by o t (sow h.graph h.rule h.points h.facts p d t)))
  sow_stands calls h p d k t (Some q) e one s = record { state = s.state; mirror = s.mirror; row = s.row }
  sow_stands calls h p d k t None e one s =
      let q = no_question (counts_fit h t) (both (ltb p h.procs) (ltb d h.facts)) e in
      let same = same_handed h t s.state one s.mirror q.0 in
      let lp : p < H.procs = subst (λ (x : Handed). p < x.procs) same
      (ltb→lt p h.procs (both_left (ltb p h.procs) (ltb d h.facts) q.1)) in
      let ld : d < H.facts = subst (λ (x : Handed). d < x.facts) same
      (ltb→lt d h.facts (both_right (ltb p h.procs) (ltb d h.facts) q.1)) in
      subst (λ (x : Handed). Stands H (Sow h p d (gives k) ∷ calls) (Open (sow x.graph x.rule x.points x.facts p d t))) (sym same)
      (record {
        state = m.sow H.graph H.rule N F p d s.state;
        mirror = sow_alike N F H.graph H.rule H.procs sound.lawful p d lp ld t s.state s.mirror;
        row = rows.sown p d s.row lp ld;
      })

  work_stands : (calls : List Call) (h : Handed) (k : ℕ) (end : End) (answer : Answer) (t : Tabled) (o : Option ℕ) → work_no h t ≡ o → One H h
      → Stands H calls (Open t)
      → Stands H (Work h k end answer ∷ calls) (Open (left_by o t (work h.graph h.rule h.points h.facts k end t)))
  work_stands calls h k end answer t (Some q) e one s = record { state = s.state; mirror = s.mirror; row = s.row }
  work_stands calls h k end answer t None e one s =
      let same = same_handed h t s.state one s.mirror (no_question_work (counts_fit h t) e) in
      subst (λ (x : Handed). Stands H (Work h k end answer ∷ calls) (Open (work x.graph x.rule x.points x.facts k end t))) (sym same)
      (record {
        state = m.work H.graph H.rule N F k end s.state;
        mirror = work_alike N F H.graph H.rule H.procs sound.lawful k end t s.state s.mirror;
        row = rows.worked k end s.row;
      })

  close_stands : (calls : List Call) (answer : Answer) (t : Tabled) (ws : List ℕ) → t.waiting ≡ ws → Stands H calls (Open t)
      → Stands H (Close answer ∷ calls) (close_after ws t)
  close_stands calls answer t [] e s = record {
    state = s.state;
    mirror = s.mirror;
    row = rows.closed s.row (unmapped (number_of F) s.state.waiting (sym s.mirror.waiting ∙ e));
  }
  close_stands calls answer t (c ∷ cs) e s = record { state = s.state; mirror = s.mirror; row = s.row }

  line_stands : (calls : List Call) (page page' : List ℕ) (answer : Answer) (r : Report) (turn : Turn) → Stands H calls (Begun r)
      → Stands H (Line page answer page' ∷ calls) (Begun (line_after turn r))
  line_stands calls page page' answer r (no q) s = record { state = s.state; mirror = s.mirror; row = s.row }
  line_stands calls page page' answer r nothing_left s = record { state = s.state; mirror = s.mirror; row = s.row }
  line_stands calls page page' answer r (writes new) s = record { state = s.state; mirror = s.mirror; row = s.row }

  foot_stands : (calls : List Call) (page page' : List ℕ) (answer : Answer) (r : Report) (turn : Turn) → Stands H calls (Begun r)
      → Stands H (Foot page answer page' ∷ calls) (foot_after turn r)
  foot_stands calls page page' answer r (no q) s = record { state = s.state; mirror = s.mirror; row = s.row }
  foot_stands calls page page' answer r nothing_left s = record { state = s.state; mirror = s.mirror; row = s.row }
  foot_stands calls page page' answer r (writes new) s = record { state = s.state; mirror = s.mirror; row = s.row }

  pub stands : {first : Tabled} → Mirror N F first opened → {calls : List Call} {s : State} → Row H first calls s → Stands H calls s
  stands z not_yet_called = record { state = opened; mirror = z; row = rows.newly_opened }
  stands z (sown {calls} {t} {t'} {h} {p} {d} {answer} row one does) =
      subst (λ (x : Tabled). Stands H (Sow h p d answer ∷ calls) (Open x)) (sym does.leaves)
      (subst (λ (x : Answer). Stands H (Sow h p d x ∷ calls)
      (Open (left_by (sow_no h p d t) t (sow h.graph h.rule h.points h.facts p d t)))) (sym does.answers)
      (sow_stands calls h p d _ t (sow_no h p d t) refl one (stands z row)))
  stands z (worked {calls} {t} {t'} {h} {k} {end} {answer} row one does) =
      subst (λ (x : Tabled). Stands H (Work h k end answer ∷ calls) (Open x)) (sym does.leaves)
      (work_stands calls h k end answer t (work_no h t) refl one (stands z row))
  stands z (closed {calls} {t} {s} {answer} row does) =
      subst (λ (x : State). Stands H (Close answer ∷ calls) x) (sym does.leaves) (close_stands calls answer t t.waiting refl (stands z row))
  stands z (reopened row) = let s = stands z row in record { state = s.state; mirror = s.mirror; row = rows.reopened s.row }
  stands z (begun_on row) = let s = stands z row in record { state = s.state; mirror = s.mirror; row = s.row }
  stands z (lined {calls} {r} {r'} {page} {page'} {answer} row does) =
      subst (λ (x : Report). Stands H (Line page answer page' ∷ calls) (Begun x)) (sym does.leaves)
      (line_stands calls page page' answer r (line_turn r page) (stands z row))
  stands z (footed {calls} {r} {s} {page} {page'} {answer} row does) =
      subst (λ (x : State). Stands H (Foot page answer page' ∷ calls) x) (sym does.leaves)
      (foot_stands calls page page' answer r (foot_turn r page) (stands z row))
  stands z (abandoned row) = let s = stands z row in record { state = s.state; mirror = s.mirror; row = s.row }
  stands z (trailed row does) = let s = stands z row in record { state = s.state; mirror = s.mirror; row = s.row }

-- INVERSION

-- the calls before the latest are a row
abbrev Shorter : Handed → Tabled → List Call → Type 0
Shorter H first [] = Unit {0}
Shorter H first (c ∷ calls) = (s : State) × Row H first calls s

shorter : {H : Handed} {first : Tabled} {calls : List Call} {s : State} → Row H first calls s → Shorter H first calls
shorter not_yet_called = tt
shorter (sown row one does) = (Open _, row)
shorter (worked row one does) = (Open _, row)
shorter (closed row does) = (Open _, row)
shorter (reopened row) = (Closed _, row)
shorter (begun_on row) = (Closed _, row)
shorter (lined row does) = (Begun _, row)
shorter (footed row does) = (Begun _, row)
shorter (abandoned row) = (Begun _, row)
shorter (trailed row does) = (Closed _, row)

pub prefix : {H : Handed} {first : Tabled} (later : List Call) (c : Call) (before calls : List Call) (s : State) → calls ≡ later ++ (c ∷ before) → Row H first calls s
    → (s' : State) × Row H first (c ∷ before) s'
prefix {H} {first} [] c before calls s e row = (s, subst (λ (cs : List Call). Row H first cs s) e row)
prefix {H} {first} (x ∷ later) c before calls s e row =
    let r : (s' : State) × Row H first (later ++ (c ∷ before)) s' = shorter (subst (λ (cs : List Call). Row H first cs s) e row) in
    prefix later c before (later ++ (c ∷ before)) r.0 refl r.1

-- what the latest call was put to
abbrev pub Latest : Handed → Tabled → List Call → State → Type 0
Latest H first [] s = Unit {0}
Latest H first (Sow h p d answer ∷ calls) s = Unit {0}
Latest H first (Work h k end answer ∷ calls) s = Unit {0}
Latest H first (Close answer ∷ calls) s = Unit {0}
Latest H first (Reopen ∷ calls) s = Unit {0}
Latest H first (Begin ∷ calls) s = Unit {0}
Latest H first (Abandon ∷ calls) s = Unit {0}
Latest H first (Line page answer page' ∷ calls) s = Unit {0}
Latest H first (Foot page answer page' ∷ calls) s = (r : Report) × Row H first calls (Begun r) × Foots r page answer page' s
Latest H first (Trail n d memory room answer memory' ∷ calls) s = (t : Tabled) × Row H first calls (Closed t) × Trails t n d memory room answer memory'

pub latest : {H : Handed} {first : Tabled} {calls : List Call} {s : State} → Row H first calls s → Latest H first calls s
latest not_yet_called = tt
latest (sown row one does) = tt
latest (worked row one does) = tt
latest (closed row does) = tt
latest (reopened row) = tt
latest (begun_on row) = tt
latest (lined row does) = tt
latest (footed row does) = (_, row, does)
latest (abandoned row) = tt
latest (trailed row does) = (_, row, does)
