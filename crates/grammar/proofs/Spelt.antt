-- A line is read as a statement just where the statement is written so.
use Rattle.std.proofs.Common.{◌≡◌, ℕ, ◌+◌, ◌-◌, ◌<◌, ◌≤◌, Bool, true, false, cond, not, ◌&&◌, eqb, leb, List, [], ◌∷◌, ◌++◌, length, get_or, take, Some, None, codes, decimal, Option, sym, refl, ap, ◌∙◌, subst, ⊎_elim, arith}
use Rattle.std.specs.Option.{option_map}
use Rattle.std.specs.Char.{is_ascii_digit}
use Rattle.std.specs.Str.{all_ascii_digits, bytes_eq}
use Rattle.std.proofs.lemmas.Fmt.{digits_decimal}
use Rattle.std.proofs.lemmas.Slice.Eq.{bytes_eq-Decides}
use Rattle.std.proofs.lemmas.Bool.{cond-true, cond-false, cases_Bool, eqb-true, and_parts, and_from, not-true, not_from_false, eq-eqb, le-leb, leb-true}
use Rattle.std.proofs.lemmas.Bool.Decides.{nat_tests}
use Rattle.grammar.specs.declared.name.Name.{Name}
use Rattle.grammar.specs.declared.name.Name.TheVariants.{Global, Local}
use Rattle.grammar.specs.declared.parse.Op.{Op}
use Rattle.grammar.specs.declared.parse.Op.TheVariants as op
use Rattle.listing.specs.declared.statement.Statement.{Statement}
use Rattle.listing.specs.declared.statement.Statement.TheVariants.{Set, Move, Add, Read, Send, Goto, Test, Call, Ret, Trim}
use Rattle.listing.specs.Meaning.{point, proc}
use Rattle.grammar.specs.declared.name.Header.{Header}
use Rattle.grammar.specs.Words.{longer, words}
use Rattle.grammar.specs.Grammar.{body, then, named, operands, spelled, cells, counts, statement, header}
use Rattle.grammar.specs.Spelling.{spaced, line_of, name_spelt, words_of, header_words, SmallName, Small, SmallHeader, ReadAs, StatementSpelt, HeaderSpelt}
use Rattle.std.proofs.lemmas.List.{take_all, take_more, take_at, get_or_at, length_push}
use Rattle.grammar.proofs.Numerals.{own}
use Rattle.grammar.proofs.Prints.{given_some, mapped_some, SpellsAll, one_spells, two_spells, three_spells, target_spells, branch_spells, called_spells, counts_spells}

abbrev name_of : Op → List ℕ
name_of op.Set = codes "set"
name_of op.Move = codes "move"
name_of op.Add = codes "add"
name_of op.Read = codes "read"
name_of op.Send = codes "send"
name_of op.Goto = codes "goto"
name_of op.Test = codes "test"
name_of op.Call = codes "call"
name_of op.Ret = codes "ret"
name_of op.Trim = codes "trim"

-- one name of the chain, or the rest of it
module _ (w : List ℕ) (o : Op) where
  pick : (p : Op) (rest : Option Op) → cond (bytes_eq w (name_of p)) (Some p) rest ≡ Some o → (rest ≡ Some o → w ≡ name_of o) → w ≡ name_of o
  pick p rest h go =
      ⊎_elim
      (λ t. let e : p ≡ o = some_in (sym (cond-true _ _ _ t) ∙ h) in (bytes_eq-Decides w (name_of p)).0 t ∙ ap name_of e)
      (λ f. go (sym (cond-false _ _ _ f) ∙ h))
      (cases_Bool (bytes_eq w (name_of p)))
    where
      some_in : {x y : Op} → Some x ≡ Some y → x ≡ y
      some_in z = cc

  named_prints : named w ≡ Some o → w ≡ name_of o
  named_prints h =
      pick op.Set _ h (λ h. pick op.Move _ h (λ h. pick op.Add _ h (λ h. pick op.Read _ h (λ h. pick op.Send _ h
      (λ h. pick op.Goto _ h (λ h. pick op.Test _ h (λ h. pick op.Call _ h (λ h. pick op.Ret _ h (λ h. pick op.Trim _ h
      (λ h. let z : ◌≡◌ {A = ℕ} 0 1 = cc in absurd (omega arith)))))))))))

module _ {A : Type 0} {read : List (List ℕ) → Option A} {print : A → List (List ℕ)} {Fit : A → Type 0} (s : SpellsAll read print Fit) where
  by_form : (make : A → Statement Name) (name : List ℕ) → ((a : A) → name ∷ print a ≡ words_of (make a)) → ((a : A) → Fit a → Small (make a)) → (ws : List (List ℕ)) (x : Statement Name) → option_map make (read ws) ≡ Some x → (name ∷ ws ≡ words_of x) × Small x
  by_form make name same fit ws x h =
      let m = mapped_some make (read ws) x h in
      let p = s.prints ws m.0 m.1 in
      subst (λ (y : Statement Name). (name ∷ ws ≡ words_of y) × Small y) m.2 (ap (λ vs. name ∷ vs) p.0 ∙ same m.0, fit m.0 p.1)

op_prints : (o : Op) (ws : List (List ℕ)) (x : Statement Name) → operands o ws ≡ Some x → (name_of o ∷ ws ≡ words_of x) × Small x
op_prints op.Set ws x h = by_form one_spells Set (codes "set") (λ a. refl) (λ a f. f) ws x h
op_prints op.Move ws x h = by_form two_spells (λ p. Move p.0 p.1) (codes "move") (λ a. refl) (λ a f. f) ws x h
op_prints op.Add ws x h = by_form three_spells (λ p. Add p.0 p.1.0 p.1.1) (codes "add") (λ a. refl) (λ a f. f) ws x h
op_prints op.Read ws x h = by_form one_spells Read (codes "read") (λ a. refl) (λ a f. f) ws x h
op_prints op.Send ws x h = by_form one_spells Send (codes "send") (λ a. refl) (λ a f. f) ws x h
op_prints op.Goto ws x h = by_form target_spells (λ k. Goto (point k)) (codes "goto") (λ a. refl) (λ a f. f) ws x h
op_prints op.Test ws x h = by_form branch_spells (λ p. Test p.0 (point p.1)) (codes "test") (λ a. refl) (λ a f. f) ws x h
op_prints op.Call ws x h = by_form called_spells (λ p. Call p.0 (proc p.1.0) p.1.1) (codes "call") (λ a. refl) (λ a f. f) ws x h
op_prints op.Ret ws x h = by_form one_spells Ret (codes "ret") (λ a. refl) (λ a f. f) ws x h
op_prints op.Trim ws x h = by_form two_spells (λ p. Trim p.0 p.1) (codes "trim") (λ a. refl) (λ a f. f) ws x h

formed_prints : (w : List ℕ) (ws : List (List ℕ)) (x : Statement Name) (o : Option Op) → named w ≡ o → then o (λ p. operands p ws) ≡ Some x → (w ∷ ws ≡ words_of x) × Small x
formed_prints w ws x None e h = let z : ◌≡◌ {A = ℕ} 0 1 = cc in absurd (omega arith)
formed_prints w ws x (Some o) e h = let p = op_prints o ws x h in (ap (λ v. v ∷ ws) (named_prints w o e) ∙ p.0, p.1)

spelled_prints : (ws : List (List ℕ)) (x : Statement Name) → spelled ws ≡ Some x → (ws ≡ words_of x) × Small x
spelled_prints [] x h = let z : ◌≡◌ {A = ℕ} 0 1 = cc in absurd (omega arith)
spelled_prints (w ∷ ws) x h = formed_prints w ws x (named w) refl h

spelled_reads : (x : Statement Name) → Small x → spelled (words_of x) ≡ Some x
spelled_reads (Set d) f = ap (option_map Set) (one_spells.reads d f)
spelled_reads (Move d s) f = ap (option_map (λ p. Move p.0 p.1)) (two_spells.reads (d, s) f)
spelled_reads (Add d s t) f = ap (option_map (λ p. Add p.0 p.1.0 p.1.1)) (three_spells.reads (d, (s, t)) f)
spelled_reads (Read d) f = ap (option_map Read) (one_spells.reads d f)
spelled_reads (Send s) f = ap (option_map Send) (one_spells.reads s f)
spelled_reads (Goto k) f = ap (option_map (λ n. Goto (point n))) (target_spells.reads k.0 f)
spelled_reads (Test s k) f = ap (option_map (λ p. Test p.0 (point p.1))) (branch_spells.reads (s, k.0) f)
spelled_reads (Call d p s) f = ap (option_map (λ q. Call q.0 (proc q.1.0) q.1.1)) (called_spells.reads (d, (p.0, s)) f)
spelled_reads (Ret s) f = ap (option_map Ret) (one_spells.reads s f)
spelled_reads (Trim d s) f = ap (option_map (λ p. Trim p.0 p.1)) (two_spells.reads (d, s) f)

-- words joined by a space, and cut again
spaced_longer : (b : ℕ) (ws : List (List ℕ)) → spaced (longer b ws) ≡ b ∷ spaced ws
spaced_longer b [] = refl
spaced_longer b (w ∷ []) = refl
spaced_longer b (w ∷ v ∷ ws) = refl

spaced_gap : (ws : List (List ℕ)) → 0 < length ws → spaced ([] ∷ ws) ≡ 32 ∷ spaced ws
spaced_gap [] l = absurd (omega arith)
spaced_gap (w ∷ ws) l = refl

longer_some : (b : ℕ) (ws : List (List ℕ)) → 0 < length (longer b ws)
longer_some b [] = omega arith
longer_some b (w ∷ ws) = omega arith

words_some : (line : List ℕ) → 0 < length (words line)
words_some [] = omega arith
words_some (b ∷ bs) = elim (eqb b 32) as (λ t. 0 < length (cond t ([] ∷ words bs) (longer b (words bs)))) [ true ↦ omega arith | false ↦ longer_some b (words bs) ]

spaced_words : (line : List ℕ) → spaced (words line) ≡ line
spaced_words [] = refl
spaced_words (b ∷ bs) =
    ⊎_elim
    (λ t. ap spaced (cond-true _ _ _ t) ∙ (spaced_gap (words bs) (words_some bs) ∙ (ap (λ r. 32 ∷ r) (spaced_words bs) ∙ ap (λ a. a ∷ bs) (sym (eqb-true b 32 t)))))
    (λ f. ap spaced (cond-false _ _ _ f) ∙ (spaced_longer b (words bs) ∙ ap (λ r. b ∷ r) (spaced_words bs)))
    (cases_Bool (eqb b 32))

abbrev unspaced : List ℕ → Bool
unspaced [] = true
unspaced (b ∷ bs) = not (eqb b 32) && unspaced bs

words_gap : (w rest : List ℕ) → unspaced w ≡ true → words (w ++ (32 ∷ rest)) ≡ w ∷ words rest
words_gap [] rest h = refl
words_gap (b ∷ w) rest h =
    let p = and_parts (not (eqb b 32)) (unspaced w) h in
    cond-false _ _ _ (not-true (eqb b 32) p.0) ∙ ap (longer b) (words_gap w rest p.1)

words_one : (w : List ℕ) → unspaced w ≡ true → words w ≡ w ∷ []
words_one [] h = refl
words_one (b ∷ w) h =
    let p = and_parts (not (eqb b 32)) (unspaced w) h in
    cond-false _ _ _ (not-true (eqb b 32) p.0) ∙ ap (longer b) (words_one w p.1)

digits_unspaced : (w : List ℕ) → all_ascii_digits w ≡ true → unspaced w ≡ true
digits_unspaced [] h = refl
digits_unspaced (b ∷ w) h =
    let p = and_parts (is_ascii_digit b) (all_ascii_digits w) h in
    let d : is_ascii_digit b ≡ true = p.0 in
    and_from _ _ (not_from_false (eqb b 32) (grind (arith, nat_tests))) (digits_unspaced w p.1)

number_unspaced : (n : ℕ) → n < 10000 → unspaced (decimal n) ≡ true
number_unspaced n h = digits_unspaced (decimal n) (digits_decimal own n (omega arith))

name_unspaced : (x : Name) → SmallName x → unspaced (name_spelt x) ≡ true
name_unspaced (Global i) h = number_unspaced i h
name_unspaced (Local i) h = number_unspaced i h

words_two : (a b : List ℕ) → unspaced a ≡ true → unspaced b ≡ true → words (spaced (a ∷ b ∷ [])) ≡ a ∷ b ∷ []
words_two a b p q = words_gap a b p ∙ ap (λ v. a ∷ v) (words_one b q)

words_three : (a b c : List ℕ) → unspaced a ≡ true → unspaced b ≡ true → unspaced c ≡ true → words (spaced (a ∷ b ∷ c ∷ [])) ≡ a ∷ b ∷ c ∷ []
words_three a b c p q r = words_gap a (spaced (b ∷ c ∷ [])) p ∙ ap (λ v. a ∷ v) (words_two b c q r)

words_four : (a b c d : List ℕ) → unspaced a ≡ true → unspaced b ≡ true → unspaced c ≡ true → unspaced d ≡ true → words (spaced (a ∷ b ∷ c ∷ d ∷ [])) ≡ a ∷ b ∷ c ∷ d ∷ []
words_four a b c d p q r s = words_gap a (spaced (b ∷ c ∷ d ∷ [])) p ∙ ap (λ v. a ∷ v) (words_three b c d q r s)

words_spelt : (x : Statement Name) → Small x → words (spaced (words_of x)) ≡ words_of x
words_spelt (Set d) f = words_two _ _ refl (name_unspaced d f)
words_spelt (Move d s) f = words_three _ _ _ refl (name_unspaced d f.0) (name_unspaced s f.1)
words_spelt (Add d s t) f = words_four _ _ _ _ refl (name_unspaced d f.0) (name_unspaced s f.1.0) (name_unspaced t f.1.1)
words_spelt (Read d) f = words_two _ _ refl (name_unspaced d f)
words_spelt (Send s) f = words_two _ _ refl (name_unspaced s f)
words_spelt (Goto k) f = words_two _ _ refl (number_unspaced k.0 f)
words_spelt (Test s k) f = words_three _ _ _ refl (name_unspaced s f.0) (number_unspaced k.0 f.1)
words_spelt (Call d p s) f = words_four _ _ _ _ refl (name_unspaced d f.0) (number_unspaced p.0 f.1.0) (name_unspaced s f.1.1)
words_spelt (Ret s) f = words_two _ _ refl (name_unspaced s f)
words_spelt (Trim d s) f = words_three _ _ _ refl (name_unspaced d f.0) (name_unspaced s f.1)

-- a line is its body and LF
body_line : (line b : List ℕ) → body line ≡ Some b → line ≡ b ++ (10 ∷ [])
body_line line b h =
    let p = given_some (leb 1 (length line) && eqb (get_or line (length line - 1) 0) 10) (Some (take (length line - 1) line)) b h in
    let q = and_parts (leb 1 (length line)) (eqb (get_or line (length line - 1) 0) 10) p.0 in
    let one : 1 ≤ length line = leb-true 1 (length line) q.0 in
    let lf : get_or line (length line - 1) 0 ≡ 10 = eqb-true _ _ q.1 in
    let same : Some (take (length line - 1) line) ≡ Some b = p.1 in
    let front : take (length line - 1) line ≡ b = cc in
    sym (take_all (length line - 1 + 1) line (omega arith))
    ∙ (take_more line (length line - 1) 0 (omega arith)
    ∙ (ap (λ c. take (length line - 1) line ++ (c ∷ [])) lf ∙ ap (λ f. f ++ (10 ∷ [])) front))

line_body : (b : List ℕ) → body (b ++ (10 ∷ [])) ≡ Some b
line_body b =
    let n : length (b ++ (10 ∷ [])) ≡ length b + 1 = length_push b 10 in
    let k : length (b ++ (10 ∷ [])) - 1 ≡ length b = omega arith in
    cond-true _ _ _
    (and_from _ _ (le-leb 1 (length (b ++ (10 ∷ []))) (omega arith)) (eq-eqb _ 10 (ap (λ i. get_or (b ++ (10 ∷ [])) i 0) k ∙ get_or_at b 10 [] 0 (length b) refl)))
    ∙ ap Some (ap (λ i. take i (b ++ (10 ∷ []))) k ∙ take_at b (10 ∷ []) (length b) refl)

module _ {A : Type 0} (read : List (List ℕ) → Option A) (print : A → List (List ℕ)) (Fit : A → Type 0)
    (prints : (ws : List (List ℕ)) (x : A) → read ws ≡ Some x → (ws ≡ print x) × Fit x)
    (reads : (x : A) → Fit x → read (print x) ≡ Some x)
    (words-print : (x : A) → Fit x → words (spaced (print x)) ≡ print x) where
  by_body : (line : List ℕ) (o : Option (List ℕ)) → body line ≡ o → (x : A) → then o (λ b. read (words b)) ≡ Some x → (line ≡ line_of (print x)) × Fit x
  by_body line None e x h = let z : ◌≡◌ {A = ℕ} 0 1 = cc in absurd (omega arith)
  by_body line (Some b) e x h =
      let p = prints (words b) x h in
      (body_line line b e ∙ ap (λ d. d ++ (10 ∷ [])) (sym (spaced_words b) ∙ ap spaced p.0), p.1)

  -- what words spell, a line spells
  pub read_as : (line : List ℕ) (r : Option A) → r ≡ then (body line) (λ b. read (words b)) → ReadAs (λ x. line_of (print x)) Fit line r
  read_as line r e =
      record {
        only = λ x h. by_body line (body line) refl x (sym e ∙ h);
        all = λ x f l. e ∙ (ap (λ o. then o (λ b. read (words b))) (ap body l ∙ line_body (spaced (print x))) ∙ (ap read (words-print x f) ∙ reads x f));
      }

pub statement_spelt : (line : List ℕ) (r : Option (Statement Name)) → r ≡ statement line → StatementSpelt line r
statement_spelt = read_as spelled words_of Small spelled_prints spelled_reads words_spelt

cells_prints : (ws : List (List ℕ)) (x : Header) → cells ws ≡ Some x → (ws ≡ header_words x) × SmallHeader x
cells_prints [] x h = let z : ◌≡◌ {A = ℕ} 0 1 = cc in absurd (omega arith)
cells_prints (w ∷ ws) x h =
    let p = given_some (bytes_eq w (codes "cells")) (option_map (λ (q : ℕ × ℕ). record { globals = q.0; locals = q.1 }) (counts ws)) x h in
    let m = mapped_some (λ (q : ℕ × ℕ). record { globals = q.0; locals = q.1 }) (counts ws) x p.1 in
    let q = counts_spells.prints ws m.0 m.1 in
    subst (λ (y : Header). (w ∷ ws ≡ header_words y) × SmallHeader y) m.2
    (ap (λ v. v ∷ ws) ((bytes_eq-Decides w (codes "cells")).0 p.0) ∙ ap (λ vs. codes "cells" ∷ vs) q.0, q.1)

cells_reads : (x : Header) → SmallHeader x → cells (header_words x) ≡ Some x
cells_reads x f = ap (option_map (λ p. record { globals = p.0; locals = p.1 })) (counts_spells.reads (x.globals, x.locals) f)

cells_words : (x : Header) → SmallHeader x → words (spaced (header_words x)) ≡ header_words x
cells_words x f = words_three _ _ _ refl (number_unspaced x.globals f.0) (number_unspaced x.locals f.1)

pub header_spelt : (line : List ℕ) (r : Option Header) → r ≡ header line → HeaderSpelt line r
header_spelt = read_as cells header_words SmallHeader cells_prints cells_reads cells_words
