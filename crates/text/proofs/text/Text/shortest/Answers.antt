use Rattle.std.proofs.Common.{◌≡◌, List, ℕ, None, Ok, Err, Option, Result, IsOk, MatchResult, [], ◌∷◌, codes, refl, sym, ap, ◌∙◌, arith}
use Rattle.draft.specs.declared.question.Refusal.{Refusal}
use Rattle.draft.specs.Rules.{unended, crowded, foreign, astray, missing}
use Rattle.text.specs.Cases.{listed}
use Rattle.text.specs.Reading.{counted, written, outsized, misformed, unranged, miscounted, refused, meaning_of, answered, reading}
use Rattle.text.proofs.Refusals.{not_refused}
use Rattle.text.proofs.text.Text.shortest.Goals as goal

-- a text that no question refuses is read
read : {A : Type 0} (t : List ℕ) (r : Result A Refusal) (P : A → Type 0) → refused t ≡ None → MatchResult r P (λ e. reading t ≡ Err e) → IsOk r
read t (Ok x) P n m = refl
read t (Err e) P n m =
    let z : Ok (meaning_of t) ≡ Err e = ap (λ (o : Option Refusal). answered o (meaning_of t)) (sym n) ∙ m in
    let w : ◌≡◌ {A = ℕ} 0 1 = cc in
    absurd (omega arith)

pub unwrap-requires : goal.unwrap-requires
unfolding outsized misformed counted written unranged miscounted unended crowded foreign astray missing
unwrap-requires c =
    let t = listed (codes "cells 0 1" ∷ codes "ret l0" ∷ []) in
    read t c.of.result _ (not_refused t refl) c.of.ensures.reads
