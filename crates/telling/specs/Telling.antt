-- What is told of a program, or of why there is none.
use Rattle.std.specs.Prelude.{ℕ, List, [], ◌∷◌, ◌++◌, Ok, Err, Result}
use Rattle.std.specs.Borrow.{Bor}
use Rattle.listing.specs.Meaning.{Meaning}
use Rattle.draft.specs.Questions.{refusal_text}
use Rattle.draft.specs.declared.question.Refusal.{Refusal}

-- what came of reading: what a program means, or why it is refused
abbrev pub meant : {P : Type 0} → (P → Meaning) → Result (Bor P) Refusal → Result Meaning Refusal
meant meaning (Ok p) = Ok (meaning p.now)
meant meaning (Err r) = Err r

-- of a program that is read, a text about it; a refused one gives `refused k at j` alone
abbrev pub told_by : (Meaning → List ℕ) → Result Meaning Refusal → List ℕ
told_by text (Ok m) = text m
told_by text (Err r) = refusal_text r ++ (10 ∷ [])

-- of a program that is read, a law of it and what is told
abbrev pub HoldsBy : (Meaning → List ℕ → Type 0) → Result Meaning Refusal → List ℕ → Type 0
HoldsBy law (Ok m) s = law m s
HoldsBy law (Err r) s = Unit {0}
