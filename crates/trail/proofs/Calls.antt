-- The calls that stand open in a walk.
use Rattle.std.proofs.Common.{◌≡◌, ℕ, ◌<◌, ◌≤◌, ◌⊎◌, List, [], ap, sym, ◌∙◌, inl, inr, length, take, arith}
use Rattle.std.proofs.lemmas.List.{length-reverse, length-map, length-take-le}
use Rattle.records.specs.declared.record.Record.{Record}
use Rattle.stack.specs.Stack.{held}
use Rattle.trail.specs.Stride.{opens}
use Rattle.trail.specs.Walk.{Turn, entry_by}

no_calls : (calls : List Record) (h : ℕ) → h ≤ length calls → (h ≡ 0) ⊎ (length calls < h) → opens calls h ≡ []
no_calls calls h l e = elim e [ inl z ↦ ap (opens calls) z | inr m ↦ absurd (omega arith) ]

-- where a stack has no top, the walk is in no callee
pub none_open : (outside : Turn) (calls : List Record) (h : ℕ) → h ≤ length calls → (h ≡ 0) ⊎ (length calls < h)
    → outside ≡ entry_by outside (opens calls h)
none_open outside calls h l e = sym (ap (entry_by outside) (no_calls calls h l e))

-- it is in as many callees as its stack is high
pub height_is : (calls : List Record) (h : ℕ) → h ≤ length calls → length (opens calls h) ≡ h
height_is calls h l = length-map (held calls h) (λ (r : Record). r.first) ∙ length-reverse (take h calls) ∙ length-take-le h calls l
