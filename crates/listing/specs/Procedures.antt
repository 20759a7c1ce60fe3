-- Procedures: runs of statements that end in their only `ret`.
use Rattle.std.specs.Prelude.{ℕ, zero, suc, Bool, true, false, List, [], ◌∷◌, take}
use Rattle.listing.specs.declared.control.Control.{Control}
use Rattle.listing.specs.Statements.{is_ret}

-- one more, where a test says yes
abbrev pub bump : Bool → ℕ → ℕ
bump true n = suc n
bump false n = n

-- how many `ret` there are: of a whole program, the number of its procedures
abbrev pub rets : List Control → ℕ
rets [] = 0
rets (c ∷ cs) = bump (is_ret c) (rets cs)

-- the procedure of point n: as many `ret` stand before it
abbrev pub procedure : List Control → ℕ → ℕ
procedure cs n = rets (take n cs)

-- the exit of procedure p with one more statement in front, a `ret` or not; `rest` tells the exits behind it
abbrev pub exit_by : Bool → (ℕ → ℕ) → ℕ → ℕ
exit_by true rest zero = 0
exit_by true rest (suc p) = suc (rest p)
exit_by false rest p = suc (rest p)

-- the exit of procedure p: the point of its `ret`
abbrev pub exit : List Control → ℕ → ℕ
exit [] p = 0
exit (c ∷ cs) p = exit_by (is_ret c) (exit cs) p

-- a procedure begins where the one before it has ended
abbrev pub entry : List Control → ℕ → ℕ
entry cs zero = 0
entry cs (suc p) = suc (exit cs p)

-- the last statement is a `ret`
abbrev pub ends_in_ret : List Control → Bool
ends_in_ret [] = false
ends_in_ret (c ∷ []) = is_ret c
ends_in_ret (c ∷ d ∷ cs) = ends_in_ret (d ∷ cs)
