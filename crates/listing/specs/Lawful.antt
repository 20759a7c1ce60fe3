-- What a lawful program keeps, each as a test.
use Rattle.std.specs.Prelude.{ℕ, ◌+◌, Bool, true, ◌&&◌, ltb, List, [], ◌∷◌, length, ◌==◌, nat_le, nat_lt}
use Rattle.listing.specs.declared.numbers.Cell.{Cell}
use Rattle.listing.specs.declared.control.Control.{Control}
use Rattle.listing.specs.declared.control.Control.TheVariants.{Next, Goto, Test, Call, Ret}
use Rattle.listing.specs.declared.statement.Statement.{Statement}
use Rattle.listing.specs.Statements.{cells_of}
use Rattle.listing.specs.Procedures.{procedure, ends_in_ret}
use Rattle.listing.specs.Meaning.{Meaning, size, procs, flow}

-- 0 to 31 globals and 1 to 32 locals
abbrev pub cells_in_range : ℕ → ℕ → Bool
cells_in_range g l = nat_le g 31 && (nat_le 1 l && nat_le l 32)

-- 1 to 1,000 statements
abbrev pub points_in_range : ℕ → Bool
points_in_range n = nat_le 1 n && nat_le n 1000

-- a test of each element
abbrev pub each : {A : Type 0} → (A → Bool) → List A → Bool
each test [] = true
each test (x ∷ xs) = test x && each test xs

-- a test of each element with its place, the first having the place n
abbrev pub every : {A : Type 0} → (ℕ → A → Bool) → ℕ → List A → Bool
every test n [] = true
every test n (x ∷ xs) = test n x && every test (n + 1) xs

-- the cells of a statement are among the first c
abbrev pub owns : ℕ → Statement Cell → Bool
owns c s = each (λ x. ltb x.0 c) (cells_of s)

-- k is a point of the procedure of n
abbrev pub together : List Control → ℕ → ℕ → Bool
together cs n k = nat_lt k (length cs) && procedure cs k == procedure cs n

-- the target of a jump from point n passes a test of the two points
abbrev pub lands : (ℕ → ℕ → Bool) → ℕ → Control → Bool
lands test n Next = true
lands test n (Goto k) = test n k.0
lands test n (Test k) = test n k.0
lands test n (Call p) = true
lands test n Ret = true

-- a jump from point n stays in its procedure
abbrev pub stays : List Control → ℕ → Control → Bool
stays cs = lands (together cs)

-- a called procedure is one of p
abbrev pub exists : ℕ → ℕ → Control → Bool
exists p n Next = true
exists p n (Goto k) = true
exists p n (Test k) = true
exists p n (Call q) = nat_lt q.0 p
exists p n Ret = true

-- counts in range, a last `ret`, at most 60 procedures, cells of the program's own, jumps that stay, callees that exist
abbrev pub is_lawful : Meaning → Bool
is_lawful m =
    cells_in_range m.globals m.locals
    && (points_in_range (size m)
    && (ends_in_ret (flow m)
    && (nat_le (procs m) 60
    && (each (owns (m.globals + m.locals)) m.statements
    && (every (stays (flow m)) 0 (flow m)
    && every (exists (procs m)) 0 (flow m))))))
