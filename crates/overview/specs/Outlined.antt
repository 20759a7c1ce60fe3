-- What is told of a listing, byte for byte.
use Rattle.std.specs.Prelude.{ℕ, zero, suc, ◌+◌, ◌-◌, Bool, true, false, List, [], ◌∷◌, ◌++◌, Some, None, codes, decimal, Option, Result}
use Rattle.std.specs.List.{slice_get}
use Rattle.listing.specs.Meaning.{Meaning, point, proc, flow, procs, totals}
use Rattle.listing.specs.Procedures.{bump, entry, exit}
use Rattle.listing.specs.declared.counts.Counts.{Counts}
use Rattle.listing.specs.declared.numbers.Cell.{Cell}
use Rattle.listing.specs.declared.statement.Statement.{Statement}
use Rattle.listing.specs.declared.statement.Statement.TheVariants.{Set, Move, Add, Read, Send, Goto, Test, Call, Ret, Trim}
use Rattle.draft.specs.declared.question.Refusal.{Refusal}
use Rattle.text.specs.Reading.{reading}
use Rattle.telling.specs.Telling.{told_by}
use Rattle.overview.specs.declared.section.Section.{Section}

-- there is a `call`
abbrev pub calls_at : Option (Statement Cell) → Bool
calls_at None = false
calls_at (Some (Set d)) = false
calls_at (Some (Move d s)) = false
calls_at (Some (Add d s t)) = false
calls_at (Some (Read d)) = false
calls_at (Some (Send s)) = false
calls_at (Some (Goto k)) = false
calls_at (Some (Test s k)) = false
calls_at (Some (Call d p s)) = true
calls_at (Some (Ret s)) = false
calls_at (Some (Trim d s)) = false

-- how many of the k points from n on have a `call`
abbrev pub calls_from : Meaning → ℕ → ℕ → ℕ
calls_from m n zero = 0
calls_from m n (suc k) = bump (calls_at (slice_get m.statements n)) (calls_from m (n + 1) k)

-- what is told of procedure p: its entry, its exit, and how many statements and calls it has
abbrev pub section : Meaning → ℕ → Section
section m p =
    record {
      procedure = proc p;
      entry = point (entry (flow m) p);
      exit = point (exit (flow m) p);
      statements = exit (flow m) p + 1 - entry (flow m) p;
      calls = calls_from m (entry (flow m) p) (exit (flow m) p + 1 - entry (flow m) p);
    }

-- `procedure p entry E exit X statements S calls C`
abbrev pub section_text : Section → List ℕ
section_text s =
    codes "procedure " ++ (decimal s.procedure.0
    ++ (codes " entry " ++ (decimal s.entry.0
    ++ (codes " exit " ++ (decimal s.exit.0
    ++ (codes " statements " ++ (decimal s.statements
    ++ (codes " calls " ++ decimal s.calls))))))))

-- the lines of the first p procedures, each with LF (10)
abbrev pub sections : Meaning → ℕ → List ℕ
sections m zero = []
sections m (suc p) = sections m p ++ (section_text (section m p) ++ (10 ∷ []))

-- `globals G locals L statements N procedures P`
abbrev pub heading_text : Counts → List ℕ
heading_text c =
    codes "globals " ++ (decimal c.globals
    ++ (codes " locals " ++ (decimal c.locals
    ++ (codes " statements " ++ (decimal c.points
    ++ (codes " procedures " ++ decimal c.procedures))))))

-- the outline of a program
abbrev pub described : Meaning → List ℕ
described m = (heading_text (totals m) ++ (10 ∷ [])) ++ sections m (procs m)

-- the outline where a listing is read; a refused one gives `refused k at j` alone
abbrev pub told : Result Meaning Refusal → List ℕ
told o = told_by described o

-- the outline of a listing, by its bytes
abbrev pub outlined : List ℕ → List ℕ
outlined t = told (reading t)
