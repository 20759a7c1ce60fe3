-- What a text means, and the first no to the questions that are put to it.
use Rattle.std.specs.Prelude.{ℕ, ◌+◌, Bool, true, cond, not, ◌&&◌, List, [], ◌∷◌, map, length, drop, is_some, Some, None, Ok, Err, Option, Result, ◌==◌, nat_le}
use Rattle.std.specs.List.{slice_get}
use Rattle.std.specs.Option.{option_map}
use Rattle.listing.specs.Lawful.{cells_in_range, points_in_range}
use Rattle.listing.specs.Meaning.{Meaning}
use Rattle.listing.specs.Statements.{controlled}
use Rattle.listing.specs.declared.control.Control.{Control}
use Rattle.listing.specs.declared.numbers.Cell.{Cell}
use Rattle.listing.specs.declared.statement.Statement.{Statement}
use Rattle.draft.specs.Rules.{failing, unless, breach}
use Rattle.draft.specs.declared.question.Question.{Question}
use Rattle.draft.specs.declared.question.Question.TheVariants.{Size, Form, Ranges, Length}
use Rattle.draft.specs.declared.question.Refusal.{Refusal}
use Rattle.draft.specs.declared.question.Breach.{Breach}
use Rattle.grammar.specs.Grammar.{statement, header}
use Rattle.grammar.specs.declared.name.Name.{Name}
use Rattle.grammar.specs.declared.name.Header.{Header}
use Rattle.text.specs.Lines.{lines}
use Rattle.text.specs.Cells.{numbered}

-- a value put before others, where there is one
abbrev pub kept : {B : Type 0} → Option B → List B → List B
kept None ys = ys
kept (Some y) ys = y ∷ ys

-- what f gives of each element, where it gives something
abbrev pub collect : {A B : Type 0} → (A → Option B) → List A → List B
collect f [] = []
collect f (x ∷ xs) = kept (f x) (collect f xs)

-- the counts of line 1, or zeros where it has none: such a text is refused
abbrev pub or_zero : Option Header → Header
or_zero None = record { globals = 0; locals = 0 }
or_zero (Some h) = h

-- the counts of the first of some lines
abbrev pub head : List (List ℕ) → Header
head [] = or_zero None
head (l ∷ ls) = or_zero (header l)

-- G and L, as line 1 tells them
unfoldable pub counted : List ℕ → Header
counted t = head (lines t)

-- the statements that the lines after line 1 spell
unfoldable pub written : List ℕ → List (Statement Name)
written t = collect statement (drop 1 (lines t))

-- what they do to control
abbrev pub flow_of : List ℕ → List Control
flow_of t = map controlled (written t)

-- a statement over the program's own cells
abbrev pub renumbered : List ℕ → Statement Name → Option (Statement Cell)
renumbered t = numbered (counted t).globals (counted t).locals

-- what a text means, if no question refuses it
abbrev pub meaning_of : List ℕ → Meaning
meaning_of t =
    record {
      globals = (counted t).globals;
      locals = (counted t).locals;
      statements = collect (renumbered t) (written t);
    }

-- 1 to 32,768 bytes
abbrev pub sized : List ℕ → Bool
sized t = nat_le 1 (length t) && nat_le (length t) 32768

-- line 1 is `cells G L`, and each other a statement
abbrev pub formed : ℕ → List ℕ → Bool
formed n line = cond (n == 1) (is_some (header line)) (is_some (statement line))

-- a test of a value, yes where there is none
abbrev pub or_true : {A : Type 0} → (A → Bool) → Option A → Bool
or_true test None = true
or_true test (Some x) = test x

-- the cells of the statement at point n are the program's
abbrev pub owned_of : List ℕ → ℕ → Bool
owned_of t n = or_true (λ s. is_some (renumbered t s)) (slice_get (written t) n)

-- the place at which the size of a text is refused: 0, the whole text
unfoldable pub outsized : List ℕ → Option ℕ
outsized t = unless (sized t) 0

-- the first line without its form
unfoldable pub misformed : List ℕ → Option ℕ
misformed t = failing formed 1 (lines t)

-- the place at which G and L are refused: line 1
unfoldable pub unranged : List ℕ → Option ℕ
unranged t = unless (cells_in_range (counted t).globals (counted t).locals) 1

-- the place at which N is refused: 0, the whole text
unfoldable pub miscounted : List ℕ → Option ℕ
miscounted t = unless (points_in_range (length (written t))) 0

-- point n is line n + 2
abbrev pub on_line : Breach → Refusal
on_line b = record { question = b.question; place = b.point.0 + 2 }

-- a no to a question, or what comes after it
abbrev pub or_next : Question → Option ℕ → Option Refusal → Option Refusal
or_next q None later = later
or_next q (Some j) later = Some (record { question = q; place = j })

-- the first no, each question being put to the whole text before the next
abbrev pub refused : List ℕ → Option Refusal
refused t =
    or_next Size (outsized t)
    (or_next Form (misformed t)
    (or_next Ranges (unranged t)
    (or_next Length (miscounted t)
    (option_map on_line (breach (flow_of t) (owned_of t))))))

-- no question refuses the text
abbrev pub accepted : List ℕ → Bool
accepted t = not (is_some (refused t))

-- what reading a text answers
abbrev pub answered : {A : Type 0} → Option Refusal → A → Result A Refusal
answered None x = Ok x
answered (Some r) x = Err r

-- what reading a text answers: its meaning, or the first no
abbrev pub reading : List ℕ → Result Meaning Refusal
reading t = answered (refused t) (meaning_of t)
