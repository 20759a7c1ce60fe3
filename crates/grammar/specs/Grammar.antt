-- The statements and the first line, as they are read.
use Rattle.std.specs.Prelude.{ℕ, ◌-◌, cond, ◌&&◌, List, [], ◌∷◌, length, take, Some, None, codes, Option, ◌==◌, nat_le, slice_index}
use Rattle.std.specs.Option.{option_map}
use Rattle.std.specs.Str.{bytes_eq}
use Rattle.listing.specs.Meaning.{point, proc}
use Rattle.listing.specs.declared.statement.Statement.{Statement}
use Rattle.listing.specs.declared.statement.Statement.TheVariants.{Set, Move, Add, Read, Send, Goto, Test, Call, Ret, Trim}
use Rattle.grammar.specs.declared.name.Name.{Name}
use Rattle.grammar.specs.declared.name.Header.{Header}
use Rattle.grammar.specs.declared.parse.Op.{Op}
use Rattle.grammar.specs.declared.parse.Op.TheVariants as op
use Rattle.grammar.specs.Words.{words, number, name}

-- a line without its LF (10), or none where it has none
abbrev pub body : List ℕ → Option (List ℕ)
body line = cond (nat_le 1 (length line) && slice_index line (length line - 1) == 10) (Some (take (length line - 1) line)) None

-- what comes next of a value, where there is one
abbrev pub then : {A B : Type 0} → Option A → (A → Option B) → Option B
then None f = None
then (Some a) f = f a

-- both values, where both are there
abbrev pub pair : {A B : Type 0} → Option A → Option B → Option (A × B)
pair None y = None
pair (Some a) y = option_map (λ b. (a, b)) y

-- one operand and no more, as `read` takes it
abbrev pub last : {A : Type 0} → (List ℕ → Option A) → List (List ℕ) → Option A
last read [] = None
last read (w ∷ []) = read w
last read (w ∷ x ∷ ws) = None

-- one operand, as `read` takes it, and then those after it, as `rest` takes them
abbrev pub next : {A B : Type 0} → (List ℕ → Option A) → (List (List ℕ) → Option B) → List (List ℕ) → Option (A × B)
next read rest [] = None
next read rest (w ∷ ws) = pair (read w) (rest ws)

-- three operands in a row
abbrev pub flat : {A B C : Type 0} → A × (B × C) → A × B × C
flat p = (p.0, p.1.0, p.1.1)

-- one operand, a cell
abbrev pub one : List (List ℕ) → Option Name
one = last name

-- two cells
abbrev pub two : List (List ℕ) → Option (Name × Name)
two = next name one

-- three cells
abbrev pub three : List (List ℕ) → Option (Name × (Name × Name))
three = next name two

-- a point, as `goto K` has it; or the second number of line 1
abbrev pub target : List (List ℕ) → Option ℕ
target = last number

-- a cell and a point, as `test S K` has them
abbrev pub branch : List (List ℕ) → Option (Name × ℕ)
branch = next name target

-- a procedure and a cell, the last two of `call D P S`
abbrev pub argument : List (List ℕ) → Option (ℕ × Name)
argument = next number one

-- a cell, a procedure and a cell, as `call D P S` has them
abbrev pub called : List (List ℕ) → Option (Name × (ℕ × Name))
called = next name argument

-- the two numbers of line 1
abbrev pub counts : List (List ℕ) → Option (ℕ × ℕ)
counts = next number target

-- the statement that a word names
abbrev pub named : List ℕ → Option Op
named w =
    cond (bytes_eq w (codes "set")) (Some op.Set)
    (cond (bytes_eq w (codes "move")) (Some op.Move)
    (cond (bytes_eq w (codes "add")) (Some op.Add)
    (cond (bytes_eq w (codes "read")) (Some op.Read)
    (cond (bytes_eq w (codes "send")) (Some op.Send)
    (cond (bytes_eq w (codes "goto")) (Some op.Goto)
    (cond (bytes_eq w (codes "test")) (Some op.Test)
    (cond (bytes_eq w (codes "call")) (Some op.Call)
    (cond (bytes_eq w (codes "ret")) (Some op.Ret)
    (cond (bytes_eq w (codes "trim")) (Some op.Trim)
    None)))))))))

-- the statement with its operands: `set D`, `move D S`, `add D S T`, `read D`, `send S`, `goto K`, `test S K`, `call D P S`, `ret S`,
-- `trim D S`
abbrev pub operands : Op → List (List ℕ) → Option (Statement Name)
operands op.Set ws = option_map Set (one ws)
operands op.Move ws = option_map (λ p. Move p.0 p.1) (two ws)
operands op.Add ws = option_map (λ p. Add p.0 p.1.0 p.1.1) (three ws)
operands op.Read ws = option_map Read (one ws)
operands op.Send ws = option_map Send (one ws)
operands op.Goto ws = option_map (λ k. Goto (point k)) (target ws)
operands op.Test ws = option_map (λ p. Test p.0 (point p.1)) (branch ws)
operands op.Call ws = option_map (λ p. Call p.0 (proc p.1.0) p.1.1) (called ws)
operands op.Ret ws = option_map Ret (one ws)
operands op.Trim ws = option_map (λ p. Trim p.0 p.1) (two ws)

-- the statement that words spell
abbrev pub spelled : List (List ℕ) → Option (Statement Name)
spelled [] = None
spelled (w ∷ ws) = then (named w) (λ o. operands o ws)

-- the statement of a line
abbrev pub statement : List ℕ → Option (Statement Name)
statement line = then (body line) (λ b. spelled (words b))

-- `cells G L`
abbrev pub cells : List (List ℕ) → Option Header
cells [] = None
cells (w ∷ ws) = cond (bytes_eq w (codes "cells")) (option_map (λ p. record { globals = p.0; locals = p.1 }) (counts ws)) None

-- the counts that the first line tells
abbrev pub header : List ℕ → Option Header
header line = then (body line) (λ b. cells (words b))
