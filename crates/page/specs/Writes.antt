-- What is written into a part of a page that is lent.
use Rattle.std.specs.Prelude.{◌≡◌, ℕ, ◌<◌, ◌≤◌, List, [], ◌∷◌, ◌++◌, length, drop, codes, Some, None, decimal, Option}

-- a text and then a number in decimal
abbrev pub item : List ℕ → ℕ → List ℕ
item text number = text ++ decimal number

-- two numbers in decimal, a text before each, and LF
abbrev pub phrase : List ℕ → ℕ → List ℕ → ℕ → List ℕ
phrase before first between second = before ++ (decimal first ++ (between ++ (decimal second ++ (10 ∷ []))))

-- `problem k`
abbrev pub heading : ℕ → List ℕ
heading k = codes "problem " ++ (decimal k ++ (10 ∷ []))

-- the text fits, stands at the front of the part, and takes `count` bytes; what stands after it stays
pub record Put (text : List ℕ) (part : List ℕ) (count : ℕ) (part' : List ℕ) : Type 0 where
  pub fits : length text ≤ length part
  pub takes : count ≡ length text
  pub holds : part' ≡ text ++ drop (length text) part

-- the text does not fit, and the part is as it was
pub record Kept (text : List ℕ) (part part' : List ℕ) : Type 0 where
  pub full : length part < length text
  pub same : part' ≡ part

-- what writing a text at the front of a part of a page answers, and the part after it
abbrev pub Writes : List ℕ → List ℕ → Option ℕ → List ℕ → Type 0
Writes text part (Some count) part' = Put text part count part'
Writes text part None part' = Kept text part part'
