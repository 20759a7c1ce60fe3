-- The words of a line, numbers, and cells as they are written.
use Rattle.std.specs.Prelude.{ℕ, ◌+◌, ◌-◌, ◌*◌, ◌%◌, ◌^◌, Bool, cond, not, ◌&&◌, ◌||◌, List, [], ◌∷◌, length, Some, None, Option, ◌==◌, nat_le, slice_index}
use Rattle.std.specs.Option.{option_map}
use Rattle.std.specs.Char.{is_ascii_digit}
use Rattle.grammar.specs.declared.name.Name.{Name}
use Rattle.grammar.specs.declared.name.Name.TheVariants.{Global, Local}

-- a byte put before the first of some pieces
abbrev pub longer : ℕ → List (List ℕ) → List (List ℕ)
longer b [] = (b ∷ []) ∷ []
longer b (p ∷ ps) = (b ∷ p) ∷ ps

-- the words of a line, which is cut at each space: two spaces in a row have an empty word between them
abbrev pub words : List ℕ → List (List ℕ)
words [] = [] ∷ []
words (b ∷ bs) = cond (b == 32) ([] ∷ words bs) (longer b (words bs))

-- the number that digits write after n, or none where a byte is no digit
abbrev pub value_on : ℕ → List ℕ → Option ℕ
value_on n [] = Some n
value_on n (c ∷ cs) = cond (is_ascii_digit c) (value_on (10 * n + (c - 48)) cs) None

-- a number with one more digit behind it, in 16 bits, or none where the byte is no digit
abbrev pub followed : Option ℕ → ℕ → Option ℕ
followed None c = None
followed (Some n) c = cond (is_ascii_digit c) (Some ((10 * n + (c - 48)) % 2 ^ 16)) None

-- one to four bytes, the first of them `0` (48) only where it is the only one
abbrev pub short : List ℕ → Bool
short w = nat_le 1 (length w) && (nat_le (length w) 4 && (not (slice_index w 0 == 48) || length w == 1))

-- a decimal number of one to four digits, with no leading zero but in `0`
abbrev pub number : List ℕ → Option ℕ
number w = cond (short w) (value_on 0 w) None

-- `g` (103) or `l` (108), and a number
abbrev pub name : List ℕ → Option Name
name [] = None
name (c ∷ w) = cond (c == 103) (option_map Global (number w)) (cond (c == 108) (option_map Local (number w)) None)
