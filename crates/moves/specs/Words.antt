-- A move as a word of 32 bits: from the top, 3 bits of kind, 10 of point, 6 of fact, and 13 zero bits.
use Rattle.std.specs.Prelude.{◌≡◌, ℕ, ◌+◌, ◌*◌, ◌/◌, ◌%◌, Bool, true, cond, ◌&&◌, Some, None, Option, Result, ◌==◌, nat_lt}
use Rattle.std.specs.Option.{option_map, ok_or}
use Rattle.std.specs.Result.{result_ok}
use Rattle.listing.specs.Meaning.{point}
use Rattle.listing.specs.declared.numbers.Fact.{Fact}
use Rattle.moves.specs.declared.moves.Kind.{Kind}
use Rattle.moves.specs.declared.moves.Kind.TheVariants.{Start, Step, Past, Call, Return}
use Rattle.moves.specs.declared.moves.Move.{Move}
use Rattle.moves.specs.declared.words.NotAMove.{NotAMove}

-- the number of a kind
abbrev pub code : Kind → ℕ
code Start = 1
code Step = 2
code Past = 3
code Call = 4
code Return = 5

-- the kind that has a number, if one has
abbrev pub kind_of : ℕ → Option Kind
kind_of k = cond (k == 1) (Some Start) (cond (k == 2) (Some Step) (cond (k == 3) (Some Past) (cond (k == 4) (Some Call) (cond (k == 5) (Some Return) None))))

-- the fact with a number
abbrev pub fact : ℕ → Fact
fact d = record { 0 = d }

-- the move that arrives at point n with fact d
abbrev pub arrives : Kind → ℕ → ℕ → Move
arrives k n d = record { kind = k; point = point n; fact = fact d }

-- the point has 10 bits and the fact 6
abbrev pub fits : Move → Bool
fits m = nat_lt m.point.0 1024 && nat_lt m.fact.0 64

-- the word of a move
abbrev pub encoded : Move → ℕ
encoded m = ((code m.kind * 1024 + m.point.0) * 64 + m.fact.0) * 8192

-- the move of a word, or none where the word is no move's
abbrev pub decode : ℕ → Option Move
decode w =
    cond (w % 8192 == 0)
    (option_map (λ k. arrives k (w / 8192 / 64 % 1024) (w / 8192 % 64)) (kind_of (w / 8192 / 64 / 1024)))
    None

-- reading a word gives a move just where it is that move's word
pub record SameWord (w : ℕ) (r : Option Move) : Type 0 where
  pub only : (m : Move) → r ≡ Some m → (encoded m ≡ w) × (fits m ≡ true)
  pub all : (m : Move) → fits m ≡ true → encoded m ≡ w → r ≡ Some m

-- what reading a word answers: the move that the word is decoded to, if any
pub record ReadsMove (w : ℕ) (r : Result Move NotAMove) : Type 0 where
  pub value : r ≡ ok_or (decode w) (record { 0 = w })
  pub inverse : SameWord w (result_ok r)
