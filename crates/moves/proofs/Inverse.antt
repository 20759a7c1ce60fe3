-- A move's word is read back as that move, and no other word is.
use Rattle.std.proofs.Common.{◌≡◌, ℕ, ◌<◌, Some, Option, arith}
use Rattle.std.proofs.lemmas.Grind.{common_steps}
use Rattle.moves.specs.declared.moves.Move.{Move}
use Rattle.moves.specs.Words.{encoded, decode, SameWord}

pub read_back : (m : Move) → m.point.0 < 1024 → m.fact.0 < 64 → decode (encoded m) ≡ Some m
read_back m p f = grind (arith, common_steps)

pub same_word : (w : ℕ) (r : Option Move) → r ≡ decode w → SameWord w r
same_word w r e = record { only = λ m h. grind (arith, common_steps); all = λ m f h. grind (arith, common_steps) }
