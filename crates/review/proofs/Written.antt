-- The lines of a trail, word by word.
use Rattle.std.proofs.Common.{◌≡◌, ℕ, ◌+◌, ◌<◌, ◌≤◌, List, ◌++◌, length, get_or, drop, Some, Ok, Option, sym, ap, ◌∙◌, append_assoc, arith}
use Rattle.std.proofs.lemmas.Grind.{common_steps}
use Rattle.std.proofs.lemmas.List.{at_drop_more}
use Rattle.moves.specs.declared.moves.Kind.{Kind}
use Rattle.moves.specs.declared.moves.Move.{Move}
use Rattle.moves.specs.declared.words.NotAMove.{NotAMove}
use Rattle.moves.specs.Words.{decode}
use Rattle.std.specs.Option.{ok_or}
use Rattle.move_text.specs.Lines.{opened}
use Rattle.review.specs.Reviewed.{move_line, lines_from, lines_of}

module _ (facts : ℕ → List ℕ) (xs : List ℕ) (i k : ℕ) (out : List ℕ) (inv : out ++ lines_of facts k (drop i xs) ≡ lines_of facts 0 xs) where
  next : i < length xs → out ++ lines_from (decode (get_or xs i 0)) facts k (λ j. lines_of facts j (drop (i + 1) xs)) ≡ lines_of facts 0 xs
  next l = sym (ap (λ ls. out ++ ls) (at_drop_more (lines_of facts k) xs i 0 l)) ∙ inv

  pub one_more : i < length xs → (m : Move) → decode (get_or xs i 0) ≡ Some m → (out ++ move_line facts k m) ++ lines_of facts (opened k m.kind) (drop (i + 1) xs) ≡ lines_of facts 0 xs
  one_more l m e =
      append_assoc out (move_line facts k m) (lines_of facts (opened k m.kind) (drop (i + 1) xs))
      ∙ (sym (ap (λ o. out ++ lines_from o facts k (λ j. lines_of facts j (drop (i + 1) xs))) e) ∙ next l)

-- what was read of a word
pub read_as : (o : Option Move) (e : NotAMove) (m : Move) → Ok m ≡ ok_or o e → o ≡ Some m
read_as o e m h = grind (arith, common_steps)

-- one move opens at most one call
pub opened_le : (k : ℕ) (c : Kind) → opened k c ≤ k + 1
opened_le k c = grind (arith, common_steps)
