-- The lines of a trail, word by word.
use Rattle.std.proofs.Common.{◌≡◌, ℕ, ◌+◌, ◌<◌, ◌≤◌, List, ◌++◌, length, get_or, drop, Some, None, Ok, Err, Option, sym, ap, ◌∙◌, append_assoc, arith}
use Rattle.std.proofs.lemmas.Grind.{common_steps}
use Rattle.std.proofs.lemmas.List.{at_drop_more}
use Rattle.listing.specs.Meaning.{Meaning}
use Rattle.moves.specs.declared.moves.Kind.{Kind}
use Rattle.moves.specs.declared.moves.Move.{Move}
use Rattle.moves.specs.declared.words.NotAMove.{NotAMove}
use Rattle.moves.specs.Words.{decode}
use Rattle.move_text.specs.Lines.{opened}
use Rattle.std.specs.Option.{ok_or}
use Rattle.text.specs.Reading.{kept}
use Rattle.explanation.specs.Lines.{move_line, lines_from, path_text, moves_of}

module _ (m : Meaning) (facts : ℕ → List ℕ) (xs : List ℕ) (i k : ℕ) (out : List ℕ) (inv : out ++ lines_from m facts k (moves_of (drop i xs)) ≡ path_text m facts (moves_of xs)) where
  next : i < length xs → out ++ lines_from m facts k (kept (decode (get_or xs i 0)) (moves_of (drop (i + 1) xs))) ≡ path_text m facts (moves_of xs)
  next l = sym (ap (λ ws. out ++ lines_from m facts k ws) (at_drop_more moves_of xs i 0 l)) ∙ inv

  pub one_more : i < length xs → (w : Move) → decode (get_or xs i 0) ≡ Some w
      → (out ++ move_line m facts k w) ++ lines_from m facts (opened k w.kind) (moves_of (drop (i + 1) xs)) ≡ path_text m facts (moves_of xs)
  one_more l w e =
      append_assoc out (move_line m facts k w) (lines_from m facts (opened k w.kind) (moves_of (drop (i + 1) xs)))
      ∙ (sym (ap (λ o. out ++ lines_from m facts k (kept o (moves_of (drop (i + 1) xs)))) e) ∙ next l)

  -- a word that is no move's
  pub none_more : i < length xs → decode (get_or xs i 0) ≡ None → out ++ lines_from m facts k (moves_of (drop (i + 1) xs)) ≡ path_text m facts (moves_of xs)
  none_more l e = sym (ap (λ o. out ++ lines_from m facts k (kept o (moves_of (drop (i + 1) xs)))) e) ∙ next l

-- what was read of a word
pub read_as : (o : Option Move) (e : NotAMove) (w : Move) → Ok w ≡ ok_or o e → o ≡ Some w
read_as o e w h = grind (arith, common_steps)

pub not_read : (o : Option Move) (e f : NotAMove) → Err f ≡ ok_or o e → o ≡ None
not_read o e f h = grind (arith, common_steps)

-- one move opens at most one call
pub opened_le : (k : ℕ) (c : Kind) → opened k c ≤ k + 1
opened_le k c = grind (arith, common_steps)
