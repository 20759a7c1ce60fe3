use Rattle.std.proofs.Common.{◌≡◌, [], ◌∷◌, Some, sym, refl, subst, ◌∙◌, rules}
use Rattle.std.specs.List.{fold}
use Rattle.std.proofs.lemmas.List.Sums.{fold-append}
use Rattle.std.proofs.lemmas.Fn.{fold_over, slice_gives, fronts}
use Rattle.grammar.specs.Words.{followed}
use Rattle.grammar.proofs.Numerals.{number_long, number_read}
use Rattle.grammar.proofs.words.U16Operand.read.Goals as goal

pub returns-then-not-is_short : goal.returns-then-not-is_short
returns-then-not-is_short c = number_long c.args.word.now (sym c.if-not-is_short.ensures)

pub returns : goal.returns
returns c =
    subst (λ l. c.fold.result ≡ fold followed (Some 0) l) c.iter.ensures.rest
    (fold_over fronts (λ y. y.now) _ (λ ys n. n ≡ fold followed (Some 0) ys) _
    (λ ys a x b f' j k. let more = fold-append followed (Some 0) ys (x.now ∷ []) in search rules)
    _ _ _ _ (slice_gives c.iter.result) refl c.fold.ensures.ran)
    ∙ number_read c.args.word.now (sym c.if-not-is_short.ensures)
