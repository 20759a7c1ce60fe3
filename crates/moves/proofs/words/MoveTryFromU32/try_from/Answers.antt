use Rattle.std.proofs.Common.{sym, ◌∙◌}
use Rattle.std.specs.Result.{result_ok}
use Rattle.moves.proofs.Inverse.{same_word}
use Rattle.moves.proofs.words.MoveTryFromU32.try_from.Goals as goal

pub returns : goal.returns
returns c =
    record { value = cc; inverse = same_word c.args.word (result_ok c.ok_or.result) (sym c.ok_or.ensures.ok_part ∙ c.read.ensures) }
