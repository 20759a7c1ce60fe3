use Rattle.std.proofs.Common.{◌≡◌, ℕ, ◌+◌, ◌<◌, ◌≤◌, length, get_or, drop}
use Rattle.std.specs.Slice.Iter.{split_inclusive_rest}
use Rattle.draft.specs.Rules.{failing}
use Rattle.text.specs.Lines.{lines, place}
use Rattle.text.specs.Reading.{formed}
use Rattle.text.proofs.survey.find_lines.Given as goal

abbrev pub invariant-loop-line : goal.invariant-loop-line
invariant-loop-line l =
    (goal.iterator-loop-line).can_next l.line-iterator
    × (goal.iterator-loop-line).is_finite l.line-iterator
    × (lines (split_inclusive_rest l.line-iterator) ≡ drop l.count (lines l.bytes))
    × (l.at + length (split_inclusive_rest l.line-iterator) ≡ length l.bytes)
    × (l.count ≤ l.at)
    × (length l.starts ≡ 1001)
    × (failing formed (l.count + 1) (drop l.count (lines l.bytes)) ≡ failing formed 1 (lines l.bytes))
    × ((k : ℕ) → k < l.count → k < 1001 → get_or l.starts k 0 ≡ place k (lines l.bytes))
    × (l.count ≤ length (lines l.bytes))
    × (l.at ≡ place l.count (lines l.bytes))
