-- A place, counted from i.
use Rattle.std.proofs.Common.{ℕ, ◌+◌, Some, None, Option}

abbrev pub further : ℕ → Option ℕ → Option ℕ
further i None = None
further i (Some k) = Some (i + k)
