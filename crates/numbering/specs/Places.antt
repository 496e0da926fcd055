-- What the call for a number answers, by where the given words stand in the list.
use Rattle.std.specs.Prelude.{Option, None, Some, ℕ}
use Rattle.std.proofs.Math.Option.{Option as Maybe, none, some}

abbrev pub placed : Maybe ℕ → Option ℕ
placed none = None
placed (some n) = Some n
