-- A number that may be missing: as the definitions have it, as a row stores it, and as the code passes it on.
use Rattle.std.specs.Prelude.{ℕ, eqb, if◌then◌else◌, Option, Some, None}
use Rattle.std.proofs.Math.Option as maybe
use Rattle.meaning.specs.Numbers.{absent}

-- what the definitions find, as an `Option` of the code
abbrev pub found : maybe.Option ℕ → Option ℕ
found maybe.none = None
found (maybe.some n) = Some n

-- a stored number as one: 65,535 is none
abbrev pub present : ℕ → Option ℕ
present x = if eqb x absent then None else Some x
