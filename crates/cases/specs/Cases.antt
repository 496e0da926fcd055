-- The random numbers and the checksum, as the programs' documentation gives them.
use Rattle.std.specs.Prelude.{ℕ, ◌+◌, ◌*◌, ◌%◌}

-- the state of the random numbers that comes after x
abbrev pub after : ℕ → ℕ
after x = (x * 1103515245 + 12345) % 2147483648

-- the checksum h with v mixed in
abbrev pub mixed : ℕ → ℕ → ℕ
mixed h v = (h * 1000003 + v + 1) % 4294967291
