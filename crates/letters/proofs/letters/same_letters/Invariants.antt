use Rattle.std.proofs.Common.{◌≡◌, ◌<◌, ℕ, get_or}
use Rattle.letters.specs.Letters.{letter, part}
use Rattle.letters.proofs.letters.same_letters.Given as goal

abbrev pub invariant-loop-i : goal.invariant-loop-i
invariant-loop-i l =
    (k : ℕ) → k < l.i → letter l.map (get_or (part l.bytes l.p l.n) k 0) ≡ letter l.map (get_or (part l.bytes l.q l.n) k 0)
