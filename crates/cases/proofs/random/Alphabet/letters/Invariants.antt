use Rattle.std.proofs.Common.{◌≡◌}
use Rattle.arrayvec.specs.ArrayVec.{array_vec_len}
use Rattle.cases.proofs.random.Alphabet.letters.Given as goal

abbrev pub invariant-loop : goal.invariant-loop
invariant-loop _ l = array_vec_len l.word ≡ l.counter
