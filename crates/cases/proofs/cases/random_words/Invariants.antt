use Rattle.std.proofs.Common.{◌≡◌}
use Rattle.arrayvec.specs.ArrayVec.{array_vec_len}
use Rattle.cases.proofs.cases.random_words.Given as goal

abbrev pub invariant-loop : goal.invariant-loop
invariant-loop l = array_vec_len l.words ≡ l.counter
