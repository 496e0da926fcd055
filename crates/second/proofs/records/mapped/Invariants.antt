use Rattle.std.proofs.Common.{◌≡◌}
use Rattle.arrayvec.specs.ArrayVec.{array_vec_len}
use Rattle.second.proofs.records.mapped.Given as goal

abbrev pub invariant-loop-b : goal.invariant-loop-b
invariant-loop-b _ l = array_vec_len l.letters ≡ l.b-index
