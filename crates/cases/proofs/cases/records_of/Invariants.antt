use Rattle.std.proofs.Common.{◌≤◌, ◌*◌}
use Rattle.arrayvec.specs.ArrayVec.{array_vec_len}
use Rattle.cases.proofs.cases.records_of.Given as goal

abbrev pub invariant-loop-word : goal.invariant-loop-word
invariant-loop-word l = array_vec_len l.records ≤ 7 * l.word-index
