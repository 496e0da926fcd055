use Rattle.std.proofs.Common.{length, ◌≤◌, ◌*◌, ◌-◌}
use Rattle.std.specs.List.{sum_by}
use Rattle.arrayvec.specs.ArrayVec.{array_vec_len}
use Rattle.second.proofs.records.parse.Given as goal

abbrev pub invariant-loop-at : goal.invariant-loop-at
invariant-loop-at l =
    (l.at ≤ length l.dictionary) × (4 * array_vec_len l.words ≤ l.at) × (sum_by (λ word. length word.now) l.words.items ≤ l.at)

abbrev pub decreases-loop-at : goal.decreases-loop-at
decreases-loop-at l = length l.dictionary - l.at
