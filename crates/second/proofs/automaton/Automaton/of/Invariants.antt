use Rattle.std.proofs.Common.{◌≤◌, ◌+◌, take, length}
use Rattle.std.specs.List.{sum_by}
use Rattle.arrayvec.specs.ArrayVec.{array_vec_len}
use Rattle.second.proofs.automaton.Automaton.of.Given as goal

-- one state for each letter of the words before, and the empty one
abbrev pub invariant-loop-word : goal.invariant-loop-word
invariant-loop-word l = array_vec_len l.states ≤ 1 + sum_by (λ word. length word.now) (take l.word-index l.words)
