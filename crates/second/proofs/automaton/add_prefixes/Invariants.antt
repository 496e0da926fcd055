use Rattle.std.proofs.Common.{◌≤◌, ◌+◌}
use Rattle.arrayvec.specs.ArrayVec.{array_vec_len}
use Rattle.second.proofs.automaton.add_prefixes.Given as goal

-- one state more for each letter that was passed
abbrev pub invariant-loop-last : goal.invariant-loop-last
invariant-loop-last l = array_vec_len l.states ≤ array_vec_len l.initial.states + l.last
