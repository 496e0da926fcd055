use Rattle.std.proofs.Common.{◌≡◌, length}
use Rattle.arrayvec.specs.ArrayVec.{array_vec_len}
use Rattle.second.proofs.readings.+tell_readings.Given as goal

-- each recursion's text is shorter
abbrev pub decreases-tell_readings : goal.decreases-tell_readings
decreases-tell_readings _ l = length l.text.now

abbrev pub invariant-loop-start : goal.invariant-loop-start
invariant-loop-start g l =
    goal.F-IsAlwaysCallable g l.tell × (array_vec_len l.after ≡ array_vec_len l.initial.after)
