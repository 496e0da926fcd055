-- At the loop's head no position after i has a reading.
use Rattle.std.proofs.Common.{◌≡◌, ◌<◌, ◌≤◌, ℕ, slice_index_or}
use Rattle.columns.proofs.reaching.last_read.Given as goal

abbrev pub invariant-loop-i : goal.invariant-loop-i
invariant-loop-i l = (j : ℕ) → l.i < j → j ≤ l.n → slice_index_or l.counts j 0 ≡ 0
