use Rattle.std.proofs.Common.{length, ◌≤◌}
use Rattle.second.proofs.scan.most_in_common.Given as goal

abbrev pub invariant-loop-word : goal.invariant-loop-word
invariant-loop-word l = l.most ≤ length l.rest
