use Rattle.std.proofs.Common.{◌≡◌, length}
use Rattle.meaning.specs.Words.{Words}
use Rattle.tree.specs.Tree.{Whole}
use Rattle.tree.proofs.Chain.{LongestTo}
use Rattle.tree.proofs.chains.longest_chain.Given as goal

abbrev pub invariant-loop-s : goal.invariant-loop-s
invariant-loop-s l = (X S : Words) → Whole X S l.table → l.n ≡ length S → LongestTo X S l.longest l.s
