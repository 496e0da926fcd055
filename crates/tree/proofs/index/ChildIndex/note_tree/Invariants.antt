use Rattle.meaning.specs.Words.{Words}
use Rattle.tree.specs.Tree.{Tree}
use Rattle.tree.proofs.Walk.{left}
use Rattle.tree.proofs.Indexing.{Rowing}
use Rattle.tree.proofs.index.ChildIndex.note_tree.Given as goal

abbrev pub invariant-loop-c : goal.invariant-loop-c
invariant-loop-c l = (X S : Words) → Tree X S l.table → Rowing S l.self l.c

abbrev pub decreases-loop-c : goal.decreases-loop-c
decreases-loop-c l = left l.table l.c
