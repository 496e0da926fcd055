use Rattle.meaning.specs.Words.{Words, word}
use Rattle.tree.specs.Tree.{AtState}
use Rattle.tree.proofs.Walk.{left}
use Rattle.tree.proofs.Indexing.{Indexing}
use Rattle.tree.proofs.index.ChildIndex.note_children.Given as goal

abbrev pub invariant-loop-c : goal.invariant-loop-c
invariant-loop-c l = (X S : Words) → AtState X S l.table l.p → Indexing S (word S l.p) l.k l.initial.self l.self l.c

abbrev pub decreases-loop-c : goal.decreases-loop-c
decreases-loop-c l = left l.table l.c
