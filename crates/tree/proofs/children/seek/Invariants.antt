use Rattle.meaning.specs.Words.{Words, word}
use Rattle.tree.specs.Tree.{AtState}
use Rattle.tree.proofs.Walk.{Seeking, left}
use Rattle.tree.proofs.children.seek.Given as goal

abbrev pub invariant-loop-next : goal.invariant-loop-next
invariant-loop-next l = (X S : Words) → AtState X S l.table l.p → Seeking S (word S l.p) l.a l.before l.next

abbrev pub decreases-loop-next : goal.decreases-loop-next
decreases-loop-next l = left l.table l.next
