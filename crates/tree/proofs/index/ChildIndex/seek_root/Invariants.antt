use Rattle.meaning.specs.Words.{Words, word}
use Rattle.meaning.proofs.Children.{NoChild}
use Rattle.tree.specs.Index.{IndexedAt}
use Rattle.tree.proofs.index.ChildIndex.seek_root.Given as goal

abbrev pub invariant-loop-b : goal.invariant-loop-b
invariant-loop-b l = (X S : Words) → IndexedAt X S l.table l.self 0 → NoChild S (word S 0) l.b l.a
