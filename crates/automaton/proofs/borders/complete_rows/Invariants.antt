use Rattle.std.proofs.Common.{◌-◌, length}
use Rattle.meaning.specs.Numbers.{most_states}
use Rattle.meaning.specs.Words.{Words}
use Rattle.tree.specs.Insertion.{Growing}
use Rattle.automaton.proofs.Breadth.{Going}
use Rattle.automaton.proofs.borders.complete_rows.Given as goal

abbrev pub invariant-loop-head : goal.invariant-loop-head
invariant-loop-head l =
    (X S : Words) → Growing X S l.initial.table l.index (length S) → Going X S l.initial.table l.table l.index l.queue.items l.head

abbrev pub decreases-loop-head : goal.decreases-loop-head
decreases-loop-head l = most_states - l.head
