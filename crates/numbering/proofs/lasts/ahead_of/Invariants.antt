-- At the loop's head the words passed are others, and `number` readings end with them.
use Rattle.meaning.specs.Words.{Word, Words}
use Rattle.tree.proofs.Chain.{letters_left}
use Rattle.numbering.specs.Numbers.{Counted}
use Rattle.numbering.proofs.Walks.{Finding}
use Rattle.numbering.proofs.lasts.ahead_of.Given as goal

abbrev pub invariant-loop-state : goal.invariant-loop-state
invariant-loop-state l =
    (X : Words) (t : Word) → Counted X t l.table l.states l.counts l.i → Finding X t l.table l.counts l.i l.w l.state l.number

abbrev pub decreases-loop-state : goal.decreases-loop-state
decreases-loop-state l = letters_left l.table l.state
