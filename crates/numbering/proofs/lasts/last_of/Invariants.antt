-- At the loop's head the reading looked for ends with a word from `state` on, as `number` of those.
use Rattle.std.proofs.Common.{◌≡◌}
use Rattle.meaning.specs.Words.{Word, Words}
use Rattle.tree.proofs.Chain.{letters_left}
use Rattle.numbering.specs.Numbers.{Numbered}
use Rattle.numbering.proofs.Walks.{Seeking}
use Rattle.numbering.proofs.lasts.last_of.Given as goal

abbrev pub invariant-loop-number : goal.invariant-loop-number
invariant-loop-number l =
    (X : Words) (t : Word) → Numbered X t l.table l.states l.counts l.i l.n → (l.i ≡ 0 → ⊥)
    → Seeking X t l.table l.counts l.i l.n l.state l.number

abbrev pub decreases-loop-number : goal.decreases-loop-number
decreases-loop-number l = letters_left l.table l.state
