use Rattle.meaning.specs.Words.{Words, word}
use Rattle.meaning.specs.Table.{depth_field}
use Rattle.tree.specs.Layout.{field_at}
use Rattle.tree.specs.Filling.{Bordered}
use Rattle.tree.proofs.Climb.{Climbing}
use Rattle.tree.proofs.stepping.step.Given as goal

abbrev pub invariant-loop-v : goal.invariant-loop-v
invariant-loop-v l = (X S : Words) → Bordered X S l.table l.index l.s → Climbing X S l.table l.index (word S l.s) l.a l.v

abbrev pub decreases-loop-v : goal.decreases-loop-v
decreases-loop-v l = field_at l.table l.v depth_field
