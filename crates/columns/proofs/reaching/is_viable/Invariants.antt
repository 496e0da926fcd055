-- At the loop's head no state on the climb before v has a reading before it.
use Rattle.meaning.specs.Words.{Word, Words}
use Rattle.meaning.specs.Table.{depth_field}
use Rattle.meaning.proofs.Farthest.{Climbed}
use Rattle.tree.specs.Layout.{field_at}
use Rattle.columns.specs.Reaching.{Standing}
use Rattle.columns.proofs.reaching.is_viable.Given as goal

abbrev pub invariant-loop-s : goal.invariant-loop-s
invariant-loop-s l = (X : Words) (t : Word) → Standing X t l.table l.counts l.s l.i → Climbed X t l.i l.v

abbrev pub decreases-loop-s : goal.decreases-loop-s
decreases-loop-s l = field_at l.table l.v depth_field
