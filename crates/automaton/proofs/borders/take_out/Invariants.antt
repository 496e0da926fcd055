use Rattle.meaning.specs.Words.{Words}
use Rattle.tree.proofs.Walk.{left}
use Rattle.automaton.specs.Queue.{Taking}
use Rattle.automaton.proofs.Joining.{Filling}
use Rattle.automaton.proofs.borders.take_out.Given as goal

abbrev pub invariant-loop-c : goal.invariant-loop-c
invariant-loop-c l =
    (X S : Words) → Taking X S l.initial.table l.index l.initial.queue.items l.p
    → Filling X S l.initial.table l.table l.index l.initial.queue.items l.queue.items l.p l.c

abbrev pub decreases-loop-c : goal.decreases-loop-c
decreases-loop-c l = left l.table l.c
