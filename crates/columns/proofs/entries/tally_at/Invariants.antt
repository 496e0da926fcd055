-- At the loop's head the words of the chain before v are counted.
use Rattle.meaning.specs.Words.{Words}
use Rattle.columns.specs.Entries.{Ending}
use Rattle.columns.proofs.Tallying.{Tallying}
use Rattle.columns.proofs.entries.tally_at.Given as goal

abbrev pub invariant-loop : goal.invariant-loop
invariant-loop l = (X : Words) → Ending X l.table l.counts l.s l.i → Tallying X l.counts l.s l.i l.count l.counter l.v
