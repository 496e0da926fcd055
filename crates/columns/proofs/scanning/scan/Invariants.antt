-- At the loop's head the entries up to position i are written. The loop begins after the first entries are, so its columns are the
-- lent ones with those set.
use Rattle.meaning.specs.Words.{Words}
use Rattle.letters.specs.Letters.{mapped}
use Rattle.columns.specs.Scans.{Room}
use Rattle.columns.proofs.Filling.{Filled}
use Rattle.columns.proofs.scanning.scan.Given as goal

abbrev pub invariant-loop-i : goal.invariant-loop-i
invariant-loop-i l =
    (X : Words) → Room X (mapped l.map l.text) l.table l.initial.states l.initial.counts
    → Filled X (mapped l.map l.text) l.initial.states l.states l.initial.counts l.counts l.count l.probes l.s l.i
