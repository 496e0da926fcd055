-- At the loop's head the entries up to position i are those of the text.
use Rattle.meaning.specs.Words.{Words}
use Rattle.letters.specs.Letters.{mapped}
use Rattle.columns.specs.Scans.{Room}
use Rattle.columns.proofs.Agreeing.{Agree}
use Rattle.columns.proofs.checking.are_columns.Given as goal

abbrev pub invariant-loop-i : goal.invariant-loop-i
invariant-loop-i l = (X : Words) → Room X (mapped l.map l.text) l.table l.states l.counts → Agree X (mapped l.map l.text) l.states l.counts l.s l.i
