-- At the loop's head the first i letters are viable.
use Rattle.std.proofs.Common.{◌≡◌, length}
use Rattle.meaning.specs.Words.{Word, Words}
use Rattle.columns.specs.Columns.{Scanned}
use Rattle.columns.proofs.Reach.{Reaching}
use Rattle.columns.proofs.reaching.farthest.Given as goal

abbrev pub invariant-loop-i : goal.invariant-loop-i
invariant-loop-i l = (X : Words) (t : Word) → Scanned X t l.table l.states l.counts → l.n ≡ length t → Reaching X t l.i
