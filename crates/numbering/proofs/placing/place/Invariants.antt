-- At the loop's head the words still to be read have to read the first i letters, and the readings that end with those behind them
-- stand from number n on.
use Rattle.std.proofs.Common.{length}
use Rattle.meaning.specs.Words.{Word, Words}
use Rattle.listing.proofs.Backwards.{Left}
use Rattle.numbering.specs.Numbers.{Exactly}
use Rattle.numbering.proofs.Sums.{Summing}
use Rattle.numbering.proofs.placing.place.Given as goal

abbrev pub invariant-loop-w : goal.invariant-loop-w
invariant-loop-w l =
    (X : Words) (t : Word) → Exactly X t l.table l.states l.counts l.m
    → let rest = l.w-iterator.iter.rest.now in
    Summing X t l.table l.states l.reading l.k l.i (length rest) l.n × Left l.reading rest
