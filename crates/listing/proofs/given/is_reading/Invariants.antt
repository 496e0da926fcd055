-- At the loop's head the words still to be read have to read the first i letters.
use Rattle.std.proofs.Common.{length}
use Rattle.meaning.specs.Words.{Word, Words}
use Rattle.listing.specs.Positions.{Given}
use Rattle.listing.proofs.Backwards.{Back, Left}
use Rattle.listing.proofs.given.is_reading.Given as goal

abbrev pub invariant-loop-w : goal.invariant-loop-w
invariant-loop-w l =
    (X : Words) (t : Word) → Given X t l.table l.states l.m l.reading l.k
    → let rest = l.w-iterator.iter.rest.now in
    Back X t l.table l.states l.reading l.k l.i (length rest) × Left l.reading rest
