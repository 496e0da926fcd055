-- At the loop's head the words from entry j on are looked at, and what is kept is the leftmost change among them.
use Rattle.meaning.specs.Words.{Word, Words}
use Rattle.listing.specs.Positions.{Giving}
use Rattle.listing.proofs.Leftmost.{Leftmost}
use Rattle.listing.proofs.changing.change_of.Given as goal

abbrev pub invariant-loop-j : goal.invariant-loop-j
invariant-loop-j l =
    (X : Words) (t : Word) → Giving X t l.table l.states l.counts l.m l.reading l.k
    → Leftmost X t l.table l.states l.reading l.k l.i l.j l.change
