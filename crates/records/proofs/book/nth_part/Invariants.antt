-- the first texts are those up to here
use Rattle.records.proofs.Blocks.{Going}
use Rattle.records.proofs.book.nth_part.Given as goal

abbrev pub invariant-loop : goal.invariant-loop
invariant-loop l = Going l.book l.start l.counter l.at
