-- At the loop's head p letters are left to read, and n words stand behind them.
use Rattle.std.proofs.Common.{◌≡◌, ◌+◌, ◌≤◌, length, List, ℕ}
use Rattle.meaning.specs.Words.{Word, Words}
use Rattle.meaning.specs.Listing.{first_reading}
use Rattle.listing.specs.Positions.{Readable}
use Rattle.listing.proofs.leading.first_length.Given as goal

pub record Going (X : Words) (t : Word) (tb ss cs : List ℕ) (i n p : ℕ) : Type 0 where
  pub readable : Readable X t tb ss cs p
  pub count : n + length (first_reading X t p) ≡ length (first_reading X t i)
  pub small : n + p ≤ i

abbrev pub invariant-loop-v : goal.invariant-loop-v
invariant-loop-v l = (X : Words) (t : Word) → Readable X t l.table l.states l.counts l.i → Going X t l.table l.states l.counts l.i l.n l.p

abbrev pub decreases-loop-v : goal.decreases-loop-v
decreases-loop-v l = l.p
