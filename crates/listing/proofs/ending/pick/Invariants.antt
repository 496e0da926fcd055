-- At the loop's head the word looked for is among those from u on.
use Rattle.std.proofs.Common.{◌≡◌, List, ℕ}
use Rattle.meaning.specs.Words.{Word, Words}
use Rattle.meaning.specs.Listing.{pick}
use Rattle.tree.proofs.Chain.{letters_left}
use Rattle.listing.specs.Positions.{words_at, Ending}
use Rattle.listing.proofs.ending.pick.Given as goal

pub record Going (X : Words) (t : Word) (tb cs : List ℕ) (v i u : ℕ) : Type 0 where
  pub ending : Ending X t tb cs u i
  pub same : pick X t i (words_at X v) ≡ pick X t i (words_at X u)

abbrev pub invariant-loop-u : goal.invariant-loop-u
invariant-loop-u l = (X : Words) (t : Word) → Ending X t l.table l.counts l.v l.i → Going X t l.table l.counts l.v l.i l.u

abbrev pub decreases-loop-u : goal.decreases-loop-u
decreases-loop-u l = letters_left l.table l.u
