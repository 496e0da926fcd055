-- At the loop's head the words passed are others.
use Rattle.std.proofs.Common.{◌≡◌, List, ℕ}
use Rattle.meaning.specs.Words.{Words}
use Rattle.tree.proofs.Chain.{letters_left}
use Rattle.listing.specs.Positions.{words_at, sought, Walking}
use Rattle.listing.proofs.ending.find_word.Given as goal

pub record Seeking (X : Words) (tb : List ℕ) (v n u : ℕ) : Type 0 where
  pub walking : Walking X tb u
  pub same : sought n (words_at X v) ≡ sought n (words_at X u)

abbrev pub invariant-loop-u : goal.invariant-loop-u
invariant-loop-u l = (X : Words) → Walking X l.table l.v → Seeking X l.table l.v l.n l.u

abbrev pub decreases-loop-u : goal.decreases-loop-u
decreases-loop-u l = letters_left l.table l.u
