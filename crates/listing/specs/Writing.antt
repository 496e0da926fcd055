-- What is written to a buffer.
use Rattle.std.specs.Prelude.{◌≡◌, List, ℕ, ◌≤◌, ◌<◌, length}
use Rattle.meaning.specs.Words.{Word, Words, Reading}
use Rattle.meaning.specs.Table.{over}
use Rattle.meaning.specs.Listing.{first_reading}
use Rattle.listing.specs.Positions.{Readable}

-- the first reading of the first i letters fits the buffer
pub record FirstFits (X : Words) (t : Word) (tb ss cs : List ℕ) (i : ℕ) (buffer : List ℕ) : Type 0 where
  pub readable : Readable X t tb ss cs i
  pub room : length (first_reading X t i) ≤ length buffer

-- .. with one word more
pub record MoreFits (X : Words) (t : Word) (tb ss cs : List ℕ) (i : ℕ) (buffer : List ℕ) : Type 0 where
  pub readable : Readable X t tb ss cs i
  pub room : length (first_reading X t i) < length buffer

-- the words ws are written over a buffer, and counted
pub record Written (ws : Reading) (before after : List ℕ) (r : ℕ) : Type 0 where
  pub count : r ≡ length ws
  pub list : after ≡ over ws before
