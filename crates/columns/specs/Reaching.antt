-- What the functions that find how far a text can be read ask and leave.
use Rattle.std.specs.Prelude.{◌≡◌, List, ℕ, suc, ◌≤◌, ◌<◌, length, get_or, take}
use Rattle.meaning.specs.Words.{Word, Words}
use Rattle.meaning.specs.Readings.{state_at, count_column}
use Rattle.tree.specs.Tree.{IsTable}

-- the counts up to position n, of which the first isn't 0
pub record Counted (cs : List ℕ) (n : ℕ) : Type 0 where
  pub long : n < length cs
  pub first : 0 < get_or cs 0 0

-- r is the last of these positions whose count isn't 0
pub record LastRead (cs : List ℕ) (n r : ℕ) : Type 0 where
  pub within : r ≤ n
  pub read : 0 < get_or cs r 0
  pub unread : (j : ℕ) → r < j → j ≤ n → get_or cs j 0 ≡ 0

-- s is the state at position i of the text t, and the counts are its column
pub record Standing (X : Words) (t : Word) (tb cs : List ℕ) (s i : ℕ) : Type 0 where
  pub table : IsTable X tb
  pub place : i ≤ length t
  pub state : s ≡ state_at X t i
  pub counts : take (suc (length t)) cs ≡ count_column X t
