-- The columns of a text beside the table of its dictionary.
use Rattle.std.specs.Prelude.{◌≡◌, List, ℕ, suc, length, take}
use Rattle.meaning.specs.Words.{Word, Words}
use Rattle.meaning.specs.Readings.{state_column, count_column}
use Rattle.tree.specs.Tree.{IsTable}

-- the lists begin with the columns of the text t
pub record Columns (X : Words) (t : Word) (ss cs : List ℕ) : Type 0 where
  pub states : take (suc (length t)) ss ≡ state_column X t
  pub counts : take (suc (length t)) cs ≡ count_column X t

-- .. and the table with the rows of X
pub record Scanned (X : Words) (t : Word) (tb ss cs : List ℕ) : Type 0 where
  pub table : IsTable X tb
  pub columns : Columns X t ss cs
