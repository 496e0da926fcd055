-- What the scan asks, tells and leaves, and when lent columns are those it leaves.
use Rattle.std.specs.Prelude.{◌≡◌, Bool, false, List, ℕ, suc, ◌*◌, ◌≤◌, ◌<◌, eqb, length, get_or, take, if◌then◌else◌}
use Rattle.meaning.specs.Numbers.{longest_text}
use Rattle.meaning.specs.Words.{Word, Words, same}
use Rattle.meaning.specs.Automaton.{longest_chain}
use Rattle.meaning.specs.Table.{over}
use Rattle.meaning.specs.Readings.{count_at, state_column, count_column, probes, farthest}
use Rattle.tree.specs.Tree.{IsTable}

-- the table is that of X, the text is not too long, and the columns have an entry for each of its positions
pub record Room (X : Words) (t : Word) (tb ss cs : List ℕ) : Type 0 where
  pub table : IsTable X tb
  pub short : length t ≤ longest_text
  pub states : length t < length ss
  pub counts : length t < length cs

-- the columns are written, and what is told is right
pub record Scans (X : Words) (t : Word) (ss ss' cs cs' : List ℕ) (f c p : ℕ) : Type 0 where
  pub states : ss' ≡ over (state_column X t) ss
  pub counts : cs' ≡ over (count_column X t) cs
  pub far : f ≡ farthest X t
  pub count : c ≡ count_at X t (length t)
  pub probed : p ≡ probes X t
  pub bound : p ≤ longest_chain X * length t

-- the columns have s and c at position i
abbrev pub holds_at : List ℕ → List ℕ → ℕ → ℕ → ℕ → Bool
holds_at ss cs i s c = if eqb (get_or ss i 0) s then eqb (get_or cs i 0) c else false

-- the lists begin with the columns of the text t
abbrev pub are_columns : Words → Word → List ℕ → List ℕ → Bool
are_columns X t ss cs =
    if same (take (suc (length t)) ss) (state_column X t)
    then same (take (suc (length t)) cs) (count_column X t)
    else false
