-- A text of which table and columns are right, its positions, and the words that end there.
use Rattle.std.specs.Prelude.{◌≡◌, true, Option, None, Some, ℕ, suc, ◌≤◌, ◌<◌, eqb, length, take, if◌then◌else◌}
use Rattle.std.proofs.Math.Option.{Option as Maybe, none, some}
use mathlib.Core.List.{List, [], ◌∷◌, Memᴰ}
use Rattle.meaning.specs.Words.{Word, Words, find, word}
use Rattle.meaning.specs.Automaton.{states, chain}
use Rattle.meaning.specs.Readings.{readable, state_column, count_column}
use Rattle.meaning.specs.Plain.{IsReading}
use Rattle.tree.specs.Tree.{IsTable}
use Rattle.tree.proofs.Chain.{OnChain}
use Rattle.columns.specs.Columns.{Scanned}

-- the words on the chain from state v on; no words where v is none
abbrev pub words_at : Words → ℕ → List ℕ
words_at X v = chain X (word (states X) v)

-- n, if it is one of the words c
abbrev pub sought : ℕ → List ℕ → Maybe ℕ
sought n [] = none
sought n (m ∷ c) = if eqb m n then some m else sought n c

-- state v is word n
pub record IsWord (X : Words) (v n : ℕ) : Type 0 where
  pub inside : v < length (states X)
  pub is : find X (word (states X) v) ≡ some n

-- the state of the word, if there is one
abbrev pub StateOf : Words → Maybe ℕ → Option ℕ → Type 0
StateOf X o None = o ≡ none
StateOf X o (Some v) = (n : ℕ) × (o ≡ some n) × IsWord X v n

-- v is where a walk along a chain stands
pub record Walking (X : Words) (tb : List ℕ) (v : ℕ) : Type 0 where
  pub table : IsTable X tb
  pub on : OnChain X (states X) v

-- the table has the rows of X, and the states begin with those of the text t
pub record Stated (X : Words) (t : Word) (tb ss : List ℕ) : Type 0 where
  pub table : IsTable X tb
  pub states : take (suc (length t)) ss ≡ state_column X t

-- .. and i is a position of it
pub record Placed (X : Words) (t : Word) (tb ss : List ℕ) (i : ℕ) : Type 0 where
  pub stated : Stated X t tb ss
  pub place : i ≤ length t

-- the words on the chain from v on end at position i, and the counts begin with those of t
pub record Ending (X : Words) (t : Word) (tb cs : List ℕ) (v i : ℕ) : Type 0 where
  pub walking : Walking X tb v
  pub counts : take (suc (length t)) cs ≡ count_column X t
  pub place : i ≤ length t
  pub ends : (n : ℕ) → Memᴰ n (words_at X v) → Memᴰ n (chain X (take i t))

-- table and both columns are right, and i is a position
pub record ScannedAt (X : Words) (t : Word) (tb ss cs : List ℕ) (i : ℕ) : Type 0 where
  pub scanned : Scanned X t tb ss cs
  pub place : i ≤ length t

-- .. up to which the text has a reading
pub record Readable (X : Words) (t : Word) (tb ss cs : List ℕ) (i : ℕ) : Type 0 where
  pub at : ScannedAt X t tb ss cs i
  pub reads : readable X t i ≡ true

-- the whole text of m letters
pub record Whole (X : Words) (t : Word) (tb ss cs : List ℕ) (m : ℕ) : Type 0 where
  pub scanned : Scanned X t tb ss cs
  pub long : m ≡ length t

-- the first k entries of a buffer are given for the text of m letters
pub record Given (X : Words) (t : Word) (tb ss : List ℕ) (m : ℕ) (buffer : List ℕ) (k : ℕ) : Type 0 where
  pub stated : Stated X t tb ss
  pub long : m ≡ length t
  pub room : k ≤ length buffer

-- .. and are a reading of it
pub record Giving (X : Words) (t : Word) (tb ss cs : List ℕ) (m : ℕ) (buffer : List ℕ) (k : ℕ) : Type 0 where
  pub whole : Whole X t tb ss cs m
  pub room : k ≤ length buffer
  pub reads : IsReading X t (take k buffer)
