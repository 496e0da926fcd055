-- What the functions that compute the entry at a position ask and leave.
use Rattle.std.specs.Prelude.{◌≡◌, List, ℕ, suc, ◌-◌, ◌≤◌, ◌<◌, length, get_or, take}
use Rattle.meaning.specs.Numbers.{letter_values}
use Rattle.meaning.specs.Words.{Word, Words, word, size}
use Rattle.meaning.specs.Automaton.{states, chain}
use Rattle.meaning.specs.Readings.{state_at, count_at, up_to}
use Rattle.meaning.proofs.Counts.{capped_sum}
use Rattle.tree.specs.Tree.{IsTable}
use Rattle.tree.specs.declared.index.ChildIndex.{ChildIndex}
use Rattle.tree.specs.Index.{Indexed}

-- r is the letter at place i of the text t
pub record LetterAt (t : Word) (i r : ℕ) : Type 0 where
  pub is : r ≡ get_or t i 0
  pub byte : r < letter_values

-- a state of at most i letters, and a count for each position before i
pub record Ending (X : Words) (tb cs : List ℕ) (s i : ℕ) : Type 0 where
  pub table : IsTable X tb
  pub inside : s < length (states X)
  pub fits : length (word (states X) s) ≤ i
  pub long : i ≤ length cs

-- the count before word n, which ends at position i
abbrev pub count_before : Words → List ℕ → ℕ → ℕ → ℕ
count_before X cs i n = get_or cs (i - size X n) 0

-- the counts before the words that end at state s and position i, added up, and how many words these are
pub record Tallied (X : Words) (cs : List ℕ) (s i c p : ℕ) : Type 0 where
  pub sum : c ≡ capped_sum (count_before X cs i) 0 (chain X (word (states X) s))
  pub number : p ≡ length (chain X (word (states X) s))

-- a letter stands at place i of the text, s is the state before it, and the counts up to position i are right
pub record Reached (X : Words) (t : Word) (tb : List ℕ) (index : ChildIndex) (cs : List ℕ) (s i : ℕ) : Type 0 where
  pub table : IsTable X tb
  pub indexed : Indexed (states X) index
  pub place : i < length t
  pub state : s ≡ state_at X t i
  pub counts : take (suc i) cs ≡ up_to (count_at X t) (suc i)

-- what the columns have at position i, and how many words end there
pub record IsEntry (X : Words) (t : Word) (i s c p : ℕ) : Type 0 where
  pub state : s ≡ state_at X t i
  pub count : c ≡ count_at X t i
  pub number : p ≡ length (chain X (take i t))
