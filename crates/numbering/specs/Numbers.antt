-- Readings by their numbers in the list, where the counts are exact.
use Rattle.std.specs.Prelude.{◌≡◌, Option, None, Some, ℕ, ◌+◌, ◌-◌, ◌≤◌, ◌<◌, leb, length, get_or, take, if◌then◌else◌}
use mathlib.Core.List.{List, [], ◌∷◌, ◌++◌, Memᴰ}
use Rattle.meaning.specs.Numbers.{most_counted}
use Rattle.meaning.specs.Words.{Word, Words, Reading, snoc, size}
use Rattle.meaning.specs.Automaton.{chain}
use Rattle.meaning.specs.Table.{over}
use Rattle.meaning.specs.Readings.{readings_to}
use Rattle.listing.specs.Positions.{IsWord, ScannedAt, Whole}
use Rattle.numbering.specs.declared.lasts.Chosen.{Chosen}

-- the count at position i is the number of readings there
abbrev pub Exact : Words → Word → ℕ → Type 0
Exact X t i = length (readings_to X t i) < most_counted

-- the readings of the first j letters that are one of the first i and then the words ms stand together, in the same order, from number p on
pub record Together (X : Words) (t : Word) (i j : ℕ) (ms : Reading) (p : ℕ) : Type 0 where
  pub room : p + length (readings_to X t i) ≤ length (readings_to X t j)
  pub each : (l : ℕ) → l < length (readings_to X t i) → get_or (readings_to X t j) (p + l) [] ≡ get_or (readings_to X t i) l [] ++ ms

-- table and columns are right, and the count at position i is exact
pub record Counted (X : Words) (t : Word) (tb ss cs : List ℕ) (i : ℕ) : Type 0 where
  pub at : ScannedAt X t tb ss cs i
  pub exact : Exact X t i

-- .. and n is the number of a reading there
pub record Numbered (X : Words) (t : Word) (tb ss cs : List ℕ) (i n : ℕ) : Type 0 where
  pub counted : Counted X t tb ss cs i
  pub below : n < length (readings_to X t i)

-- the same at the end of the text of m letters
pub record Exactly (X : Words) (t : Word) (tb ss cs : List ℕ) (m : ℕ) : Type 0 where
  pub whole : Whole X t tb ss cs m
  pub exact : Exact X t (length t)

-- reading n of the first i letters ends with the word at `state`, and the words before it are reading `number` of the letters before it
pub record LastOf (X : Words) (t : Word) (i n state number : ℕ) : Type 0 where
  pub word : ℕ
  pub is : IsWord X state word
  pub in_chain : Memᴰ word (chain X (take i t))
  pub exact : Exact X t (i - size X word)
  pub below : number < length (readings_to X t (i - size X word))
  pub reading : get_or (readings_to X t i) n [] ≡ snoc (get_or (readings_to X t (i - size X word)) number []) word

-- `state` is that of word w, which ends at position i, and the readings that end with w stand from `number` on
pub record Ahead (X : Words) (t : Word) (i w state number : ℕ) : Type 0 where
  pub in_chain : Memᴰ w (chain X (take i t))
  pub is : IsWord X state w
  pub together : Together X t (i - size X w) i (w ∷ []) number

-- the state of word w and where its readings stand, if it ends at position i
abbrev pub AheadOf : Words → Word → ℕ → ℕ → Option Chosen → Type 0
AheadOf X t i w None = Memᴰ w (chain X (take i t)) → ⊥
AheadOf X t i w (Some c) = Ahead X t i w c.state c.number

-- the words ws, and `more` besides, are counted, and ws are written over a buffer where all of them fit it
pub record WrittenIf (ws : Reading) (more : ℕ) (before after : List ℕ) (r : ℕ) : Type 0 where
  pub total : r ≡ length ws + more
  pub list : after ≡ (if leb r (length before) then over ws before else before)
