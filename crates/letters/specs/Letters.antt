-- Letters: what a map of 256 numbers makes of bytes.
use Rattle.std.specs.Prelude.{◌≡◌, ℕ, zero, suc, ◌<◌, length, get_or, take, drop}
use mathlib.Core.List.{List, [], ◌∷◌, map, Memᴰ}
use Rattle.meaning.specs.Numbers.{letter_values}
use Rattle.meaning.specs.Words.{Word, Words, Reading, joined}

-- the letter of a byte; 0 past the map's end
abbrev pub letter : List ℕ → ℕ → ℕ
letter m x = get_or m x 0

-- the word or text whose bytes these are
abbrev pub mapped : List ℕ → List ℕ → Word
mapped m u = map (letter m) u

-- bytes that are equal under the map
abbrev pub Alike : List ℕ → List ℕ → List ℕ → Type 0
Alike m u v = mapped m u ≡ mapped m v

-- bytes that are so to one another under the map: one a proper prefix of the other, say
abbrev pub Under : (Word → Word → Type 0) → List ℕ → List ℕ → List ℕ → Type 0
Under So m v u = So (mapped m v) (mapped m u)

-- ns is a reading of the bytes u, by words whose bytes are W
pub record ReadsUnder (m : List ℕ) (W : Words) (u : List ℕ) (ns : Reading) : Type 0 where
  pub below : (n : ℕ) → Memᴰ n ns → n < length W
  pub joins : Alike m (joined W ns) u

-- n numbers from k on
abbrev pub count_from : ℕ → ℕ → List ℕ
count_from k zero = []
count_from k (suc n) = k ∷ count_from (suc k) n

-- the map that sends each byte to itself
unfoldable pub identity : List ℕ
identity = count_from 0 letter_values

-- the n bytes from an offset on
abbrev pub part : List ℕ → ℕ → ℕ → List ℕ
part b at n = take n (drop at b)
