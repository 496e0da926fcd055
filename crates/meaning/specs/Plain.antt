-- The notions of document 01 and source document 000 said plainly. Theorems tie to them what the other files compute.
use Rattle.std.specs.Prelude.{◌≡◌, ◌≢◌, ℕ, ◌≤◌, ◌<◌, length, get_or, take}
use Rattle.std.proofs.Math.Option.{some}
use mathlib.Core.List.{List, [], ◌∷◌, ◌++◌, Memᴰ}
use Rattle.meaning.specs.Numbers.{letter_values, most_words, longest_word, most_letters}
use Rattle.meaning.specs.Words.{Word, Words, Reading, find, word, size, total, joined}

-- u is one of the words Y
pub record Has (Y : Words) (u : Word) : Type 0 where
  pub place : ℕ
  pub found : find Y u ≡ some place

-- no word stands at two places
abbrev pub Distinct : Words → Type 0
Distinct Y = (i j : ℕ) → i < length Y → j < length Y → word Y i ≡ word Y j → i ≡ j

abbrev pub Each : (Word → Type 0) → Words → Type 0
Each P Y = (n : ℕ) → n < length Y → P (word Y n)

-- each element stands in the relation R to every later one
abbrev pub Ordered : {A : Type 0} → (A → A → Type 0) → List A → Type 0
Ordered R [] = Unit {0}
Ordered {A} R (x ∷ l) = ((y : A) → Memᴰ y l → R x y) × Ordered R l

-- no word is empty, and no two are equal
pub record Dictionary (X : Words) : Type 0 where
  pub nonempty : (n : ℕ) → n < length X → 1 ≤ size X n
  pub distinct : Distinct X

-- .. within the limits
pub record Storable (X : Words) : Type 0 where
  pub dictionary : Dictionary X
  pub short : Each (λ w. length w ≤ longest_word) X
  pub few : length X ≤ most_words
  pub small : total X ≤ most_letters

abbrev pub LettersBelow : ℕ → Word → Type 0
LettersBelow c u = (i : ℕ) → i < length u → get_or u i 0 < c

-- .. of bytes
pub record Allowed (X : Words) : Type 0 where
  pub storable : Storable X
  pub letters : Each (LettersBelow letter_values) X

pub record Prefix (v u : Word) : Type 0 where
  pub after : Word
  pub joins : v ++ after ≡ u

pub record ProperPrefix (v u : Word) : Type 0 where
  pub prefix : Prefix v u
  pub proper : v ≢ u

pub record Suffix (v u : Word) : Type 0 where
  pub before : Word
  pub joins : before ++ v ≡ u

pub record ProperSuffix (v u : Word) : Type 0 where
  pub suffix : Suffix v u
  pub proper : v ≢ u

-- no word of X is so to another: a proper prefix of it, or a proper suffix
abbrev pub NoneIs : (Word → Word → Type 0) → Words → Type 0
NoneIs So X = (i j : ℕ) → i < length X → j < length X → So (word X i) (word X j) → ⊥

-- Pref(X), with the empty prefix even where X has no word
pub data PrefixIn (X : Words) (u : Word) : Type 0 where
  empty : u ≡ [] → PrefixIn X u
  of : (n : ℕ) → n < length X → Prefix u (word X n) → PrefixIn X u

-- v is the longest of the words Y that are suffixes, or proper suffixes, of u
pub record LongestIn (Ends : Word → Word → Type 0) (Y : Words) (u v : Word) : Type 0 where
  pub member : Has Y v
  pub ends : Ends v u
  pub longest : (w : Word) → Has Y w → Ends w u → length w ≤ length v

-- word n is a suffix of u
pub record EndsWith (X : Words) (u : Word) (n : ℕ) : Type 0 where
  pub below : n < length X
  pub suffix : Suffix (word X n) u

-- word m is shorter than word n
abbrev pub Shorter : Words → ℕ → ℕ → Type 0
Shorter X n m = size X m < size X n

-- word n ends at position i of the text t
pub record Probe (X : Words) (t : Word) (i n : ℕ) : Type 0 where
  pub inside : i ≤ length t
  pub ends : EndsWith X (take i t) n

-- ns is a reading of u
pub record IsReading (X : Words) (u : Word) (ns : Reading) : Type 0 where
  pub below : (n : ℕ) → Memᴰ n ns → n < length X
  pub joins : joined X ns ≡ u

-- every text has at most one reading
abbrev pub Unambiguous : Words → Type 0
Unambiguous X = (u : Word) (ns ms : Reading) → IsReading X u ns → IsReading X u ms → ns ≡ ms

-- from their last words backwards ns and ms agree, up to the words n and m, of which n is longer
pub record Before (X : Words) (ns ms : Reading) : Type 0 where
  pub front₁ : Reading
  pub front₂ : Reading
  pub n : ℕ
  pub m : ℕ
  pub rest : Reading
  pub first : ns ≡ front₁ ++ n ∷ rest
  pub second : ms ≡ front₂ ++ m ∷ rest
  pub longer : Shorter X n m

-- X*
pub data Star (X : Words) : Word → Type 0 where
  empty : Star X []
  more : {w u v : Word} → Has X w → Star X u → v ≡ w ++ u → Star X v

-- u is a prefix of some concatenation of words
pub record Viable (X : Words) (u : Word) : Type 0 where
  pub whole : Word
  pub star : Star X whole
  pub prefix : Prefix u whole

-- p is the greatest length of a prefix of t that is also a prefix of some concatenation of words
pub record Farthest (X : Words) (t : Word) (p : ℕ) : Type 0 where
  pub within : p ≤ length t
  pub reached : Viable X (take p t)
  pub greatest : (j : ℕ) → j ≤ length t → Viable X (take j t) → j ≤ p
