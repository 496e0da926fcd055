-- Where the words of a dictionary stand in its bytes, and what its bytes are.
use Rattle.std.specs.Prelude.{◌≡◌, Ok, List, [], ◌∷◌, ◌++◌, ℕ, ◌+◌, ◌*◌, ◌≤◌, length, take}
use Rattle.meaning.specs.Numbers.{longest_word}
use Rattle.meaning.specs.Words.{Word, Words, total}
use Rattle.letters.specs.Letters.{mapped}
use Rattle.letters.specs.Record.{word_mark, record_at, word_at}
use Rattle.letters.specs.declared.record.Record.TheVariants as found

-- the records of the words X follow each other from the offset p on, up to the offset e
pub data Stands (m b : List ℕ) (e : ℕ) : ℕ → Words → Type 0 where
  stop : Stands m b e e []
  step : {p n : ℕ} {X : Words} → record_at b p ≡ Ok (found.Word n) → Stands m b e (p + 3 + n) X → Stands m b e p (word_at (mapped m) b p n ∷ X)

-- the words X, so many with so many letters, stand from the first byte up to the offset
pub record Before (m b : List ℕ) (at words letters : ℕ) (X : Words) : Type 0 where
  pub stands : Stands m b at 0 X
  pub count : length X ≡ words
  pub sum : total X ≡ letters

-- the offset of word k's record; past the last word, of the words' end
abbrev pub place : Words → ℕ → ℕ
place X k = 3 * k + total (take k X)

-- the record of the word w stands at an offset
pub record Holds (m b : List ℕ) (at : ℕ) (w : Word) : Type 0 where
  pub record_here : record_at b at ≡ Ok (found.Word (length w))
  pub letters : w ≡ word_at (mapped m) b at (length w)
  pub nonempty : 1 ≤ length w
  pub short : length w ≤ longest_word
  pub within : at + 3 + length w ≤ length b

-- a word's record, and the records of words one after another
abbrev pub word_record : Word → List ℕ
word_record w = word_mark ++ length w ∷ w

abbrev pub word_records : Words → List ℕ
word_records [] = []
word_records (w ∷ X) = word_record w ++ word_records X
