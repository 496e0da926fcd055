-- How a repeated word is found: the words are kept in classes, and for each the last word before it of its class.
use Rattle.std.specs.Prelude.{◌≡◌, Result, Ok, List, [], ◌∷◌, ℕ, zero, suc, ◌+◌, ◌-◌, ◌*◌, ◌≤◌, ◌<◌, ◌%◌, length, get_or, set, eqb, if◌then◌else◌}
use Rattle.meaning.specs.Numbers.{most_words, most_letters}
use Rattle.meaning.specs.Words.{Word, Words, snoc, word, total}
use Rattle.letters.specs.Letters.{mapped}
use Rattle.letters.specs.Record.{word_at}
use Rattle.letters.specs.declared.record.Record.{Record}
use Rattle.letters.specs.declared.record.Record.TheVariants as found
use Rattle.letters.specs.declared.refusal.Reason.{Reason}
use Rattle.records.specs.Run.{record_after}
use Rattle.records.specs.Stored.{Before, Holds}
use Rattle.records.specs.declared.repeats.Index.{Index}

abbrev pub classes : ℕ
classes = 256

-- equal words are of one class; that is all that the search needs
unfoldable pub class_of : Word → ℕ
class_of [] = 0
class_of (a ∷ w) = (a + 5 * class_of w) % classes

-- how many of the first n words there are up to the last of class c, 0 where none is of that class
abbrev pub up_to_last : Words → ℕ → ℕ → ℕ
up_to_last X c zero = zero
up_to_last X c (suc n) = if eqb (class_of (word X n)) c then suc n else up_to_last X c n

-- the index has the words X: for each class, and for each word among those before it, how many words there are up to the last of
-- the class; and the offset of each word's record
pub record Indexed (m b : List ℕ) (index : Index) (X : Words) : Type 0 where
  pub classes_long : length index.last ≡ classes
  pub words_long : length index.older ≡ most_words
  pub places_long : length index.places ≡ most_words
  pub few : length X ≤ most_words
  pub last : (c : ℕ) → c < classes → get_or index.last c 0 ≡ up_to_last X c (length X)
  pub older : (k : ℕ) → k < length X → get_or index.older k 0 ≡ up_to_last X (class_of (word X k)) k
  pub places : (k : ℕ) → k < length X → Holds m b (get_or index.places k 0) (word X k)

-- the index with the q-th word, of class c, whose record stands at the offset
abbrev pub noted : Index → ℕ → ℕ → ℕ → Index
noted index c q at = record {
  last = set index.last c q;
  older = set index.older (q - 1) (get_or index.last c 0);
  places = set index.places (q - 1) at;
}

-- the words X stand before the offset, and the index has them
pub record Known (m b : List ℕ) (index : Index) (at words letters : ℕ) (X : Words) : Type 0 where
  pub before : Before m b at words letters X
  pub small : total X ≤ most_letters
  pub indexed : Indexed m b index X

-- r is the record at the offset, after the words X; the index has its word too, where it is one
pub record ReadAfter (m b : List ℕ) (index : Index) (at : ℕ) (X : Words) (r : Result Record Reason) : Type 0 where
  pub is : r ≡ record_after (mapped m) b X at
  pub indexed : (n : ℕ) → r ≡ Ok (found.Word n) → Indexed m b index (snoc X (word_at (mapped m) b at n))
