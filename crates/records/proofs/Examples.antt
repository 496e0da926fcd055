-- The marked examples P1 to P10 of document 01, as one list and one claim; its example of a book; and two of letter maps.
use mathlib.Core.Path.{◌≡◌, refl}
use mathlib.Core.Bool.{Bool, true, false}
use mathlib.Core.Option.{Option, none, some}
use mathlib.Core.List.{List, [], ◌∷◌, ◌++◌, map}
use Prim.Native.Nat.{ℕ}
use lib.ListN.{length, set, replicate}
use Rattle.meaning.specs.Numbers.{letter_values}
use Rattle.meaning.specs.Words.{Word, Words, Reading}
use Rattle.meaning.specs.Automaton.{states, longest_chain}
use Rattle.meaning.specs.Table.{child_from, table}
use Rattle.meaning.specs.Readings.{readings, accepted, count_at, state_column, count_column, probes, farthest}
use Rattle.meaning.specs.Listing.{first_reading, next_reading}
use Rattle.letters.specs.Letters.{identity}
use Rattle.letters.specs.Record.{block_mark}
use Rattle.records.specs.Run.{ran, run, dictionary}
use Rattle.records.specs.Book.{book, blocks, opened}
use Rattle.records.specs.Told.{Told, refusal, run_tells, book_tells}
use Rattle.records.specs.Stored.{word_record, word_records}

-- one thing that is told
pub data Fact : Type 0 where
  verdict : Bool → Fact
  numbers : List ℕ → Fact
  listed : List Reading → Fact
  next : Option Reading → Fact
  told : Told → Fact

-- what the definitions give, and what document 01 says
pub record Example : Type 0 where
  pub given : List Fact
  pub said : List Fact

-- words, states, r
abbrev built : Words → Fact
built X = numbers (length X ∷ length (states X) ∷ longest_chain X ∷ [])

-- count at the end, probes
abbrev counted : Words → Word → Fact
counted X t = numbers (count_at X t (length t) ∷ probes X t ∷ [])

abbrev a : ℕ
a = 97

abbrev b : ℕ
b = 98

abbrev N : ℕ
N = 65535

-- source document 000, example 7
abbrev E : Words
E = (a ∷ a ∷ []) ∷ (a ∷ a ∷ a ∷ a ∷ b ∷ []) ∷ (a ∷ a ∷ a ∷ b ∷ a ∷ []) ∷ (a ∷ a ∷ b ∷ []) ∷ (a ∷ b ∷ []) ∷ []

abbrev aaaaab : Word
aaaaab = a ∷ a ∷ a ∷ a ∷ a ∷ b ∷ []

-- words a, aa
abbrev A : Words
A = (a ∷ []) ∷ (a ∷ a ∷ []) ∷ []

abbrev aaa : Word
aaa = a ∷ a ∷ a ∷ []

abbrev rows_of_e : List ℕ
rows_of_e =
    N ∷ 1 ∷ N ∷ 0 ∷ N ∷ N ∷ N ∷ 0
    ∷ a ∷ 2 ∷ N ∷ 1 ∷ N ∷ 0 ∷ N ∷ 0
    ∷ a ∷ 3 ∷ 9 ∷ 2 ∷ 0 ∷ 1 ∷ N ∷ 1
    ∷ a ∷ 4 ∷ 8 ∷ 3 ∷ N ∷ 2 ∷ 2 ∷ 1
    ∷ a ∷ 5 ∷ 6 ∷ 4 ∷ N ∷ 3 ∷ 2 ∷ 1
    ∷ b ∷ N ∷ N ∷ 5 ∷ 1 ∷ 6 ∷ 8 ∷ 3
    ∷ b ∷ 7 ∷ N ∷ 4 ∷ N ∷ 8 ∷ 8 ∷ 2
    ∷ a ∷ N ∷ N ∷ 5 ∷ 2 ∷ 1 ∷ N ∷ 1
    ∷ b ∷ N ∷ N ∷ 3 ∷ 3 ∷ 9 ∷ 9 ∷ 2
    ∷ b ∷ N ∷ N ∷ 2 ∷ 4 ∷ 0 ∷ N ∷ 1
    ∷ []

-- P1 E builds; its rows
abbrev p1 : Example
p1 = record {
  given = built E ∷ numbers (table E) ∷ [];
  said = numbers (5 ∷ 10 ∷ 3 ∷ []) ∷ numbers rows_of_e ∷ [];
}

-- P2 E, aaaaab: states, counts, probes
abbrev p2 : Example
p2 = record {
  given = numbers (state_column E aaaaab) ∷ numbers (count_column E aaaaab) ∷ numbers (probes E aaaaab ∷ []) ∷ [];
  said = numbers (0 ∷ 1 ∷ 2 ∷ 3 ∷ 4 ∷ 4 ∷ 5 ∷ []) ∷ numbers (1 ∷ 0 ∷ 1 ∷ 0 ∷ 1 ∷ 0 ∷ 1 ∷ []) ∷ numbers (7 ∷ []) ∷ [];
}

-- P3 E, aaaaab: the only reading
abbrev p3 : Example
p3 = record { given = listed (readings E aaaaab) ∷ []; said = listed ((0 ∷ 0 ∷ 4 ∷ []) ∷ []) ∷ [] }

-- P4 E, empty text: accepted, one reading of no words
abbrev p4 : Example
p4 = record {
  given = verdict (accepted E []) ∷ listed (readings E []) ∷ [];
  said = verdict true ∷ listed ([] ∷ []) ∷ [];
}

-- P5 words a, aa; text aaa: count, probes
abbrev p5 : Example
p5 = record { given = counted A aaa ∷ []; said = numbers (3 ∷ 5 ∷ []) ∷ [] }

-- P6 the same: the readings, one after the other, then End
abbrev p6 : Example
p6 = record {
  given =
      listed (readings A aaa)
      ∷ next (some (first_reading A aaa 3))
      ∷ next (next_reading A aaa (0 ∷ 1 ∷ []))
      ∷ next (next_reading A aaa (1 ∷ 0 ∷ []))
      ∷ next (next_reading A aaa (0 ∷ 0 ∷ 0 ∷ []))
      ∷ [];
  said =
      listed ((0 ∷ 1 ∷ []) ∷ (1 ∷ 0 ∷ []) ∷ (0 ∷ 0 ∷ 0 ∷ []) ∷ [])
      ∷ next (some (0 ∷ 1 ∷ []))
      ∷ next (some (1 ∷ 0 ∷ []))
      ∷ next (some (0 ∷ 0 ∷ 0 ∷ []))
      ∷ next none
      ∷ [];
}

-- P7 empty dictionary, text a
abbrev p7 : Example
p7 = record {
  given = verdict (accepted [] (a ∷ [])) ∷ counted [] (a ∷ []) ∷ [];
  said = verdict false ∷ numbers (0 ∷ 0 ∷ []) ∷ [];
}

-- P8 empty dictionary
abbrev p8 : Example
p8 = record { given = built [] ∷ []; said = numbers (0 ∷ 1 ∷ 0 ∷ []) ∷ [] }

-- P9 a word record of length 0
abbrev p9 : Example
p9 = record { given = told (run_tells (dictionary identity (word_record []))) ∷ []; said = told (refusal 2 0) ∷ [] }

-- P10 word a twice
abbrev p10 : Example
p10 = record {
  given = told (run_tells (dictionary identity (word_records ((a ∷ []) ∷ (a ∷ []) ∷ [])))) ∷ [];
  said = told (refusal 6 1) ∷ [];
}

abbrev pub examples : List Example
examples = p1 ∷ p2 ∷ p3 ∷ p4 ∷ p5 ∷ p6 ∷ p7 ∷ p8 ∷ p9 ∷ p10 ∷ []

pub examples_hold : map (λ e. e.given) examples ≡ map (λ e. e.said) examples
unfolding child_from run identity
examples_hold = refl

-- the book of document 01's program
abbrev block_record : Word → List ℕ
block_record t = block_mark ++ length t ∷ 0 ∷ t

abbrev block_records : Words → List ℕ
block_records [] = []
block_records (t ∷ T) = block_record t ++ block_records T

abbrev texts : Words
texts = aaaaab ∷ [] ∷ aaa ∷ (b ∷ a ∷ []) ∷ []

pub sample_book : book identity (word_records E ++ block_records texts) ≡ opened E 32 texts
unfolding run blocks identity
sample_book = refl

-- how far each block can be read: aaa breaks off inside a word, and ba is none from the first letter on
pub sample_farthest : map (farthest E) texts ≡ 6 ∷ 0 ∷ 3 ∷ 0 ∷ []
sample_farthest = refl

-- words a, abc; text ab: the word that it breaks off in begins before the last position that has a reading
pub earlier_farthest : farthest ((a ∷ []) ∷ (a ∷ b ∷ 99 ∷ []) ∷ []) (a ∷ b ∷ []) ≡ 2
earlier_farthest = refl

-- with a word record where a block is due
pub late_word : book_tells (book identity (word_records E ++ block_record aaa ++ word_record aaa)) ≡ refusal 15 6
unfolding run blocks identity
late_word = refl

-- a block mark where a dictionary by itself has a word due
pub no_block_here : run_tells (dictionary identity (word_records E ++ block_record aaa)) ≡ refusal 1 5
unfolding run identity
no_block_here = refl

-- a map under which b is a: the words a and b are one
pub joined_twice : run_tells (dictionary (set identity b a) (word_records ((a ∷ []) ∷ (b ∷ []) ∷ []))) ≡ refusal 6 1
unfolding run identity
joined_twice = refl

-- one that sends each byte to 0: marks and lengths stay, and the words a and aa are of that letter
pub marks_stay : dictionary (replicate letter_values 0) (word_records A) ≡ ran ((0 ∷ []) ∷ (0 ∷ 0 ∷ []) ∷ []) 9
unfolding run
marks_stay = refl
