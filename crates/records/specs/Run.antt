-- The run of word records: the words, or the first refusal.
use Rattle.std.specs.Prelude.{Bool, true, false, Result, Ok, Err, List, [], ℕ, zero, suc, ◌+◌, length, leb, ltb, eqb, if◌then◌else◌}
use Rattle.meaning.specs.Numbers.{most_words, most_letters, longest_book}
use Rattle.meaning.specs.Words.{Word as Letters, Words, snoc, has, total}
use Rattle.letters.specs.Letters.{mapped}
use Rattle.letters.specs.Record.{record_at, word_at, word_len}
use Rattle.letters.specs.Refusal.{number_of}
use Rattle.letters.specs.declared.record.Record.{Record}
use Rattle.letters.specs.declared.record.Record.TheVariants.{End, Block, Word}
use Rattle.letters.specs.declared.refusal.Reason.{Reason}
use Rattle.letters.specs.declared.refusal.Reason.TheVariants.{ManyWords, ManyLetters, RepeatedWord}

-- the word record of n letters at an offset, after the words X: 4, 5, 6. ℓ says what bytes are as letters
abbrev pub joining : (List ℕ → Letters) → List ℕ → Words → ℕ → ℕ → Result Record Reason
joining ℓ b X at n =
    if leb most_words (length X) then Err ManyWords
    else if ltb most_letters (total X + n) then Err ManyLetters
    else if has X (word_at ℓ b at n) then Err RepeatedWord
    else Ok (Word n)

abbrev pub joined : (List ℕ → Letters) → List ℕ → Words → ℕ → Result Record Reason → Result Record Reason
joined ℓ b X at (Ok End) = Ok End
joined ℓ b X at (Ok Block) = Ok Block
joined ℓ b X at (Ok (Word n)) = joining ℓ b X at n
joined ℓ b X at (Err reason) = Err reason

-- the record at an offset, after the words X
abbrev pub record_after : (List ℕ → Letters) → List ℕ → Words → ℕ → Result Record Reason
record_after ℓ b X at = joined ℓ b X at (record_at b at)

-- the words, and the offset at which their records end; or a refusal's number and place
pub data Run : Type 0 where
  ran : Words → ℕ → Run
  refused : ℕ → ℕ → Run

-- how the run goes on at a record, after the words X: a block mark ends it in a book, and is 1 elsewhere
abbrev pub on_record : Bool → Words → ℕ → (ℕ → Run) → Result Record Reason → Run
on_record in_book X at more (Ok End) = ran X at
on_record in_book X at more (Ok Block) = if in_book then ran X at else refused 1 (length X)
on_record in_book X at more (Ok (Word n)) = more n
on_record in_book X at more (Err reason) = refused (number_of reason) (length X)

-- the run from an offset on, after the words X; the first number bounds the records that are read
abbrev pub run_from : Bool → (List ℕ → Letters) → List ℕ → ℕ → Words → ℕ → Run
run_from in_book ℓ b zero X at = ran X at
run_from in_book ℓ b (suc f) X at =
    on_record in_book X at (λ n. run_from in_book ℓ b f (snoc X (word_at ℓ b at n)) (at + 3 + n)) (record_after ℓ b X at)

-- one record more than there may be words is enough, since it is refused
unfoldable pub run : Bool → (List ℕ → Letters) → List ℕ → Run
run in_book ℓ b = run_from in_book ℓ b (suc most_words) [] 0

-- the words of a book: 16, then the word records
abbrev pub book_run : (List ℕ → Letters) → List ℕ → Run
book_run ℓ b = if ltb longest_book (length b) then refused 16 0 else run true ℓ b

-- a dictionary by itself, and the words of a book, under a letter map
abbrev pub dictionary : List ℕ → List ℕ → Run
dictionary m b = run false (mapped m) b

abbrev pub book_words : List ℕ → List ℕ → Run
book_words m b = book_run (mapped m) b

-- document 01's dictionary, whose letters are the bytes
abbrev pub byte_dictionary : List ℕ → Run
byte_dictionary b = run false (λ u. u) b

-- the offset past k word records, from an offset on, or past those that there are
abbrev pub past_words : List ℕ → ℕ → ℕ → ℕ
past_words b zero at = at
past_words b (suc k) at =
    if eqb (word_len (record_at b at)) 0 then at else past_words b k (at + 3 + word_len (record_at b at))
