-- What a call tells, as document 01 has it.
use Rattle.std.specs.Prelude.{Option, None, Some, Result, Ok, Err, List, [], ◌∷◌, ℕ, ◌+◌, length}
use Rattle.meaning.specs.Words.{total}
use Rattle.letters.specs.Refusal.{number_of}
use Rattle.letters.specs.declared.refusal.Reason.{Reason}
use Rattle.letters.specs.declared.refusal.Refusal.{Refusal}
use Rattle.records.specs.Run.{Run, ran, refused}
use Rattle.records.specs.Book.{Blocks, texts, bad, Opened, opened, shut}
use Rattle.records.specs.declared.dictionary.Dictionary.{Dictionary}
use Rattle.records.specs.declared.book.Book.{Book}

-- the refusal's number, 0 for none; its place; the values
pub record Told : Type 0 where
  pub number : ℕ
  pub place : ℕ
  pub values : List ℕ

abbrev pub refusal : ℕ → ℕ → Told
refusal number place = record { number = number; place = place; values = [] }

abbrev pub answer : List ℕ → Told
answer values = record { number = 0; place = 0; values = values }

abbrev pub refusal_told : Refusal → Told
refusal_told r = refusal (number_of r.reason) r.place

-- how many block records stand here, none or one, and the text's length
abbrev pub block_told : Result (Option ℕ) Reason → Told
block_told (Ok None) = answer (0 ∷ [])
block_told (Ok (Some n)) = answer (1 ∷ n ∷ [])
block_told (Err reason) = refusal (number_of reason) 0

-- words, their letters, the offset at which they end
abbrev pub dictionary_told : Result Dictionary Refusal → Told
dictionary_told (Ok d) = answer (d.words ∷ d.letters ∷ d.end ∷ [])
dictionary_told (Err r) = refusal_told r

abbrev pub run_tells : Run → Told
run_tells (ran X end) = answer (length X ∷ total X ∷ end ∷ [])
run_tells (refused number place) = refusal number place

-- words, blocks, the offset of the first block record
abbrev pub book_told : Result Book Refusal → Told
book_told (Ok b) = answer (b.words ∷ b.blocks ∷ b.start ∷ [])
book_told (Err r) = refusal_told r

abbrev pub book_tells : Opened → Told
book_tells (opened X start T) = answer (length X ∷ length T ∷ start ∷ [])
book_tells (shut number place) = refusal number place

-- the same from the blocks, after so many words
abbrev pub blocks_tell : ℕ → ℕ → Blocks → Told
blocks_tell words start (texts T) = answer (words ∷ length T ∷ start ∷ [])
blocks_tell words start (bad number n) = refusal number (words + n)
