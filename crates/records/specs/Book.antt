-- A book: its words, then its blocks, or the first refusal.
use Rattle.std.specs.Prelude.{◌≡◌, Option, None, Some, Result, Ok, Err, List, [], ℕ, zero, suc, ◌+◌, ◌*◌, ◌≤◌, ltb, length, take, if◌then◌else◌}
use Rattle.meaning.specs.Words.{Words, word, snoc, total}
use Rattle.letters.specs.Letters.{part}
use Rattle.letters.specs.Record.{block_at, text_at}
use Rattle.letters.specs.Refusal.{number_of}
use Rattle.letters.specs.declared.refusal.Reason.{Reason}
use Rattle.records.specs.Run.{Run, ran, refused, book_run, book_words}

-- the blocks' texts; or a refusal's number and the number of blocks before it
pub data Blocks : Type 0 where
  texts : Words → Blocks
  bad : ℕ → ℕ → Blocks

abbrev pub on_block : Words → (ℕ → Blocks) → Result (Option ℕ) Reason → Blocks
on_block T more (Ok None) = texts T
on_block T more (Ok (Some n)) = more n
on_block T more (Err reason) = bad (number_of reason) (length T)

-- the blocks from an offset on, after the texts T; the first number bounds the records that are read
abbrev pub blocks_from : List ℕ → ℕ → Words → ℕ → Blocks
blocks_from b zero T at = texts T
blocks_from b (suc f) T at = on_block T (λ n. blocks_from b f (snoc T (text_at b at n)) (at + 4 + n)) (block_at b at)

-- all blocks from an offset on: there are no more than bytes
unfoldable pub blocks : List ℕ → ℕ → Blocks
blocks b at = blocks_from b (suc (length b)) [] at

-- the words, the offset of the first block record, the blocks' texts; or a refusal's number and place
pub data Opened : Type 0 where
  opened : Words → ℕ → Words → Opened
  shut : ℕ → ℕ → Opened

abbrev pub with_words : Words → ℕ → Blocks → Opened
with_words X at (texts T) = opened X at T
with_words X at (bad number n) = shut number (length X + n)

abbrev pub with_blocks : List ℕ → Run → Opened
with_blocks b (ran X at) = with_words X at (blocks b at)
with_blocks b (refused number place) = shut number place

abbrev pub book : List ℕ → List ℕ → Opened
book m b = with_blocks b (book_words m b)

-- document 01's book
abbrev pub byte_book : List ℕ → Opened
byte_book b = with_blocks b (book_run (λ u. u) b)

-- none where the book is refused
abbrev pub texts_of : Opened → Words
texts_of (opened X at T) = T
texts_of (shut number place) = []

-- the offset of block n's text, where the first block record is at an offset: each record has four bytes besides its text; 0 where
-- there is no such block
abbrev pub offset_from : ℕ → Words → ℕ → ℕ
offset_from at T n = if ltb n (length T) then at + 4 * suc n + total (take n T) else 0

abbrev pub offset_of : Opened → ℕ → ℕ
offset_of (opened X at T) n = offset_from at T n
offset_of (shut number place) n = 0

-- a part of the bytes is block n of the texts T, at its offset
pub record Block (b : List ℕ) (T : Words) (n offset : ℕ) (start len : ℕ) : Type 0 where
  pub stands : start ≡ offset
  pub length_is : len ≡ length (word T n)
  pub within : start + len ≤ length b
  pub is : part b start len ≡ word T n
