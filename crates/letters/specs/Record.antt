-- One record: what stands at an offset of the bytes.
use Rattle.std.specs.Prelude.{◌≡◌, Bool, not, Option, None, Some, Result, Ok, Err, List, [], ◌∷◌, ℕ, ◌+◌, ◌*◌, ◌≤◌, ◌<◌, length, get_or, leb, ltb, eqb, if◌then◌else◌}
use Rattle.meaning.specs.Numbers.{longest_word, longest_text}
use Rattle.meaning.specs.Words.{same, Word}
use Rattle.letters.specs.Letters.{part}
use Rattle.letters.specs.declared.record.Record.{Record}
use Rattle.letters.specs.declared.record.Record.TheVariants as word
use Rattle.letters.specs.declared.refusal.Reason.{Reason}
use Rattle.letters.specs.declared.refusal.Reason.TheVariants as reason

abbrev pub word_mark : List ℕ
word_mark = 87 ∷ 68 ∷ []

abbrev pub block_mark : List ℕ
block_mark = 84 ∷ 66 ∷ []

-- the mark's two bytes stand at the offset
abbrev pub marked : List ℕ → List ℕ → ℕ → Bool
marked mark b at = same (part b at 2) mark

-- a word record whose length byte says n: 2, 3 for the letters
abbrev pub sized_word : List ℕ → ℕ → ℕ → Result Record Reason
sized_word b at n =
    if eqb n 0 then Err reason.WordLength
    else if ltb longest_word n then Err reason.WordLength
    else if ltb (length b) (at + 3 + n) then Err reason.CutWord
    else Ok (word.Word n)

-- the record at an offset where a word is due: 1, 3 for the length byte, then as above.
-- Whether a block mark may stand there is for the run of records to say
abbrev pub record_at : List ℕ → ℕ → Result Record Reason
record_at b at =
    if leb (length b) at then Ok word.End
    else if marked block_mark b at then Ok word.Block
    else if not (marked word_mark b at) then Err reason.WordMark
    else if ltb (length b) (at + 3) then Err reason.CutWord
    else sized_word b at (get_or b (at + 2) 0)

-- the word of n letters whose record stands at an offset; ℓ says what bytes are as letters
abbrev pub word_at : (List ℕ → Word) → List ℕ → ℕ → ℕ → Word
word_at ℓ b at n = ℓ (part b (at + 3) n)

-- how many letters a record has as a word
abbrev pub word_len : Result Record Reason → ℕ
word_len (Ok word.End) = 0
word_len (Ok word.Block) = 0
word_len (Ok (word.Word n)) = n
word_len (Err reason) = 0

-- r is that of the record at an offset: at most 64, and where it is not 0 the letters are there
pub record Measured (b : List ℕ) (at r : ℕ) : Type 0 where
  pub is : r ≡ word_len (record_at b at)
  pub short : r ≤ longest_word
  pub within : 0 < r → at + 3 + r ≤ length b

-- the text's length of a block record whose length bytes say n: 9, 15 for the text
abbrev pub sized_block : List ℕ → ℕ → ℕ → Result (Option ℕ) Reason
sized_block b at n =
    if ltb longest_text n then Err reason.LongText
    else if ltb (length b) (at + 4 + n) then Err reason.BadBlock
    else Ok (Some n)

-- the text's length of the record at an offset where a block is due: 15 for mark and length, then as above
abbrev pub block_at : List ℕ → ℕ → Result (Option ℕ) Reason
block_at b at =
    if leb (length b) at then Ok None
    else if not (marked block_mark b at) then Err reason.BadBlock
    else if ltb (length b) (at + 4) then Err reason.BadBlock
    else sized_block b at (get_or b (at + 2) 0 + 256 * get_or b (at + 3) 0)

-- the text of n letters whose record stands at an offset
abbrev pub text_at : List ℕ → ℕ → ℕ → List ℕ
text_at b at n = part b (at + 4) n
