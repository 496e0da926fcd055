-- A refusal's number tells its reason.
use mathlib.Core.Path.{◌≡◌, refl}
use mathlib.Core.Bool.{false}
use Prim.Native.Nat.{ℕ}
use lib.Dec.{eqb}
use Rattle.std.specs.Prelude.{if◌then◌else◌}
use Rattle.letters.specs.Refusal.{number_of}
use Rattle.letters.specs.declared.refusal.Reason.{Reason}
use Rattle.letters.specs.declared.refusal.Reason.TheVariants.{WordMark, WordLength, CutWord, ManyWords, ManyLetters, RepeatedWord, ShortTable, OtherTable, LongText, ShortColumns, OtherColumns, NoReading, NotReading, ShortBuffer, BadBlock, LongBook, BadMap, NoNumber, GreatestCount}

-- the reason with a number, the last where there is none
abbrev pub of_number : ℕ → Reason
of_number n =
    if eqb n 1 then WordMark
    else if eqb n 2 then WordLength
    else if eqb n 3 then CutWord
    else if eqb n 4 then ManyWords
    else if eqb n 5 then ManyLetters
    else if eqb n 6 then RepeatedWord
    else if eqb n 7 then ShortTable
    else if eqb n 8 then OtherTable
    else if eqb n 9 then LongText
    else if eqb n 10 then ShortColumns
    else if eqb n 11 then OtherColumns
    else if eqb n 12 then NoReading
    else if eqb n 13 then NotReading
    else if eqb n 14 then ShortBuffer
    else if eqb n 15 then BadBlock
    else if eqb n 16 then LongBook
    else if eqb n 18 then BadMap
    else if eqb n 21 then NoNumber
    else GreatestCount

pub reason_is : (a : Reason) → of_number (number_of a) ≡ a
reason_is WordMark = refl
reason_is WordLength = refl
reason_is CutWord = refl
reason_is ManyWords = refl
reason_is ManyLetters = refl
reason_is RepeatedWord = refl
reason_is ShortTable = refl
reason_is OtherTable = refl
reason_is LongText = refl
reason_is ShortColumns = refl
reason_is OtherColumns = refl
reason_is NoReading = refl
reason_is NotReading = refl
reason_is ShortBuffer = refl
reason_is BadBlock = refl
reason_is LongBook = refl
reason_is BadMap = refl
reason_is NoNumber = refl
reason_is GreatestCount = refl

-- 0 is no reason's number
pub some_number : (a : Reason) → eqb (number_of a) 0 ≡ false
some_number WordMark = refl
some_number WordLength = refl
some_number CutWord = refl
some_number ManyWords = refl
some_number ManyLetters = refl
some_number RepeatedWord = refl
some_number ShortTable = refl
some_number OtherTable = refl
some_number LongText = refl
some_number ShortColumns = refl
some_number OtherColumns = refl
some_number NoReading = refl
some_number NotReading = refl
some_number ShortBuffer = refl
some_number BadBlock = refl
some_number LongBook = refl
some_number BadMap = refl
some_number NoNumber = refl
some_number GreatestCount = refl
