-- Refusals by document 01's numbers.
use Rattle.std.specs.Prelude.{◌≡◌, List, ◌∷◌, ◌++◌, ℕ}
use Rattle.std.specs.Fmt.{decimal}
use Rattle.letters.specs.declared.refusal.Reason.{Reason}
use Rattle.letters.specs.declared.refusal.Reason.TheVariants.{WordMark, WordLength, CutWord, ManyWords, ManyLetters, RepeatedWord, ShortTable, OtherTable, LongText, ShortColumns, OtherColumns, NoReading, NotReading, ShortBuffer, BadBlock, LongBook, BadMap, NoNumber, GreatestCount}
use Rattle.letters.specs.declared.refusal.Refusal.{Refusal}

abbrev pub number_of : Reason → ℕ
number_of WordMark = 1
number_of WordLength = 2
number_of CutWord = 3
number_of ManyWords = 4
number_of ManyLetters = 5
number_of RepeatedWord = 6
number_of ShortTable = 7
number_of OtherTable = 8
number_of LongText = 9
number_of ShortColumns = 10
number_of OtherColumns = 11
number_of NoReading = 12
number_of NotReading = 13
number_of ShortBuffer = 14
number_of BadBlock = 15
number_of LongBook = 16
number_of BadMap = 18
number_of NoNumber = 21
number_of GreatestCount = 22

-- a reason alone is refused at place 0
abbrev pub at_start : Reason → Refusal → Type 0
at_start reason r = r ≡ record { reason = reason; place = 0 }

-- what is printed: the number, a space, the place
abbrev pub refusal_text : Refusal → List ℕ
refusal_text r = decimal (number_of r.reason) ++ 32 ∷ decimal r.place
