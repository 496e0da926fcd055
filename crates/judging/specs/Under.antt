-- What a lent letter map makes of the bytes: 18 for a map that hasn't 256 numbers, before all others.
use Rattle.std.specs.Prelude.{Bool, List, ℕ, eqb, length, if◌then◌else◌}
use Rattle.meaning.specs.Numbers.{letter_values}
use Rattle.records.specs.Run.{Run, refused, dictionary}
use Rattle.records.specs.Book.{Opened, shut, book}

abbrev pub is_map : List ℕ → Bool
is_map m = eqb (length m) letter_values

unfoldable pub words_under : List ℕ → List ℕ → Run
words_under m d = if is_map m then dictionary m d else refused 18 0

unfoldable pub book_under : List ℕ → List ℕ → Opened
book_under m b = if is_map m then book m b else shut 18 0
