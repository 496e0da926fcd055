-- What a lent table is beside the table that it should be, and what becomes of it.
use Rattle.std.specs.Prelude.{Bool, Result, Ok, Err, List, ℕ, ltb, length, take, if◌then◌else◌}
use Rattle.meaning.specs.Words.{Words, same}
use Rattle.meaning.specs.Automaton.{states, longest_chain}
use Rattle.meaning.specs.Table.{over}
use Rattle.letters.specs.declared.refusal.Reason.{Reason}
use Rattle.letters.specs.declared.refusal.Reason.TheVariants.{ShortTable, OtherTable}
use Rattle.automaton.specs.declared.building.Built.{Built}

-- 7: it has not as many numbers as the table T, which has eight a state, or seven
abbrev pub too_short : List ℕ → List ℕ → Bool
too_short T lent = ltb (length lent) (length T)

-- 7, then 8: only the rows of the states count
abbrev pub judged : List ℕ → List ℕ → Result Unit Reason
judged T lent =
    if too_short T lent then Err ShortTable
    else if same (take (length T) lent) T then Ok tt
    else Err OtherTable

-- T is a table of the words X
abbrev pub wrote : Words → List ℕ → List ℕ → Result Built Reason
wrote X T lent = if too_short T lent then Err ShortTable else Ok (record { states = length (states X); longest = longest_chain X })

abbrev pub written : List ℕ → List ℕ → List ℕ
written T lent = if too_short T lent then lent else over T lent
