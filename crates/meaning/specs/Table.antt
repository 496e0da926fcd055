-- The automaton table: the row of each state.
use Rattle.std.proofs.Math.Option.{Option, none, some}
use Rattle.std.specs.Prelude.{List, [], ◌∷◌, ◌++◌, ℕ, zero, suc, ◌-◌, length, drop, if◌then◌else◌}
use Rattle.meaning.specs.Numbers.{letter_values, absent}
use Rattle.meaning.specs.Words.{Word, Words, snoc, find, has}
use Rattle.meaning.specs.Automaton.{states, border, link, chain}

-- a number as a row has it
abbrev pub stored : Option ℕ → ℕ
stored none = absent
stored (some n) = n

-- the child of p with the least of the n letters from a on
abbrev pub least : Words → Word → ℕ → ℕ → Option ℕ
least S p zero a = none
least S p (suc n) a = if has S (snoc p a) then find S (snoc p a) else least S p n (suc a)

-- the child of p with the least letter not below a. Shut: at a numeral it would compute to 256 tests
unfoldable pub child_from : Words → Word → ℕ → Option ℕ
child_from S p a = least S p (letter_values - a) a

abbrev pub first_child : Words → Word → Option ℕ
first_child S u = child_from S u 0

-- all letters but the last
abbrev pub front : Word → Word
front [] = []
front (a ∷ []) = []
front (a ∷ b ∷ u) = a ∷ front (b ∷ u)

abbrev pub last_letter : Word → Option ℕ
last_letter [] = none
last_letter (a ∷ []) = some a
last_letter (a ∷ b ∷ u) = last_letter (b ∷ u)

abbrev pub child_past : Words → Word → Option ℕ → Option ℕ
child_past S p none = none
child_past S p (some a) = child_from S p (suc a)

abbrev pub next_sibling : Words → Word → Option ℕ
next_sibling S u = child_past S (front u) (last_letter u)

-- how many numbers a row has; a narrow one, as tables in the field have them, lacks the last
abbrev pub width : ℕ
width = 8

abbrev pub narrow_width : ℕ
narrow_width = 7

-- where each stands
abbrev pub letter_field : ℕ
letter_field = 0

abbrev pub child_field : ℕ
child_field = 1

abbrev pub sibling_field : ℕ
sibling_field = 2

abbrev pub depth_field : ℕ
depth_field = 3

abbrev pub word_field : ℕ
word_field = 4

abbrev pub border_field : ℕ
border_field = 5

abbrev pub link_field : ℕ
link_field = 6

abbrev pub chain_field : ℕ
chain_field = 7

-- the narrow row of the state u
abbrev pub narrow_row : Words → Words → Word → List ℕ
narrow_row X S u =
    stored (last_letter u)
    ∷ stored (first_child S u)
    ∷ stored (next_sibling S u)
    ∷ length u
    ∷ stored (find X u)
    ∷ stored (border S u)
    ∷ stored (link X S u)
    ∷ []

-- its row: the length of its chain stands last
abbrev pub row : Words → Words → Word → List ℕ
row X S u = narrow_row X S u ++ length (chain X u) ∷ []

-- the rows of states, in either form
abbrev pub rows : (Word → List ℕ) → Words → List ℕ
rows form [] = []
rows form (u ∷ us) = form u ++ rows form us

abbrev pub table : Words → List ℕ
table X = rows (row X (states X)) (states X)

abbrev pub narrow_table : Words → List ℕ
narrow_table X = rows (narrow_row X (states X)) (states X)

-- lent numbers with others written over them from the first on: those past them stay as they were
abbrev pub over : List ℕ → List ℕ → List ℕ
over new old = new ++ drop (length new) old
