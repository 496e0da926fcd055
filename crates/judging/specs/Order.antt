-- The order of refusals: a chain of tests, of which the first that fails decides. 0 is no refusal.
use Rattle.std.specs.Prelude.{Bool, false, Result, Ok, Err, ℕ, zero, suc, eqb, leb, ltb, length, take, if◌then◌else◌}
use Rattle.std.proofs.Math.Option.{Option, none, some}
use mathlib.Core.List.{List, head?}
use Rattle.std.proofs.Math.ListN.{get_elem?}
use Rattle.meaning.specs.Numbers.{longest_text, most_counted}
use Rattle.meaning.specs.Words.{Word, Words, Reading}
use Rattle.meaning.specs.Table.{table}
use Rattle.meaning.specs.Readings.{readings, count_at}
use Rattle.meaning.specs.Listing.{is_reading, next_reading}
use Rattle.automaton.specs.Lending.{too_short, judged}
use Rattle.letters.specs.Refusal.{number_of}
use Rattle.letters.specs.declared.refusal.Reason.{Reason}
use Rattle.columns.specs.Scans.{are_columns}

infixr 20 ◌and_then◌
abbrev pub ◌and_then◌ : ℕ → ℕ → ℕ
zero and_then n = n
suc m and_then n = suc m

-- 7, 8
abbrev pub rows_number : Result Unit Reason → ℕ
rows_number (Ok ok) = 0
rows_number (Err reason) = number_of reason

-- .. of a lent table that should be T
abbrev pub table_refusal : List ℕ → List ℕ → ℕ
table_refusal T lent = rows_number (judged T lent)

-- 9
abbrev pub text_refusal : Word → ℕ
text_refusal t = if ltb longest_text (length t) then 9 else 0

-- 10
abbrev pub room_refusal : Word → List ℕ → List ℕ → ℕ
room_refusal t ss cs =
    if leb (length ss) (length t) then 10
    else if leb (length cs) (length t) then 10
    else 0

-- 11
abbrev pub columns_refusal : Words → Word → List ℕ → List ℕ → ℕ
columns_refusal X t ss cs = if are_columns X t ss cs then 0 else 11

-- 12
abbrev pub unread_refusal : Option Reading → ℕ
unread_refusal none = 12
unread_refusal (some ws) = 0

-- 13: k entries of the buffer are given
abbrev pub is_given : Words → Word → List ℕ → ℕ → Bool
is_given X t buffer k = if ltb (length buffer) k then false else is_reading X t (take k buffer)

abbrev pub given_refusal : Words → Word → List ℕ → ℕ → ℕ
given_refusal X t buffer k = if is_given X t buffer k then 0 else 13

-- 14, where there is a reading to be written
abbrev pub fit_refusal : Option Reading → List ℕ → ℕ
fit_refusal none buffer = 0
fit_refusal (some ws) buffer = if leb (length ws) (length buffer) then 0 else 14

-- 21: n is not below the count
abbrev pub number_refusal : Words → Word → ℕ → ℕ
number_refusal X t n = if ltb n (count_at X t (length t)) then 0 else 21

-- 22: the greatest count may stand for more
abbrev pub greatest_refusal : Words → Word → ℕ
greatest_refusal X t = if eqb (count_at X t (length t)) most_counted then 22 else 0

-- build: T is to be written
abbrev pub build_refusal : List ℕ → List ℕ → ℕ
build_refusal T lent = if too_short T lent then 7 else 0

-- widen and narrow: the input should be T, and U is to be written
abbrev pub move_refusal : List ℕ → List ℕ → List ℕ → List ℕ → ℕ
move_refusal T U input lent = table_refusal T input and_then build_refusal U lent

-- scan
abbrev pub scan_refusal : Words → List ℕ → Word → List ℕ → List ℕ → ℕ
scan_refusal X tb t ss cs = table_refusal (table X) tb and_then text_refusal t and_then room_refusal t ss cs

-- first and next, before they look at a reading
abbrev pub list_refusal : Words → List ℕ → Word → List ℕ → List ℕ → ℕ
list_refusal X tb t ss cs = scan_refusal X tb t ss cs and_then columns_refusal X t ss cs

abbrev pub first_refusal : Words → List ℕ → Word → List ℕ → List ℕ → List ℕ → ℕ
first_refusal X tb t ss cs buffer =
    list_refusal X tb t ss cs and_then unread_refusal (head? (readings X t)) and_then fit_refusal (head? (readings X t)) buffer

abbrev pub next_refusal : Words → List ℕ → Word → List ℕ → List ℕ → List ℕ → ℕ → ℕ
next_refusal X tb t ss cs buffer k =
    list_refusal X tb t ss cs and_then given_refusal X t buffer k and_then fit_refusal (next_reading X t (take k buffer)) buffer

-- jump and place, before they look at a number or a reading
abbrev pub counted_refusal : Words → List ℕ → Word → List ℕ → List ℕ → ℕ
counted_refusal X tb t ss cs = list_refusal X tb t ss cs and_then greatest_refusal X t

abbrev pub jump_refusal : Words → List ℕ → Word → List ℕ → List ℕ → List ℕ → ℕ → ℕ
jump_refusal X tb t ss cs buffer n =
    counted_refusal X tb t ss cs and_then number_refusal X t n and_then fit_refusal (get_elem? (readings X t) n) buffer

abbrev pub place_refusal : Words → List ℕ → Word → List ℕ → List ℕ → List ℕ → ℕ → ℕ
place_refusal X tb t ss cs buffer k = counted_refusal X tb t ss cs and_then given_refusal X t buffer k
