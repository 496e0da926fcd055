-- The limits of document 01, and the numbers that stand for something else.
use Rattle.std.specs.Prelude.{ℕ, ◌-◌, ◌^◌}

-- letters are bytes
abbrev pub letter_values : ℕ
letter_values = 256

abbrev pub most_words : ℕ
most_words = 256

abbrev pub longest_word : ℕ
longest_word = 64

-- of all words together
abbrev pub most_letters : ℕ
most_letters = 2047

abbrev pub most_states : ℕ
most_states = 2048

abbrev pub longest_text : ℕ
longest_text = 4096

abbrev pub longest_book : ℕ
longest_book = 65536

-- what a row has for none
abbrev pub absent : ℕ
absent = 65535

-- the greatest count, which stands for all that are not below it
abbrev pub most_counted : ℕ
most_counted = 2 ^ 64 - 1
