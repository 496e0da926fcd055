-- Whether a word sequence is a reading; the first reading of a text, and the one after a given reading, word by word.
use Rattle.std.specs.Prelude.{Bool, true, false, List, [], ◌∷◌, ◌++◌, ℕ, zero, suc, ◌+◌, ◌-◌, eqb, ltb, length, take, if◌then◌else◌}
use Rattle.std.proofs.Math.Option.{Option, none, some}
use Rattle.meaning.specs.Words.{Word, Words, Reading, snoc, same, size, joined}
use Rattle.meaning.specs.Automaton.{chain}
use Rattle.meaning.specs.Readings.{readable}

abbrev pub all_below : ℕ → List ℕ → Bool
all_below c [] = true
all_below c (n ∷ ns) = if ltb n c then all_below c ns else false

-- the given word sequence is a reading of the text
abbrev pub is_reading : Words → Word → Reading → Bool
is_reading X t ns = if all_below (length X) ns then same (joined X ns) t else false

-- the first of the words ns, all of which end at position i, that has a reading before it
abbrev pub pick : Words → Word → ℕ → List ℕ → Option ℕ
pick X t i [] = none
pick X t i (n ∷ ns) = if readable X t (i - size X n) then some n else pick X t i ns

-- the word picked, with the words before it
abbrev pub with_word : (ℕ → Reading) → Option ℕ → Reading
with_word before none = []
with_word before (some n) = snoc (before n) n

-- the longest last word that has a reading before it, and before that word the same again; at most f words
abbrev pub first_in : Words → Word → ℕ → ℕ → Reading
first_in X t zero i = []
first_in X t (suc f) zero = []
first_in X t (suc f) (suc j) = with_word (λ n. first_in X t f (suc j - size X n)) (pick X t (suc j) (chain X (take (suc j) t)))

-- the first reading of the first i letters, where there is one
abbrev pub first_reading : Words → Word → ℕ → Reading
first_reading X t i = first_in X t i i

-- what stands behind n
abbrev pub behind : ℕ → List ℕ → List ℕ
behind n [] = []
behind n (m ∷ ns) = if eqb m n then ns else behind n ns

abbrev pub first_with : Words → Word → ℕ → Option ℕ → Option Reading
first_with X t i none = none
first_with X t i (some n) = some (snoc (first_reading X t (i - size X n)) n)

-- the first reading of the first i letters that ends with a shorter word than n
abbrev pub changed : Words → Word → ℕ → ℕ → Option Reading
changed X t i n = first_with X t i (pick X t i (behind n (chain X (take i t))))

-- a change, with the words ns kept after it; or else another
abbrev pub keeping : Option Reading → Reading → Option Reading → Option Reading
keeping none ns other = other
keeping (some ws) ns other = some (ws ++ ns)

-- the words ns stand from position p on: the leftmost that can be changed is, and those after it are kept
abbrev pub next_from : Words → Word → ℕ → Reading → Option Reading
next_from X t p [] = none
next_from X t p (n ∷ ns) = keeping (changed X t (p + size X n) n) ns (next_from X t (p + size X n) ns)

-- the reading after ns; none for End
abbrev pub next_reading : Words → Word → Reading → Option Reading
next_reading X t ns = next_from X t 0 ns
