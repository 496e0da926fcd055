-- The readings of a text in their order, and what the scan tells and leaves.
use Rattle.std.specs.Prelude.{Bool, true, false, List, [], ◌∷◌, ◌++◌, map, ℕ, zero, suc, ◌+◌, ◌-◌, min, length, take, if◌then◌else◌}
use Rattle.std.proofs.Math.Seq.{slice}
use Rattle.meaning.specs.Numbers.{most_counted}
use Rattle.meaning.specs.Words.{Word, Words, Reading, snoc, has, size}
use Rattle.meaning.specs.Automaton.{states, nearest, chain}
use Rattle.meaning.specs.Table.{stored}

-- the readings whose last word is one of ns, all of which end at position i: first those with the first of ns.
-- `before` has the readings of each shorter part
abbrev pub ending_with : Words → (ℕ → List Reading) → ℕ → List ℕ → List Reading
ending_with X before i [] = []
ending_with X before i (n ∷ ns) = map (λ ws. snoc ws n) (before (i - size X n)) ++ ending_with X before i ns

-- the readings of the first i letters that have at most f words
abbrev pub readings_in : Words → Word → ℕ → ℕ → List Reading
readings_in X t zero zero = [] ∷ []
readings_in X t zero (suc j) = []
readings_in X t (suc f) zero = [] ∷ []
readings_in X t (suc f) (suc j) = ending_with X (readings_in X t f) (suc j) (chain X (take (suc j) t))

-- the readings of the first i letters: no word is empty, so none has more than i words
abbrev pub readings_to : Words → Word → ℕ → List Reading
readings_to X t i = readings_in X t i i

abbrev pub readings : Words → Word → List Reading
readings X t = readings_to X t (length t)

abbrev pub is_nonempty : {A : Type 0} → List A → Bool
is_nonempty [] = false
is_nonempty (x ∷ l) = true

-- the first i letters have a reading
abbrev pub readable : Words → Word → ℕ → Bool
readable X t i = is_nonempty (readings_to X t i)

abbrev pub accepted : Words → Word → Bool
accepted X t = readable X t (length t)

-- n, or the greatest count if n is more
abbrev pub capped : ℕ → ℕ
capped n = min n most_counted

abbrev pub count_at : Words → Word → ℕ → ℕ
count_at X t i = capped (length (readings_to X t i))

abbrev pub state_at : Words → Word → ℕ → ℕ
state_at X t i = stored (nearest (states X) (states X) (take i t))

-- f at 0, 1, .. n - 1
abbrev pub up_to : (ℕ → ℕ) → ℕ → List ℕ
up_to f zero = []
up_to f (suc n) = snoc (up_to f n) (f n)

abbrev pub state_column : Words → Word → List ℕ
state_column X t = up_to (state_at X t) (suc (length t))

abbrev pub count_column : Words → Word → List ℕ
count_column X t = up_to (count_at X t) (suc (length t))

-- the words that end at one of the positions 1 to i, each as often as it ends there
abbrev pub probes_to : Words → Word → ℕ → ℕ
probes_to X t zero = 0
probes_to X t (suc i) = probes_to X t i + length (chain X (take (suc i) t))

abbrev pub probes : Words → Word → ℕ
probes X t = probes_to X t (length t)

-- the first j letters have a reading, and those after them, up to position i, begin a word or are none
abbrev pub viable_at : Words → Word → ℕ → ℕ → Bool
viable_at X t i j = if readable X t j then has (states X) (slice j i t) else false

-- .. for one of the positions 0 to j
abbrev pub viable_by : Words → Word → ℕ → ℕ → Bool
viable_by X t i zero = viable_at X t i zero
viable_by X t i (suc j) = if viable_at X t i (suc j) then true else viable_by X t i j

-- the first i letters can still become a reading
abbrev pub viable : Words → Word → ℕ → Bool
viable X t i = viable_by X t i i

-- the greatest position up to i of which this is so
abbrev pub farthest_to : Words → Word → ℕ → ℕ
farthest_to X t zero = 0
farthest_to X t (suc i) = if viable X t (suc i) then suc i else farthest_to X t i

abbrev pub farthest : Words → Word → ℕ
farthest X t = farthest_to X t (length t)
