-- The states of a dictionary, borders, links and chains.
use Rattle.std.proofs.Math.Option.{Option, none, some}
use Rattle.std.specs.Prelude.{List, [], ◌∷◌, ◌++◌, ℕ, max, length, if◌then◌else◌}
use Rattle.meaning.specs.Words.{Word, Words, snoc, find, has}

-- the prefixes of p ++ u that are longer than p, shorter ones first
abbrev pub prefixes : Word → Word → Words
prefixes p [] = []
prefixes p (a ∷ u) = snoc p a ∷ prefixes (snoc p a) u

-- the nonempty prefixes of the words, as they appear: word after word
abbrev pub appearing : Words → Words
appearing [] = []
appearing (w ∷ ws) = prefixes [] w ++ appearing ws

-- S with u after it, unless it has u
abbrev pub add : Words → Word → Words
add S u = if has S u then S else snoc S u

abbrev pub add_all : Words → Words → Words
add_all S [] = S
add_all S (u ∷ us) = add_all (add S u) us

-- the states in the order of their numbers: the empty prefix, then each other one where it first appears
abbrev pub states : Words → Words
states X = add_all ([] ∷ []) (appearing X)

-- the longest suffix of u that is in Y, by its state number
abbrev pub nearest : Words → Words → Word → Option ℕ
nearest S Y [] = if has Y [] then find S [] else none
nearest S Y (a ∷ u) = if has Y (a ∷ u) then find S (a ∷ u) else nearest S Y u

-- .. the longest proper one
abbrev pub nearest_proper : Words → Words → Word → Option ℕ
nearest_proper S Y [] = none
nearest_proper S Y (a ∷ u) = nearest S Y u

-- the longest proper suffix that is a state
abbrev pub border : Words → Word → Option ℕ
border S u = nearest_proper S S u

-- the longest proper suffix that is a word
abbrev pub link : Words → Words → Word → Option ℕ
link X S u = nearest_proper S X u

abbrev pub cons_found : Option ℕ → List ℕ → List ℕ
cons_found none l = l
cons_found (some n) l = n ∷ l

-- the words that are suffixes of u, longest first
abbrev pub chain : Words → Word → List ℕ
chain X [] = []
chain X (a ∷ u) = cons_found (find X (a ∷ u)) (chain X u)

abbrev pub longest_of : Words → Words → ℕ
longest_of X [] = 0
longest_of X (u ∷ us) = max (length (chain X u)) (longest_of X us)

-- r, the greatest chain length over all states
abbrev pub longest_chain : Words → ℕ
longest_chain X = longest_of X (states X)
