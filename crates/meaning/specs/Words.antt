-- Words, and where a word stands in a list of words.
use Rattle.std.specs.Prelude.{Bool, true, false, List, [], ◌∷◌, ◌++◌, ℕ, zero, suc, ◌+◌, eqb, length, get_or, if◌then◌else◌}
use Rattle.std.proofs.Math.Option.{Option, none, some}

-- a word, or a text, by its letters
abbrev pub Word : Type 0
Word = List ℕ

-- a dictionary, or its states: a word's number is its place, from 0
abbrev pub Words : Type 0
Words = List Word

-- word numbers, left to right
abbrev pub Reading : Type 0
Reading = List ℕ

-- u, and a after it
abbrev pub snoc : {A : Type 0} → List A → A → List A
snoc u a = u ++ (a ∷ [])

-- the two words have the same letters
abbrev pub same : Word → Word → Bool
same [] [] = true
same [] (b ∷ v) = false
same (a ∷ u) [] = false
same (a ∷ u) (b ∷ v) = if eqb a b then same u v else false

abbrev pub later : Option ℕ → Option ℕ
later none = none
later (some n) = some (suc n)

-- the first place where u stands
abbrev pub find : Words → Word → Option ℕ
find [] u = none
find (w ∷ ws) u = if same w u then some zero else later (find ws u)

abbrev pub is_some : Option ℕ → Bool
is_some none = false
is_some (some n) = true

abbrev pub has : Words → Word → Bool
has Y u = is_some (find Y u)

-- what stands at place n; the empty word where nothing does
abbrev pub word : Words → ℕ → Word
word Y n = get_or Y n []

abbrev pub size : Words → ℕ → ℕ
size X n = length (word X n)

-- the letters of all words together
abbrev pub total : Words → ℕ
total [] = 0
total (w ∷ ws) = length w + total ws

-- the words numbered ns, joined left to right
abbrev pub joined : Words → Reading → Word
joined X [] = []
joined X (n ∷ ns) = word X n ++ joined X ns
