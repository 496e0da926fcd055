-- What a call tells, as numbers in lent memory.
use Rattle.std.specs.Prelude.{◌≡◌, Option, None, Some, Result, Ok, Err, List, [], ◌∷◌, ℕ, zero, suc}
use Rattle.letters.specs.declared.refusal.Refusal.{Refusal}
use Rattle.records.specs.Told.{Told, answer, refusal_told}

-- the first n values, and 0 where there are fewer
abbrev pub filled : ℕ → List ℕ → List ℕ
filled zero values = []
filled (suc n) [] = 0 ∷ filled n []
filled (suc n) (v ∷ values) = v ∷ filled n values

-- the result is the refusal's number; the lent numbers are the place and four values
abbrev pub Passed : Told → ℕ → List ℕ → Type 0
Passed told result lent = (result ≡ told.number) × (lent ≡ told.place ∷ filled 4 told.values)

-- what is told by four values, or a refusal
abbrev pub values_told : Result (List ℕ) Refusal → Told
values_told (Ok values) = answer values
values_told (Err r) = refusal_told r

-- no reading, or one of so many words
abbrev pub listed : Option ℕ → List ℕ
listed None = 0 ∷ []
listed (Some words) = 1 ∷ words ∷ []
