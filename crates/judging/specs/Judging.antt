-- What the shared tests come to.
use Rattle.std.specs.Prelude.{Result, Ok, Err, [], ◌∷◌, ℕ, zero, suc}
use Rattle.meaning.specs.Words.{Words}
use Rattle.letters.specs.declared.refusal.Refusal.{Refusal}
use Rattle.records.specs.Run.{Run, ran, refused}
use Rattle.records.specs.Told.{Told, refusal, answer, refusal_told}

-- 1 where nothing is refused; a test's 0 is no refusal
abbrev pub passed : ℕ → Told
passed zero = answer (1 ∷ [])
passed (suc n) = refusal (suc n) 0

-- the dictionary first, then a test of its words
abbrev pub verdict : (Words → ℕ) → Run → Told
verdict test (ran X end) = passed (test X)
verdict test (refused number place) = refusal number place

abbrev pub verdict_told : Result Unit Refusal → Told
verdict_told (Ok ok) = answer (1 ∷ [])
verdict_told (Err r) = refusal_told r
