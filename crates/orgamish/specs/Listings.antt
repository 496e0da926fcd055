-- A listing: first, and then next until nothing more is written, or n times; the buffer untouched between the calls.
use Rattle.std.specs.Prelude.{List, [], ◌∷◌, ℕ, zero, suc, take}
use Rattle.meaning.specs.Words.{Word, Reading}
use Rattle.records.specs.Run.{Run}
use Rattle.records.specs.Told.{Told, answer}
use Rattle.orgamish.specs.Calls.{first_tells, first_leaves, next_tells, next_leaves}

-- the readings seen in the buffer, one after each call, and what the last call told
pub record Heard : Type 0 where
  pub seen : List Reading
  pub last : Told

abbrev pub heard : List Reading → Told → Heard
heard seen last = record { seen = seen; last = last }

-- the call told so: where it wrote a reading of n words, the listing goes on from there
abbrev pub go_on : (ℕ → Heard) → Told → List ℕ → Heard
go_on more told [] = heard [] told
go_on more told (written ∷ []) = heard [] told
go_on more told (written ∷ n ∷ rest) = more n

-- what a call told, and the buffer after it
pub record Outcome : Type 0 where
  pub told : Told
  pub buffer : List ℕ

abbrev pub outcome : Told → List ℕ → Outcome
outcome told buffer = record { told = told; buffer = buffer }

-- the number of words told; 0 where no reading was written
abbrev pub words_told : List ℕ → ℕ
words_told [] = 0
words_told (written ∷ []) = 0
words_told (written ∷ n ∷ rest) = n

module _ (run : Run) (tb : List ℕ) (t : Word) (ss cs : List ℕ) where
  -- the first k entries of the buffer are a reading; at most f calls more
  abbrev pub listing_from : ℕ → List ℕ → ℕ → Heard
  listing_from zero buffer k = heard (take k buffer ∷ []) (answer [])
  listing_from (suc f) buffer k =
      let told = next_tells run tb t ss cs buffer k in
      let more = go_on (listing_from f (next_leaves run tb t ss cs buffer k)) told told.values in
      heard (take k buffer ∷ more.seen) more.last

  abbrev pub listing : ℕ → List ℕ → Heard
  listing f buffer =
      let told = first_tells run tb t ss cs buffer in
      go_on (listing_from f (first_leaves run tb t ss cs buffer)) told told.values

  -- first, and then n times next
  abbrev pub next_times : ℕ → List ℕ → Outcome
  next_times zero buffer = outcome (first_tells run tb t ss cs buffer) (first_leaves run tb t ss cs buffer)
  next_times (suc n) buffer =
      let before = next_times n buffer in
      let given = words_told before.told.values in
      outcome (next_tells run tb t ss cs before.buffer given) (next_leaves run tb t ss cs before.buffer given)
