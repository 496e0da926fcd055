-- The change that makes the next reading.
use Rattle.std.specs.Prelude.{◌≡◌, true, Option, None, Some, ◌++◌, ℕ, ◌-◌, ◌≤◌, length, drop}
use Rattle.std.proofs.Math.Option.{Option as Maybe, none, some}
use Rattle.meaning.specs.Words.{Word, Words, Reading, snoc, size}
use Rattle.meaning.specs.Readings.{readable}
use Rattle.meaning.specs.Listing.{first_reading}
use Rattle.listing.specs.declared.changing.Change.{Change}
use Rattle.listing.specs.Positions.{IsWord}

-- ms is the first reading up to the word at `state`, which ends at `end`, then that word, and the words of ns from `kept` on
pub record IsChange (X : Words) (t : Word) (ns : Reading) (state end kept : ℕ) (ms : Reading) : Type 0 where
  pub number : ℕ
  pub word : IsWord X state number
  pub place : end ≤ length t
  pub fits : size X number ≤ end
  pub before : readable X t (end - size X number) ≡ true
  pub low : kept ≤ length ns
  pub is : ms ≡ snoc (first_reading X t (end - size X number)) number ++ drop kept ns

-- the change that makes of ns the reading to come, if there is one
abbrev pub Changes : Words → Word → Reading → Option Change → Maybe Reading → Type 0
Changes X t ns None o = o ≡ none
Changes X t ns (Some c) o = (ms : Reading) × (o ≡ some ms) × IsChange X t ns c.state c.end c.kept ms
