-- What the calls on a scanned text know once the tests that they share have passed.
use mathlib.Core.Path.{◌≡◌, sym}
use mathlib.Core.List.{List, [], ◌∷◌}
use Prim.Native.Nat.{ℕ, ◌<◌, ◌≤◌}
use lib.ListN.{length}
use Rattle.meaning.specs.Numbers.{letter_values, longest_text}
use Rattle.meaning.specs.Words.{Word, Words}
use Rattle.meaning.specs.Plain.{Allowed}
use Rattle.letters.specs.Letters.{letter, mapped}
use Rattle.records.specs.Run.{Run}
use Rattle.records.specs.Told.{answer}
use Rattle.columns.proofs.Entry.{mapped_size}
use Rattle.listing.specs.Positions.{Whole, Stated}
use Rattle.numbering.specs.Numbers.{Exactly}
use Rattle.judging.specs.Under.{words_under}
use Rattle.judging.specs.Order.{list_refusal, counted_refusal}
use Rattle.judging.specs.Judging.{verdict}
use Rattle.judging.proofs.Verdicts.{Passes, passes, passed_allowed}
use Rattle.judging.proofs.Cleared.{scanned, short_text, counted_lists, exactly}

-- the map, the dictionary, the table, the text's bytes, the columns
module _ (m d tb u ss cs : List ℕ) (bytes : (x : ℕ) → letter m x < letter_values) where
  abbrev pub t : Word
  t = mapped m u

  abbrev pub run : Run
  run = words_under m d

  abbrev pub lists : Words → ℕ
  lists X = list_refusal X tb t ss cs

  abbrev pub counts : Words → ℕ
  counts X = counted_refusal X tb t ss cs

  module _ (e : answer (1 ∷ []) ≡ verdict lists run) where
    pub may_list : Passes lists run
    may_list = passes lists run e

    pub listed_allowed : Allowed may_list.X
    listed_allowed = passed_allowed m d bytes may_list

    pub whole : Whole may_list.X t tb ss cs (length u)
    whole = record { scanned = scanned listed_allowed may_list.clear; long = sym (mapped_size m u) }

    pub stated : Stated may_list.X t tb ss
    stated = record { table = whole.scanned.table; states = whole.scanned.columns.states }

    pub listed_short : length t ≤ longest_text
    listed_short = short_text may_list.X tb t ss cs may_list.clear

  module _ (e : answer (1 ∷ []) ≡ verdict counts run) where
    pub may_count : Passes counts run
    may_count = passes counts run e

    pub counted_allowed : Allowed may_count.X
    counted_allowed = passed_allowed m d bytes may_count

    pub exact : Exactly may_count.X t tb ss cs (length u)
    exact = exactly may_count.X tb t ss cs may_count.clear counted_allowed (sym (mapped_size m u))

    pub counted_short : length t ≤ longest_text
    counted_short = short_text may_count.X tb t ss cs (counted_lists may_count.X tb t ss cs may_count.clear)
