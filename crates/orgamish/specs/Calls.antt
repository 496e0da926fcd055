-- What each call tells and leaves, for all bytes and buffers.
use Rattle.std.specs.Prelude.{Bool, true, false, ℕ, zero, suc, length, take}
use Rattle.std.proofs.Math.Option.{Option, none, some}
use mathlib.Core.List.{List, [], ◌∷◌, head?}
use Rattle.std.proofs.Math.ListN.{get_elem?}
use Rattle.meaning.specs.Words.{Word, Words, Reading, word, find}
use Rattle.meaning.specs.Automaton.{states, longest_chain}
use Rattle.meaning.specs.Table.{table, narrow_table, over}
use Rattle.meaning.specs.Readings.{readings, accepted, count_at, state_column, count_column, probes, farthest}
use Rattle.meaning.specs.Listing.{next_reading}
use Rattle.records.specs.Run.{Run, ran, refused}
use Rattle.records.specs.Book.{Opened, opened, shut, texts_of, offset_of}
use Rattle.records.specs.Told.{Told, refusal, answer}
use Rattle.judging.specs.Order.{build_refusal, move_refusal, scan_refusal, first_refusal, next_refusal, jump_refusal, place_refusal}

-- a refusal of that number, or the values where it is 0
abbrev pub told_by : ℕ → List ℕ → Told
told_by zero values = answer values
told_by (suc n) values = refusal (suc n) 0

-- a lent buffer afterwards: a refusal leaves it as it was
abbrev pub left_by : ℕ → List ℕ → List ℕ → List ℕ
left_by zero after before = after
left_by (suc n) after before = before

-- the same by the dictionary, which is tested first
abbrev pub tells : (Words → ℕ) → (Words → List ℕ) → Run → Told
tells test values (ran X end) = told_by (test X) (values X)
tells test values (refused number place) = refusal number place

abbrev pub leaves : (Words → ℕ) → (Words → List ℕ) → List ℕ → Run → List ℕ
leaves test after before (ran X end) = left_by (test X) (after X) before
leaves test after before (refused number place) = before

abbrev pub flag : Bool → ℕ
flag true = 1
flag false = 0

-- how many readings are written, none or one, and its number of words
abbrev pub length_of : Option Reading → List ℕ
length_of none = 0 ∷ []
length_of (some ws) = 1 ∷ length ws ∷ []

abbrev pub listed : Option Reading → List ℕ → List ℕ
listed none buffer = buffer
listed (some ws) buffer = over ws buffer

-- a place in the list of readings
abbrev pub number_of : Option ℕ → List ℕ
number_of none = []
number_of (some n) = n ∷ []

-- words, states, r
abbrev pub measures : Words → List ℕ
measures X = length X ∷ length (states X) ∷ longest_chain X ∷ []

-- By the run of a dictionary's records: a table is written to lent numbers, in a form, `table` or `narrow_table`
module _ (form : Words → List ℕ) (run : Run) (lent : List ℕ) where
  abbrev pub write_tells : Told
  write_tells = tells (λ X. build_refusal (form X) lent) measures run

  abbrev pub write_leaves : List ℕ
  write_leaves = leaves (λ X. build_refusal (form X) lent) (λ X. over (form X) lent) lent run

  -- .. from that which the input has in another form
  module _ (other : Words → List ℕ) (input : List ℕ) where
    abbrev pub move_tells : Told
    move_tells = tells (λ X. move_refusal (other X) (form X) input lent) measures run

    abbrev pub move_leaves : List ℕ
    move_leaves = leaves (λ X. move_refusal (other X) (form X) input lent) (λ X. over (form X) lent) lent run

-- the table tb
module _ (run : Run) (tb : List ℕ) where
  abbrev pub build_tells : Told
  build_tells = write_tells table run tb

  abbrev pub build_leaves : List ℕ
  build_leaves = write_leaves table run tb

  -- the narrow table nt: widen reads it and writes tb, narrow reads tb and writes it
  module _ (nt : List ℕ) where
    abbrev pub widen_tells : Told
    widen_tells = move_tells table run tb narrow_table nt

    abbrev pub widen_leaves : List ℕ
    widen_leaves = move_leaves table run tb narrow_table nt

    abbrev pub narrow_tells : Told
    narrow_tells = move_tells narrow_table run nt table tb

    abbrev pub narrow_leaves : List ℕ
    narrow_leaves = move_leaves narrow_table run nt table tb

  -- the text t, the columns ss and cs
  module _ (t : Word) (ss cs : List ℕ) where
    abbrev pub scan_tells : Told
    scan_tells =
        tells (λ X. scan_refusal X tb t ss cs)
        (λ X. flag (accepted X t) ∷ farthest X t ∷ count_at X t (length t) ∷ probes X t ∷ []) run

    abbrev pub scan_leaves_states : List ℕ
    scan_leaves_states = leaves (λ X. scan_refusal X tb t ss cs) (λ X. over (state_column X t) ss) ss run

    abbrev pub scan_leaves_counts : List ℕ
    scan_leaves_counts = leaves (λ X. scan_refusal X tb t ss cs) (λ X. over (count_column X t) cs) cs run

    -- the reading buffer
    module _ (buffer : List ℕ) where
      abbrev pub first_tells : Told
      first_tells = tells (λ X. first_refusal X tb t ss cs buffer) (λ X. length_of (head? (readings X t))) run

      abbrev pub first_leaves : List ℕ
      first_leaves = leaves (λ X. first_refusal X tb t ss cs buffer) (λ X. listed (head? (readings X t)) buffer) buffer run

      -- of which k entries are given
      module _ (k : ℕ) where
        abbrev pub next_tells : Told
        next_tells = tells (λ X. next_refusal X tb t ss cs buffer k) (λ X. length_of (next_reading X t (take k buffer))) run

        abbrev pub next_leaves : List ℕ
        next_leaves =
            leaves (λ X. next_refusal X tb t ss cs buffer k)
            (λ X. listed (next_reading X t (take k buffer)) buffer) buffer run

        abbrev pub place_tells : Told
        place_tells = tells (λ X. place_refusal X tb t ss cs buffer k) (λ X. number_of (find (readings X t) (take k buffer))) run

      -- reading n of the list
      module _ (n : ℕ) where
        abbrev pub jump_tells : Told
        jump_tells = tells (λ X. jump_refusal X tb t ss cs buffer n) (λ X. length_of (get_elem? (readings X t) n)) run

        abbrev pub jump_leaves : List ℕ
        jump_leaves =
            leaves (λ X. jump_refusal X tb t ss cs buffer n) (λ X. listed (get_elem? (readings X t) n) buffer) buffer run

-- the book check, which leaves nothing changed
abbrev pub check_tells : Opened → Told
check_tells (opened X start T) = answer (length X ∷ length T ∷ [])
check_tells (shut number place) = refusal number place

-- the offset of block n's text, and its length
abbrev pub block_tells : Opened → ℕ → Told
block_tells o n = answer (offset_of o n ∷ length (word (texts_of o) n) ∷ [])
