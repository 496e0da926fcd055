-- What place tells, by where the given words stand in the list.
use mathlib.Core.Path.{◌≡◌, refl, sym, ap, ◌∙◌}
use mathlib.Core.Option.{Option, none, some}
use mathlib.Core.List.{List, [], ◌∷◌}
use Prim.Native.Nat.{ℕ, ◌≤◌, ◌<◌}
use borrow.Author.Tests.{lt-ltb, le-ltb}
use lib.ListN.{length, take}
use Rattle.std.specs.Prelude.{if◌then◌else◌}
use Rattle.meaning.specs.Words.{Word, Words, find, is_some}
use Rattle.meaning.specs.Readings.{readings}
use Rattle.meaning.specs.Plain.{Dictionary}
use Rattle.meaning.proofs.Numbers.{has_number}
use Rattle.records.specs.Run.{Run}
use Rattle.numbering.specs.Places.{placed}
use Rattle.std.specs.Prelude.{Option as Maybe, None, Some}
use Rattle.judging.specs.Order.{◌and_then◌, given_refusal}
use Rattle.orgamish.specs.Calls.{told_by, tells, number_of}
use Rattle.judging.proofs.Verdicts.{Passes}
use Rattle.orgamish.proofs.Called.{Came, came_tells, then_comes}

abbrev pub placed_number : Maybe ℕ → ℕ
placed_number None = 13
placed_number (Some n) = 0

abbrev pub placed_values : Maybe ℕ → List ℕ
placed_values None = []
placed_values (Some n) = n ∷ []

-- more words than entries are refused, and so are those that stand nowhere
pub too_many : (X : Words) (t : Word) (b : List ℕ) (k : ℕ) → length b < k → given_refusal X t b k ≡ 13
too_many X t b k h = rw (lt-ltb (length b) k h)

pub given_number : (X : Words) → Dictionary X → (t : Word) (b : List ℕ) (k : ℕ) → k ≤ length b
    → given_refusal X t b k ≡ placed_number (placed (find (readings X t) (take k b)))
given_number X D t b k h =
    rw (le-ltb (length b) k h, sym (has_number X D t (take k b))) (go (find (readings X t) (take k b)))
  where
    go : (o : Option ℕ) → (if is_some o then 0 else 13) ≡ placed_number (placed o)
    go none = refl
    go (some n) = refl

placed_told : (o : Option ℕ) → told_by (placed_number (placed o)) (placed_values (placed o)) ≡ told_by (placed_number (placed o)) (number_of o)
placed_told none = refl
placed_told (some n) = refl

-- the tests before pass
module _ (before : Words → ℕ) (t : Word) (b : List ℕ) (k : ℕ) {run : Run} (p : Passes before run) where
  abbrev numbers : Words → List ℕ
  numbers X = number_of (find (readings X t) (take k b))

  abbrev test : Words → ℕ
  test X = before X and_then given_refusal X t b k

  came : {n : ℕ} → given_refusal p.X t b k ≡ n → Came test run p.X n
  came e = record { end = p.end; is = p.is; comes = then_comes (before p.X) (given_refusal p.X t b k) p.clear e }

  pub many_told : length b < k → told_by 13 (numbers p.X) ≡ tells test numbers run
  many_told h = came_tells (came (too_many p.X t b k h)) numbers

  pub place_told_lem : Dictionary p.X → k ≤ length b → {r : Maybe ℕ} → r ≡ placed (find (readings p.X t) (take k b))
      → told_by (placed_number r) (placed_values r) ≡ tells test numbers run
  place_told_lem D h e =
      ap (λ (q : Maybe ℕ). told_by (placed_number q) (placed_values q)) e
      ∙ placed_told (find (readings p.X t) (take k b))
      ∙ came_tells (came (given_number p.X D t b k h)) numbers
