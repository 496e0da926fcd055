-- A reading by its number, its place in the list, and the number of a reading: each undoes the other.
use mathlib.Core.Path.{◌≡◌, sym, ap, ◌∙◌}
use mathlib.Core.Option.{none, some}
use mathlib.Core.Bool.{true≢false}
use mathlib.Core.List.{[]}
use Prim.Native.Nat.{ℕ, ◌<◌}
use lib.ListN.{length, get_or, get_elem?}
use Rattle.meaning.specs.Words.{Word, Words, Reading, find, is_some, has}
use Rattle.meaning.specs.Readings.{readings}
use Rattle.meaning.specs.Listing.{is_reading}
use Rattle.meaning.specs.Plain.{Dictionary, IsReading}
use Rattle.meaning.proofs.Lists.{mem_at, some_at}
use Rattle.meaning.proofs.Find.{Tested, pass, fail, test, none_unless, find_some, find_first, has_member}
use Rattle.meaning.proofs.Readings.{is_reading_is, readings_are}
use Rattle.meaning.proofs.Order.{readings_once}

pub number_at : (X : Words) (t : Word) (n : ℕ) {ns : Reading} → n < length (readings X t) → get_or (readings X t) n [] ≡ ns
    → find (readings X t) ns ≡ some n
number_at X t n {ns} h e =
    find_first (readings X t) ns n
    (record { inside = h; reads = e; first = λ m l f. readings_once X t m n l h (f ∙ sym e) })

pub at_number : (X : Words) (t : Word) (n : ℕ) (ns : Reading) → find (readings X t) ns ≡ some n
    → (n < length (readings X t)) × (get_elem? (readings X t) n ≡ some ns)
at_number X t n ns e =
    let f = find_some (readings X t) ns n e in
    (f.inside, some_at (readings X t) n [] f.inside ∙ ap some f.reads)

-- a reading has a number, and nothing else has
module _ (X : Words) (D : Dictionary X) (t : Word) (ns : Reading) where
  pub no_number : (IsReading X t ns → ⊥) → find (readings X t) ns ≡ none
  no_number f =
      none_unless (find (readings X t) ns)
      (λ n e. let g = find_some (readings X t) ns n e in
      f ((readings_are X D t ns).0 (rw g.reads at (mem_at (readings X t) n [] g.inside))))

  pub has_number : has (readings X t) ns ≡ is_reading X t ns
  has_number = go (test (is_reading X t ns))
    where
      go : Tested (is_reading X t ns) → has (readings X t) ns ≡ is_reading X t ns
      go (pass e) =
          let m = (has_member (readings X t) ns).1 ((readings_are X D t ns).1 ((is_reading_is X t ns).0 e)) in
          ap is_some m.found ∙ sym e
      go (fail e) = ap is_some (no_number (λ r. true≢false (sym ((is_reading_is X t ns).1 r) ∙ e))) ∙ sym e
