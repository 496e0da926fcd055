-- The number of a given reading, added up from its last word back.
use mathlib.Core.Path.{◌≡◌, sym, ap, ◌∙◌}
use mathlib.Core.Bool.{false}
use mathlib.Core.Option.{none, some}
use mathlib.Core.List.{List, [], ◌∷◌, Memᴰ}
use Prim.Native.Nat.{ℕ, ◌+◌, ◌-◌, ◌≤◌, ◌<◌}
use native.Mathlib.Omega.{arith}
use borrow.Author.Tests.{ne_eqb}
use lib.ListN.{length, get_or, take, drop}
use Rattle.meaning.specs.Words.{Word, Words, Reading, find, size}
use Rattle.meaning.specs.Automaton.{chain}
use Rattle.meaning.specs.Table.{depth_field}
use Rattle.meaning.specs.Readings.{readings}
use Rattle.meaning.specs.Listing.{is_reading}
use Rattle.meaning.proofs.Find.{has_false}
use Rattle.meaning.proofs.Numbers.{number_at, has_number}
use Rattle.tree.specs.Layout.{field_at}
use Rattle.listing.proofs.Steps.{word_size}
use Rattle.listing.proofs.Backwards.{Back, drop_all, drop_last, back_all, back_end, back_stops, back_on}
use Rattle.numbering.specs.Numbers.{Together, Counted, Exactly, Ahead}
use Rattle.numbering.proofs.Stretches.{together_all, together_then, exact_before}

-- the words before entry j have to read the first i letters; the readings that end with those from entry j on stand from n on
pub record Summing (X : Words) (t : Word) (tb ss l : List ℕ) (k i j n : ℕ) : Type 0 where
  pub back : Back X t tb ss l k i j
  pub together : Together X t i (length t) (drop j (take k l)) n

-- what isn't a reading has no number
none_found : {X : Words} {t : Word} {tb ss cs : List ℕ} {m : ℕ} → Exactly X t tb ss cs m → (ns : Reading) → false ≡ is_reading X t ns
    → find (readings X t) ns ≡ none
none_found {X} {t} ξ ns e =
    has_false (readings X t) ns (has_number X ξ.whole.scanned.table.allowed.storable.dictionary t ns ∙ sym e)

module _ {X : Words} {t : Word} {tb ss cs l : List ℕ} {m k : ℕ} (ξ : Exactly X t tb ss cs m) (room : k ≤ length l) where
  pub sum_none : Summing X t tb ss l k m k 0
  sum_none = record {
    back = back_all (record {
      stated = record { table = ξ.whole.scanned.table; states = ξ.whole.scanned.columns.states };
      long = ξ.whole.long;
      room = room;
    });
    together = rw (ξ.whole.long, drop_all l k room) (together_all X t (length t));
  }

  module _ {i j n : ℕ} (σ : Summing X t tb ss l k i j n) where
    pub sum_counted : Counted X t tb ss cs i
    sum_counted = record {
      at = record { scanned = ξ.whole.scanned; place = σ.back.at.place };
      exact = exact_before σ.together ξ.exact;
    }

    pub sum_found : j ≡ 0 → i ≡ 0 → find (readings X t) (take k l) ≡ some n
    sum_found z e = number_at X t n (omega (arith, τ.room)) (ap (λ (p : ℕ). get_or (readings X t) p []) (omega arith) ∙ τ.each 0 (omega arith))
      where
        τ : Together X t 0 (length t) (take k l) n
        τ = rw z at (rw e at σ.together)

    pub sum_left : j ≡ 0 → (i ≡ 0 → ⊥) → find (readings X t) (take k l) ≡ none
    sum_left z f = none_found ξ (take k l) (sym (ne_eqb i 0 f) ∙ back_end σ.back z)

    module _ {w : ℕ} (f : 0 < j) (e : w ≡ get_or l (j - 1) 0) where
      pub sum_stops : (Memᴰ w (chain X (take i t)) → ⊥) → find (readings X t) (take k l) ≡ none
      sum_stops g = none_found ξ (take k l) (back_stops σ.back room f e g)

      module _ {state number : ℕ} (α : Ahead X t i w state number) where
        more : Together X t (i - size X w) (length t) (w ∷ drop j (take k l)) (n + number)
        more = together_then α.together σ.together

        pub sum_on : {s : ℕ} → s ≡ field_at tb state depth_field → Summing X t tb ss l k (i - s) (j - 1) (n + number)
        sum_on q = record {
          back = back_on σ.back room f e α.in_chain α.is q;
          together = rw (word_size ξ.whole.scanned.table α.is q, drop_last l j k f σ.back.low room e) more;
        }
