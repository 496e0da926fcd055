-- The words before the last one of a numbered reading, and the last one written behind them.
use mathlib.Core.Path.{◌≡◌, refl, sym, ap, ◌∙◌}
use mathlib.Core.List.{List, []}
use Prim.Native.Nat.{ℕ, suc, ◌+◌, ◌-◌, ◌≤◌, ◌<◌}
use native.Mathlib.Omega.{arith}
use borrow.Author.Tests.{le-leb, lt-leb}
use lib.ListN.{length, get_or, set}
use Rattle.meaning.specs.Words.{Word, Words, Reading, snoc, size}
use Rattle.meaning.specs.Table.{depth_field}
use Rattle.meaning.specs.Readings.{readings_to, count_at}
use Rattle.meaning.proofs.Lists.{snoc-length}
use Rattle.meaning.proofs.Chains.{chain_fits}
use Rattle.meaning.proofs.Columns.{column_long}
use Rattle.tree.specs.Layout.{field_at, HasRow}
use Rattle.listing.specs.Positions.{ScannedAt}
use Rattle.listing.specs.Writing.{Written}
use Rattle.listing.proofs.Steps.{word_row, word_size}
use Rattle.listing.proofs.Writes.{written_more}
use Rattle.numbering.specs.Numbers.{Numbered, LastOf, WrittenIf}

-- there are more counts than letters
pub letters_fit : {X : Words} {t : Word} {tb ss cs : List ℕ} {i : ℕ} → ScannedAt X t tb ss cs i → length t < length cs
letters_fit {X} {t} {cs = cs} α = omega (arith, column_long (count_at X t) (suc (length t)) cs α.scanned.columns.counts)

module _ {X : Words} {t : Word} {tb ss cs : List ℕ} {i n v number : ℕ} (ν : Numbered X t tb ss cs i n) (λ₁ : LastOf X t i n v number) where
  pub last_row : HasRow tb v
  last_row = word_row ν.counted.at.scanned.table λ₁.is

  module _ {d : ℕ} (e : d ≡ field_at tb v depth_field) where
    long : d ≡ size X λ₁.word
    long = word_size ν.counted.at.scanned.table λ₁.is e

    pub last_fits : (1 ≤ d) × (d ≤ i)
    last_fits = let f = chain_fits X t i λ₁.in_chain in (omega (arith, long), omega (arith, long))

    pub numbered_before : Numbered X t tb ss cs (i - d) number
    numbered_before = record {
      counted = record {
        at = record { scanned = ν.counted.at.scanned; place = omega (arith, ν.counted.at.place) };
        exact = rw long λ₁.exact;
      };
      below = rw long λ₁.below;
    }

    pub reading_splits : get_or (readings_to X t i) n [] ≡ snoc (get_or (readings_to X t (i - d)) number []) λ₁.word
    reading_splits = λ₁.reading ∙ ap (λ (k : ℕ). snoc (get_or (readings_to X t (i - k)) number []) λ₁.word) (sym long)

-- one word more, where all fit and where they don't
module _ {ws longer : Reading} {before after : List ℕ} {r : ℕ} (more n : ℕ) (w : WrittenIf ws (more + 1) before after r) (e : longer ≡ snoc ws n) where
  all : r ≡ length longer + more
  all = omega (arith, w.total, ap length e, snoc-length ws n)

  pub word_written : {m : ℕ} → r ≤ length before → m ≡ n → WrittenIf longer more before (set after (r - more - 1) m) r
  word_written {m} h f = record {
    total = all;
    list = rw (le-leb _ _ h, place) (written_more written e (omega (arith, w.total)) f).list;
  }
    where
      place : r - more - 1 ≡ length ws
      place = omega (arith, w.total)

      written : Written ws before after (length ws)
      written = record { count = refl; list = rw (le-leb _ _ h) at w.list }

  pub word_short : length before < r → WrittenIf longer more before after r
  word_short h = record { total = all; list = rw (lt-leb _ _ h) (rw (lt-leb _ _ h) at w.list) }
