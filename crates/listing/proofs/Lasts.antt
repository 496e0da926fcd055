-- The last word of the first reading, and the part before it.
use mathlib.Core.Path.{◌≡◌, refl, sym, ap, ◌∙◌}
use mathlib.Core.Option.{none, none-ne-some}
use mathlib.Core.List.{List, []}
use Prim.Native.Nat.{ℕ, zero, suc, ◌-◌, ◌≤◌}
use native.Mathlib.Omega.{arith}
use lib.ListN.{length, take}
use Rattle.std.specs.Prelude.{Some}
use Rattle.meaning.specs.Words.{Word, Words, snoc, size}
use Rattle.meaning.specs.Automaton.{chain}
use Rattle.meaning.specs.Table.{depth_field}
use Rattle.meaning.specs.Listing.{pick, first_reading}
use Rattle.meaning.proofs.Lists.{snoc-length}
use Rattle.meaning.proofs.Chains.{chain_fits}
use Rattle.meaning.proofs.First.{FirstStep, first_picks, first_step}
use Rattle.tree.specs.Layout.{field_at, HasRow}
use Rattle.listing.specs.Positions.{IsWord, StateOf, Readable}
use Rattle.listing.proofs.Steps.{word_row, word_size}

-- state v is the last word of the first reading of the first i letters
pub record LastWord (X : Words) (t : Word) (i v : ℕ) : Type 0 where
  pub number : ℕ
  pub word : IsWord X v number
  pub step : FirstStep X t i number

-- what is picked where there is a reading is the last word of the first
pub last_is : {X : Words} {t : Word} (i : ℕ) {v : ℕ} → StateOf X (pick X t i (chain X (take i t))) (Some v) → LastWord X t i v
last_is {X} zero (n, e, w) = absurd (none-ne-some n e)
last_is {X} {t} (suc j) (n, e, w) = record { number = n; word = w; step = first_step X t j n e }

-- nothing is picked only where there are no letters
pub no_last : {X : Words} {t : Word} {tb ss cs : List ℕ} (i : ℕ) → Readable X t tb ss cs i → pick X t i (chain X (take i t)) ≡ none → i ≡ 0
no_last zero ρ e = refl
no_last {X} {t} (suc j) ρ e = let (n, p) = first_picks X t j ρ.reads in absurd (none-ne-some n (sym e ∙ p))

-- the part before it has a reading too, and is shorter
module _ {X : Words} {t : Word} {tb ss cs : List ℕ} {i v : ℕ} (ρ : Readable X t tb ss cs i) (ω : LastWord X t i v) where
  pub last_row : HasRow tb v
  last_row = word_row ρ.at.scanned.table ω.word

  module _ {d : ℕ} (e : d ≡ field_at tb v depth_field) where
    is : d ≡ size X ω.number
    is = word_size ρ.at.scanned.table ω.word e

    pub last_fits : (1 ≤ d) × (d ≤ i)
    last_fits = let f = chain_fits X t i ω.step.in_chain in (omega (arith, is), omega (arith, is))

    pub readable_before : Readable X t tb ss cs (i - d)
    readable_before = record {
      at = record { scanned = ρ.at.scanned; place = omega (arith, ρ.at.place) };
      reads = rw is ω.step.before;
    }

    pub first_splits : first_reading X t i ≡ snoc (first_reading X t (i - d)) ω.number
    first_splits = ω.step.splits ∙ ap (λ (k : ℕ). snoc (first_reading X t (i - k)) ω.number) (sym is)

    pub first_longer : length (first_reading X t i) ≡ suc (length (first_reading X t (i - d)))
    first_longer = ap length first_splits ∙ snoc-length (first_reading X t (i - d)) ω.number

-- what has no letters has one reading, of no words
pub no_letters : (X : Words) (t : Word) {i : ℕ} → i ≡ 0 → first_reading X t i ≡ []
no_letters X t e = rw e
