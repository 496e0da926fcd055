-- The walk along the chain at a position, and the readings that end with the words passed.
use mathlib.Core.Path.{◌≡◌, refl, sym, ap, ◌∙◌}
use mathlib.Core.List.{List, [], ◌∷◌, Memᴰ}
use Prim.Native.Nat.{ℕ, ◌+◌, ◌-◌, ◌≤◌, ◌<◌}
use native.Mathlib.Omega.{arith}
use lib.ListN.{length, get_or, take}
use Rattle.meaning.specs.Numbers.{absent, most_counted}
use Rattle.meaning.specs.Words.{Word, Words, size}
use Rattle.meaning.specs.Automaton.{states, nearest, chain}
use Rattle.meaning.specs.Table.{stored, word_field, link_field}
use Rattle.meaning.specs.Readings.{readings_to, count_at}
use Rattle.tree.specs.Layout.{field_at}
use Rattle.listing.specs.Positions.{words_at, sought, IsWord, Ending, ScannedAt}
use Rattle.listing.proofs.Steps.{no_words, word_number, word_next, ending_on, placed, chain_there, ending_there}
use Rattle.listing.proofs.Search as search
use Rattle.listing.proofs.Search.{sought_none}
use Rattle.numbering.specs.Numbers.{Exact, Together, Numbered, LastOf, Ahead}
use Rattle.numbering.proofs.Stretches.{Passing, exact_before, exact_count, passing_none, passing_end, passing_word, passing_on}

-- the walk stands at v, and p readings end with the words passed
pub record Walk (X : Words) (t : Word) (tb cs : List ℕ) (i v p : ℕ) : Type 0 where
  pub ending : Ending X t tb cs v i
  pub passing : Passing X t i v p

pub walk_first : {X : Words} {t : Word} {tb ss cs : List ℕ} {i v : ℕ} → ScannedAt X t tb ss cs i
    → v ≡ stored (nearest (states X) X (take i t)) → Walk X t tb cs i v 0
walk_first {X} {t} {i = i} α e = record {
  ending = ending_there (placed α) e α.scanned.columns.counts;
  passing = passing_none X t i (chain_there (placed α) e);
}

-- past the last word all readings are
pub walk_end : {X : Words} {t : Word} {tb cs : List ℕ} {i v p : ℕ} → Walk X t tb cs i v p → v ≡ absent → (i ≡ 0 → ⊥)
    → length (readings_to X t i) ≡ p
walk_end ω e = passing_end ω.passing (no_words ω.ending.walking.table e)

module _ {X : Words} {t : Word} {tb cs : List ℕ} {i v p n : ℕ} (ω : Walk X t tb cs i v p) (w : IsWord X v n) where
  ahead : {l : ℕ} → l ≡ field_at tb v link_field → words_at X v ≡ n ∷ words_at X l
  ahead e = (word_next ω.ending.walking.table w e).is

  pub walk_mem : Memᴰ n (chain X (take i t))
  walk_mem = ω.ending.ends n (rw (ahead refl) (Memᴰ.head refl))

  pub walk_word : Together X t (i - size X n) i (n ∷ []) p
  walk_word = passing_word ω.passing (ahead refl)

  pub walk_on : {l : ℕ} → l ≡ field_at tb v link_field → Walk X t tb cs i l (p + length (readings_to X t (i - size X n)))
  walk_on e = record { ending = ending_on ω.ending w e; passing = passing_on ω.passing (ahead e) refl }

  -- the count before the word is exact where that at the position is
  pub walk_count : {c : ℕ} → Exact X t i → c ≡ count_at X t (i - size X n) → c ≡ length (readings_to X t (i - size X n))
  walk_count h e = e ∙ exact_count X t (i - size X n) (exact_before walk_word h)

-- .. and the reading looked for is `number` of those still to come
pub record Seeking (X : Words) (t : Word) (tb cs : List ℕ) (i n v number : ℕ) : Type 0 where
  pub passed : ℕ
  pub walk : Walk X t tb cs i v passed
  pub sum : passed + number ≡ n

module _ {X : Words} {t : Word} {tb ss cs : List ℕ} {i n v number : ℕ} (ν : Numbered X t tb ss cs i n)
    (σ : Seeking X t tb cs i n v number) where
  pub seek_end : (i ≡ 0 → ⊥) → v ≡ absent → ⊥
  seek_end f e = omega (arith, walk_end σ.walk e f, ν.below, σ.sum)

  module _ {w c : ℕ} (ω : IsWord X v w) (e : c ≡ count_at X t (i - size X w)) where
    exact : c ≡ length (readings_to X t (i - size X w))
    exact = walk_count σ.walk ω ν.counted.exact e

    pub seek_here : number < c → LastOf X t i n v number
    seek_here h =
        let τ = walk_word σ.walk ω in
        let below : number < length (readings_to X t (i - size X w)) = omega (arith, exact) in
        record {
          word = w;
          is = ω;
          in_chain = walk_mem σ.walk ω;
          exact = exact_before τ ν.counted.exact;
          below = below;
          reading = ap (λ (k : ℕ). get_or (readings_to X t i) k []) (sym σ.sum) ∙ τ.each number below;
        }

    pub seek_past : c ≤ number → {l : ℕ} → l ≡ field_at tb v link_field → Seeking X t tb cs i n l (number - c)
    seek_past h g = record {
      passed = σ.passed + length (readings_to X t (i - size X w));
      walk = walk_on σ.walk ω g;
      sum = omega (arith, exact, σ.sum);
    }

-- .. and word w is none of those passed
pub record Finding (X : Words) (t : Word) (tb cs : List ℕ) (i w v number : ℕ) : Type 0 where
  pub walk : Walk X t tb cs i v number
  pub same : sought w (chain X (take i t)) ≡ sought w (words_at X v)

pub find_first : {X : Words} {t : Word} {tb ss cs : List ℕ} {i v : ℕ} (w : ℕ) → ScannedAt X t tb ss cs i
    → v ≡ stored (nearest (states X) X (take i t)) → Finding X t tb cs i w v 0
find_first w α e = record { walk = walk_first α e; same = ap (sought w) (sym (chain_there (placed α) e)) }

module _ {X : Words} {t : Word} {tb cs : List ℕ} {i w v number : ℕ} (φ : Finding X t tb cs i w v number) where
  pub find_end : v ≡ absent → Memᴰ w (chain X (take i t)) → ⊥
  find_end e = sought_none (chain X (take i t)) (φ.same ∙ ap (sought w) (no_words φ.walk.ending.walking.table e))

  module _ {m k : ℕ} (ω : IsWord X v m) (e : k ≡ field_at tb v word_field) where
    pub find_here : k ≡ w → Ahead X t i w v number
    find_here f = rw q (record { in_chain = walk_mem φ.walk ω; is = ω; together = walk_word φ.walk ω })
      where
        q : w ≡ m
        q = sym f ∙ word_number φ.walk.ending.walking.table ω e

    module _ {c : ℕ} (h : Exact X t i) (g : c ≡ count_at X t (i - size X m)) where
      pub find_fits : number + c < most_counted
      find_fits = omega (arith, walk_count φ.walk ω h g, (walk_word φ.walk ω).room)

      pub find_past : (k ≡ w → ⊥) → {l : ℕ} → l ≡ field_at tb v link_field → Finding X t tb cs i w l (number + c)
      find_past d {l} f = record {
        walk = rw (walk_count φ.walk ω h g) (walk_on φ.walk ω f);
        same = φ.same ∙ search.seek_past φ.walk.ending.walking ω e d f;
      }
