-- The entry at a position from the one before it.
use mathlib.Core.Path.{◌≡◌, refl, sym, ap, ap₂, ◌∙◌}
use mathlib.Core.Option.{some}
use mathlib.Core.List.{List, [], ◌∷◌, Memᴰ}
use Prim.Native.Nat.{ℕ, suc, ◌+◌, ◌-◌, ◌<◌}
use native.Mathlib.Numerals.{add-one}
use native.Mathlib.Omega.{arith}
use lib.ListN.{length, get_or, take, length-map}
use Rattle.meaning.specs.Words.{Word, Words, snoc, word, size}
use Rattle.meaning.specs.Automaton.{states, nearest, chain}
use Rattle.meaning.specs.Readings.{capped, state_at, count_at, up_to}
use Rattle.meaning.proofs.Find.{some_inj}
use Rattle.meaning.proofs.Chains.{chain_fits}
use Rattle.meaning.proofs.Counts.{capped_sum, count_suc}
use Rattle.meaning.proofs.Columns.{column_at, column_long, state_inside, state_fits, state_chain, state_next}
use Rattle.letters.specs.Letters.{letter, mapped}
use Rattle.tree.specs.declared.index.ChildIndex.{ChildIndex}
use Rattle.tree.specs.Filling.{Bordered}
use Rattle.tree.proofs.Whole.{table_bordered}
use Rattle.columns.specs.Entries.{Ending, count_before, Tallied, Reached, IsEntry}

-- a text has as many letters as bytes
pub mapped_size : (m u : List ℕ) → length (mapped m u) ≡ length u
mapped_size m u = length-map u (letter m)

pub mapped_place : (m u : List ℕ) {i : ℕ} → i < length u → i < length (mapped m u)
mapped_place m u l = omega (arith, mapped_size m u)

capped_sum_cong : (f g : ℕ → ℕ) (a : ℕ) (ns : List ℕ) → ((n : ℕ) → Memᴰ n ns → f n ≡ g n) → capped_sum f a ns ≡ capped_sum g a ns
capped_sum_cong f g a [] h = refl
capped_sum_cong f g a (n ∷ ns) h =
    ap (λ (x : ℕ). capped_sum f (capped (a + x)) ns) (h n (Memᴰ.head refl))
    ∙ capped_sum_cong f g (capped (a + g n)) ns (λ m k. h m (Memᴰ.tail k))

-- the count at a position, by a column that is right up to the one before it
pub count_by_column : (X : Words) (t : Word) (cs : List ℕ) (i : ℕ) → take (suc i) cs ≡ up_to (count_at X t) (suc i)
    → count_at X t (suc i) ≡ capped_sum (count_before X cs (suc i)) 0 (chain X (take (suc i) t))
count_by_column X t cs i e =
    count_suc X t i
    ∙ capped_sum_cong (λ n. count_at X t (suc i - size X n)) (count_before X cs (suc i)) 0 (chain X (take (suc i) t))
    (λ n m. let (low, high) = chain_fits X t (suc i) m in sym (column_at (count_at X t) (suc i) cs e (suc i - size X n) (omega arith)))

-- a step from the state at position i, and the tally of the state it leads to
module _ {X : Words} {t : Word} {tb : List ℕ} {index : ChildIndex} {cs : List ℕ} {s i : ℕ} (ρ : Reached X t tb index cs s i) where
  pub reached_bordered : Bordered X (states X) tb index s
  reached_bordered = table_bordered ρ.table ρ.indexed (rw ρ.state (state_inside X t i))

  module _ {a v : ℕ} (l : a ≡ get_or t i 0) (e : nearest (states X) (states X) (snoc (word (states X) s) a) ≡ some v) where
    next_state : v ≡ state_at X t (suc i)
    next_state =
        some_inj (sym e
        ∙ ap₂ (λ (q b : ℕ). nearest (states X) (states X) (snoc (word (states X) q) b)) ρ.state l
        ∙ state_next X t i ρ.place)

    pub reached_ending : Ending X tb cs v (i + 1)
    reached_ending = record {
      table = ρ.table;
      inside = rw next_state (state_inside X t (suc i));
      fits = omega (arith, ap (λ (q : ℕ). length (word (states X) q)) next_state, state_fits X t (suc i));
      long = omega (arith, column_long (count_at X t) (suc i) cs ρ.counts);
    }

    pub reached_entry : {c p : ℕ} → Tallied X cs v (i + 1) c p → IsEntry X t (suc i) v c p
    reached_entry h =
        let words : chain X (word (states X) v) ≡ chain X (take (suc i) t)
        = ap (λ (q : ℕ). chain X (word (states X) q)) next_state ∙ sym (state_chain X t (suc i)) in
        record {
          state = next_state;
          count =
              h.sum
              ∙ ap₂ (λ (k : ℕ) (l : List ℕ). capped_sum (count_before X cs k) 0 l) (add-one i) words
              ∙ sym (count_by_column X t cs i ρ.counts);
          number = h.number ∙ ap length words;
        }
