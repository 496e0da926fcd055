-- The tally of the words that end at a state, along its chain.
use mathlib.Core.Path.{◌≡◌, refl, sym, ap, ◌∙◌, subst}
use mathlib.Core.List.{List, [], ◌∷◌, Memᴰ}
use Prim.Native.Nat.{ℕ, ◌+◌, ◌-◌, ◌≤◌, ◌<◌}
use native.Mathlib.Omega.{arith}
use lib.ListN.{length, get_or}
use Rattle.meaning.specs.Numbers.{longest_word}
use Rattle.meaning.specs.Words.{Words, word}
use Rattle.meaning.specs.Automaton.{states, nearest, chain}
use Rattle.meaning.specs.Table.{stored, depth_field, link_field, chain_field}
use Rattle.meaning.specs.Readings.{capped}
use Rattle.meaning.proofs.Chains.{chain_word, ends_fits}
use Rattle.meaning.proofs.Counts.{capped_sum}
use Rattle.tree.specs.Layout.{field_at, HasRow}
use Rattle.tree.specs.Tree.{Whole, IsTable}
use Rattle.tree.proofs.Walk.{state_row}
use Rattle.tree.proofs.Chain.{AtWord, OnChain, Next, begins, chain_end, next, at_depth}
use Rattle.tree.proofs.Whole.{table_whole}
use Rattle.columns.specs.Entries.{Ending, count_before, Tallied}

-- a state has no more letters than a word may have
pub state_short : {X : Words} {tb : List ℕ} {s : ℕ} → IsTable X tb → s < length (states X) → length (word (states X) s) ≤ longest_word
state_short {X} {s = s} ι l = let σ = (table_whole ι).tree.states in σ.short (word (states X) s) s (σ.trie.once s l)

-- the words of the chain before v are counted, so many as `done`
pub record Tallying (X : Words) (cs : List ℕ) (s i c done v : ℕ) : Type 0 where
  pub on : OnChain X (states X) v
  pub within : (n : ℕ) → Memᴰ n (chain X (word (states X) v)) → Memᴰ n (chain X (word (states X) s))
  pub sum : capped_sum (count_before X cs i) c (chain X (word (states X) v)) ≡ capped_sum (count_before X cs i) 0 (chain X (word (states X) s))
  pub number : done + length (chain X (word (states X) v)) ≡ length (chain X (word (states X) s))

none_left : (l : List ℕ) → length l ≡ 0 → l ≡ []
none_left [] e = refl
none_left (n ∷ l) e = absurd (omega (arith, e))

module _ {X : Words} {tb cs : List ℕ} {s i : ℕ} (ε : Ending X tb cs s i) where
  whole : Whole X (states X) tb
  whole = table_whole ε.table

  pub own_row : HasRow tb s
  own_row = state_row whole.tree ε.inside

  -- the row of s tells how many words there are
  pub tally_words : {words : ℕ} → words ≡ field_at tb s chain_field → words ≡ length (chain X (word (states X) s))
  tally_words e = e ∙ whole.chains s ε.inside

  pub tally_start : {v : ℕ} → v ≡ stored (nearest (states X) X (word (states X) s)) → Tallying X cs s i 0 0 v
  tally_start e =
      let b = begins whole.tree (word (states X) s) e in
      record {
        on = b.on;
        within = λ n m. subst (λ (l : List ℕ). Memᴰ n l) b.same m;
        sum = ap (capped_sum (count_before X cs i) 0) b.same;
        number = omega (arith, ap length b.same);
      }

  module _ {c done v words : ℕ} (φ : Tallying X cs s i c done v) (w : words ≡ field_at tb s chain_field) where
    pub tally_end : words ≤ done → Tallied X cs s i c words
    tally_end h =
        let z = none_left (chain X (word (states X) v)) (omega (arith, φ.number, tally_words w)) in
        record { sum = sym (ap (capped_sum (count_before X cs i) c) z) ∙ φ.sum; number = tally_words w }

    module _ (more : done < words) where
      abbrev here : AtWord X (states X) v
      here = φ.on.here (λ e. omega (arith, φ.number, tally_words w, ap length (chain_end whole.tree e)))

      pub tally_row : HasRow tb v
      tally_row = state_row whole.tree here.inside

      next_word : {l : ℕ} → l ≡ field_at tb v link_field → Next X (states X) tb v here.number l
      next_word e = next whole.tree whole.links here e

      -- the word's letters stand before position i
      pub tally_fits : {d : ℕ} → d ≡ field_at tb v depth_field → (1 ≤ d) × (d ≤ i)
      tally_fits e =
          let m = subst (λ (l : List ℕ). Memᴰ here.number l) (sym (next_word refl).is) (Memᴰ.head refl) in
          let (ends, low) = chain_word X (word (states X) s) (φ.within here.number m) in
          let d = at_depth whole.tree here in
          (omega arith, omega (arith, ends_fits ends, ε.fits))

      pub tally_on : {d l r : ℕ} → d ≡ field_at tb v depth_field → l ≡ field_at tb v link_field → r ≡ capped (c + get_or cs (i - d) 0)
          → Tallying X cs s i r (done + 1) l
      tally_on {l = l} {r} e g q =
          let n = next_word g in
          let k : r ≡ capped (c + count_before X cs i here.number)
          = q ∙ ap (λ (j : ℕ). capped (c + get_or cs (i - j) 0)) (e ∙ at_depth whole.tree here) in
          record {
            on = n.on;
            within = λ m h. φ.within m (subst (λ (x : List ℕ). Memᴰ m x) (sym n.is) (Memᴰ.tail h));
            sum =
                ap (λ (x : ℕ). capped_sum (count_before X cs i) x (chain X (word (states X) l))) k
                ∙ sym (ap (capped_sum (count_before X cs i) c) n.is)
                ∙ φ.sum;
            number = omega (arith, φ.number, ap length n.is);
          }
