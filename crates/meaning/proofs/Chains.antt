-- Which words stand in a chain; the chain of a text by its state, its border and its link; the longest chain.
use mathlib.Core.Path.{◌≡◌, refl, sym, ◌∙◌, ap, subst}
use mathlib.Core.Logic.{⊎_elim, ◌↔◌}
use mathlib.Core.Option.{Option, none, some}
use mathlib.Core.List.Memᴰ
use mathlib.Core.List.{List, [], ◌∷◌, ◌++◌, Memᴰ, tail-eq_of_cons-eq}
use Prim.Native.Nat.{ℕ, zero, suc, ◌-◌, ◌≤◌, ◌<◌, zero-le, suc-le-suc}
use native.Mathlib.Decide.{dec_le}
use native.Mathlib.Omega.{arith}
use lib.ListN.{length, get_or, take, length-append, length-take}
use lib.Seq.{take-take, take_at}
use Rattle.meaning.specs.Words.{Word, Words, find, word, size}
use Rattle.meaning.specs.Automaton.{states, nearest, border, link, cons_found, chain, longest_of, longest_chain}
use Rattle.meaning.specs.Plain.{Dictionary, EndsWith, Shorter, Ordered}
use Rattle.meaning.proofs.Lists.{ordered_at}
use Rattle.meaning.proofs.Find.{none_or_some, Finds, find_finds, find_some}
use Rattle.meaning.proofs.States.{Within, within_self, states_trie, states_within}
use Rattle.meaning.proofs.Suffixes.{suffix_longer, suffix_whole, suffix-length, nearest_here, nearest_past, nearest_end, along_nearest, nearest_none, nearest_inside, proper_number, state_exists}

-- a word of a chain ends the text, and is not empty
pub chain_word : (X : Words) (u : Word) {n : ℕ} → Memᴰ n (chain X u) → EndsWith X u n × (1 ≤ size X n)
chain_word X [] m = elim m [ ]
chain_word X (a ∷ u) {n} m = go (find X (a ∷ u)) (find_finds X (a ∷ u)) m (λ k. chain_word X u k)
  where
    longer : EndsWith X u n × (1 ≤ size X n) → EndsWith X (a ∷ u) n × (1 ≤ size X n)
    longer (e, h) = (record { below = e.below; suffix = suffix_longer a e.suffix }, h)

    whole : (k : ℕ) → Finds X (a ∷ u) (some k) → n ≡ k → EndsWith X (a ∷ u) n × (1 ≤ size X n)
    whole k f e = rw e (
      record { below = f.inside; suffix = rw f.reads (suffix_whole (a ∷ u)) },
      rw f.reads (suc-le-suc zero-le),
    )

    go : (o : Option ℕ) → Finds X (a ∷ u) o → Memᴰ n (cons_found o (chain X u))
        → (Memᴰ n (chain X u) → EndsWith X u n × (1 ≤ size X n)) → EndsWith X (a ∷ u) n × (1 ≤ size X n)
    go none f k more = longer (more k)
    go (some i) f k more = ⊎_elim (whole i f) (λ j. longer (more j)) (Memᴰ.cases_cons k)

pub chain_ends : (X : Words) (u : Word) {n : ℕ} → Memᴰ n (chain X u) → EndsWith X u n
chain_ends X u m = (chain_word X u m).0

pub ends_fits : {X : Words} {u : Word} {n : ℕ} → EndsWith X u n → size X n ≤ length u
ends_fits e = suffix-length e.suffix

-- a word that ends the text is in its chain
ends_chain : (X : Words) → Dictionary X → (u : Word) (n : ℕ) → n < length X → (p : Word) → p ++ word X n ≡ u → Memᴰ n (chain X u)
ends_chain X D [] n h p e = absurd (omega (arith, length-append p (word X n), ap length e, D.nonempty n h))
ends_chain X D (a ∷ u) n h [] e = go (find X (a ∷ u)) (find_finds X (a ∷ u))
  where
    go : (o : Option ℕ) → Finds X (a ∷ u) o → Memᴰ n (cons_found o (chain X u))
    go none f = absurd (f n h e)
    go (some i) f = Memᴰ.head (D.distinct n i h f.inside (e ∙ sym f.reads))
ends_chain X D (a ∷ u) n h (b ∷ p) e = go (find X (a ∷ u)) (ends_chain X D u n h p (tail-eq_of_cons-eq e))
  where
    go : (o : Option ℕ) → Memᴰ n (chain X u) → Memᴰ n (cons_found o (chain X u))
    go none m = m
    go (some i) m = Memᴰ.tail m

-- the chain is exactly the words that are suffixes, ..
pub chain_is : (X : Words) → Dictionary X → (u : Word) (n : ℕ) → Memᴰ n (chain X u) ↔ EndsWith X u n
chain_is X D u n = (λ m. chain_ends X u m, λ e. ends_chain X D u n e.below e.suffix.before e.suffix.joins)

-- .. longest first
pub chain_falls : (X : Words) (u : Word) → Ordered (Shorter X) (chain X u)
chain_falls X [] = tt
chain_falls X (a ∷ u) = go (find X (a ∷ u)) (find_finds X (a ∷ u)) (chain_falls X u)
  where
    go : (o : Option ℕ) → Finds X (a ∷ u) o → Ordered (Shorter X) (chain X u) → Ordered (Shorter X) (cons_found o (chain X u))
    go none f o = o
    go (some i) f o = (λ m k. rw f.reads (suc-le-suc (ends_fits (chain_ends X u k))), o)

pub chain_once : (X : Words) (u : Word) (i j : ℕ) → i < j → j < length (chain X u) → get_or (chain X u) i 0 ≡ get_or (chain X u) j 0 → ⊥
chain_once X u i j h k e = omega (arith, ap (size X) e, ordered_at (Shorter X) (chain X u) 0 (chain_falls X u) i j h k)

pub chain_length : (X : Words) (u : Word) → length (chain X u) ≤ length u
chain_length X [] = omega arith
chain_length X (a ∷ u) = go (find X (a ∷ u)) (chain_length X u)
  where
    go : (o : Option ℕ) → length (chain X u) ≤ length u → length (cons_found o (chain X u)) ≤ length (a ∷ u)
    go none h = omega arith
    go (some n) h = omega arith

-- a word of the chain at position i of a text fits before i, and what stands before it
pub chain_fits : (X : Words) (t : Word) (i : ℕ) {n : ℕ} → Memᴰ n (chain X (take i t)) → (1 ≤ size X n) × (size X n ≤ i)
chain_fits X t i m = let (e, h) = chain_word X (take i t) m in (h, omega (arith, ends_fits e, length-take i t))

pub chain_splits : (X : Words) (t : Word) (i : ℕ) → i ≤ length t → {n : ℕ} → Memᴰ n (chain X (take i t))
    → take (i - size X n) t ++ word X n ≡ take i t
chain_splits X t i h {n} m =
    let s = (chain_ends X (take i t) m).suffix in
    let k : length s.before ≡ i - size X n
    = omega (arith, length-append s.before (word X n), ap length s.joins, length-take i t) in
    let p : take (i - size X n) t ≡ s.before
    = sym (take-take (i - size X n) i t (omega arith))
    ∙ ap (take (i - size X n)) (sym s.joins)
    ∙ take_at s.before (word X n) (i - size X n) k in
    ap (λ (q : Word). q ++ word X n) p ∙ s.joins

-- the two cases of `chain`
pub chain_past : (X : Words) (a : ℕ) (u : Word) → find X (a ∷ u) ≡ none → chain X (a ∷ u) ≡ chain X u
chain_past X a u e = rw e

pub chain_here : (X : Words) (a : ℕ) (u : Word) (n : ℕ) → find X (a ∷ u) ≡ some n → chain X (a ∷ u) ≡ n ∷ chain X u
chain_here X a u n e = rw e

module _ (X S : Words) where
  -- a text's chain is that of its longest suffix in a list that has the words: the states, or the words themselves
  pub chain_nearest : (Y : Words) → Within X Y → (u : Word) (s : ℕ) → nearest S Y u ≡ some s → chain X u ≡ chain X (word S s)
  chain_nearest Y i = along_nearest S Y (chain X) (λ a u e. chain_past X a u (i (a ∷ u) e))

  pub chain_none : Within X S → (u : Word) → nearest S X u ≡ none → chain X u ≡ []
  chain_none i [] h = refl
  chain_none i (a ∷ u) h =
      let e = nearest_none S X i (a ∷ u) h (a ∷ u) (suffix_whole (a ∷ u)) in
      chain_past X a u e ∙ chain_none i u (sym (nearest_past S X a u e) ∙ h)

  -- the chain goes on at the link, and ends where there is none
  pub chain_link : (v : Word) (l : ℕ) → link X S v ≡ some l → chain X v ≡ cons_found (find X v) (chain X (word S l))
  chain_link [] l h = none_or_some refl h
  chain_link (a ∷ u) l h = ap (cons_found (find X (a ∷ u))) (chain_nearest X (within_self X) u l h)

  pub chain_last : Within X S → find X [] ≡ none → (v : Word) → link X S v ≡ none → chain X v ≡ cons_found (find X v) []
  chain_last i z [] h = rw z
  chain_last i z (a ∷ u) h = ap (cons_found (find X (a ∷ u))) (chain_none i u h)

  -- .. or at the border
  pub chain_border : Within X S → (v : Word) (b : ℕ) → border S v ≡ some b → chain X v ≡ cons_found (find X v) (chain X (word S b))
  chain_border i [] b h = none_or_some refl h
  chain_border i (a ∷ u) b h = ap (cons_found (find X (a ∷ u))) (chain_nearest S i u b h)

  -- the nearest word is that of the nearest state
  pub word_of_state : Within X S → (u : Word) (s : ℕ) → nearest S S u ≡ some s → nearest S X u ≡ nearest S X (word S s)
  word_of_state i = along_nearest S S (nearest S X) (λ a u e. nearest_past S X a u (i (a ∷ u) e))

  pub word_past : (v : Word) → find X v ≡ none → nearest S X v ≡ link X S v
  word_past [] e = nearest_end S X e
  word_past (a ∷ u) e = nearest_past S X a u e

  -- the link is the nearest word at the border: ..
  pub link_of_border : Within X S → (v : Word) (b : ℕ) → border S v ≡ some b → link X S v ≡ nearest S X (word S b)
  link_of_border i [] b h = none_or_some refl h
  link_of_border i (a ∷ u) b h = word_of_state i u b h

  -- .. the border where that is a word, and else the border's link
  pub link_is_border : Within X S → (v : Word) (b n : ℕ) → border S v ≡ some b → find X (word S b) ≡ some n → link X S v ≡ some b
  link_is_border i v b n h e = link_of_border i v b h ∙ nearest_here S X _ n e ∙ proper_number S S v b h

  pub link_past_border : Within X S → (v : Word) (b : ℕ) → border S v ≡ some b → find X (word S b) ≡ none
      → link X S v ≡ link X S (word S b)
  link_past_border i v b h e = link_of_border i v b h ∙ word_past _ e

-- no chain is longer than r
longest_bound : (X us : Words) (n : ℕ) → n < length us → length (chain X (word us n)) ≤ longest_of X us
longest_bound X [] n l = absurd (omega arith)
longest_bound X (u ∷ us) zero l = omega arith
longest_bound X (u ∷ us) (suc n) l = omega (arith, longest_bound X us n (omega arith))

pub chain_within_r : (X : Words) (u : Word) → length (chain X u) ≤ longest_chain X
chain_within_r X u =
    let (s, e) = state_exists (states X) (states_trie X) u in
    subst (λ (c : List ℕ). length c ≤ longest_chain X) (sym (chain_nearest X (states X) (states X) (states_within X) u s e))
    (longest_bound X (states X) s (nearest_inside (states X) (states X) u s e))

-- and that of some state is as long
longest_attained : (X : Words) (u : Word) (us : Words)
    → (n : ℕ) × (n < suc (length us)) × (length (chain X (word (u ∷ us) n)) ≡ longest_of X (u ∷ us))
longest_attained X u [] = (0, omega arith, omega arith)
longest_attained X u (v ∷ us) = go (longest_attained X v us) (dec_le (longest_of X (v ∷ us)) (length (chain X u)))
  where
    go : (n : ℕ) × (n < suc (length us)) × (length (chain X (word (v ∷ us) n)) ≡ longest_of X (v ∷ us))
        → Dec (longest_of X (v ∷ us) ≤ length (chain X u))
        → (n : ℕ) × (n < suc (suc (length us))) × (length (chain X (word (u ∷ v ∷ us) n)) ≡ longest_of X (u ∷ v ∷ us))
    go more (yes l) = (0, omega arith, omega arith)
    go (n, k, e) (no l) = (suc n, omega arith, omega arith)

pub r_attained : (X : Words) → (n : ℕ) × (n < length (states X)) × (length (chain X (word (states X) n)) ≡ longest_chain X)
r_attained X = go (states X) (find_some (states X) [] 0 (states_trie X).root).inside
  where
    go : (us : Words) → 0 < length us → (n : ℕ) × (n < length us) × (length (chain X (word us n)) ≡ longest_of X us)
    go [] l = absurd (omega arith)
    go (u ∷ us) l = longest_attained X u us
