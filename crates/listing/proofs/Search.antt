-- The search for a word in a chain, and what stands behind it there.
use mathlib.Core.Path.{◌≡◌, refl, sym, ap, ◌∙◌, subst}
use mathlib.Core.Logic.{⊎_elim}
use mathlib.Core.Option.{Option as Maybe, none, some}
use mathlib.Core.List.Memᴰ
use mathlib.Core.List.{List, [], ◌∷◌, Memᴰ}
use Prim.Native.Nat.{ℕ}
use native.Mathlib.Decide.{ℕ_discrete}
use borrow.Author.Tests.{eq-eqb, ne_eqb}
use Rattle.std.specs.Prelude.{Option, None, Some, IsSome}
use Rattle.meaning.specs.Words.{Word, Words, find, word}
use Rattle.meaning.specs.Automaton.{states, chain}
use Rattle.meaning.specs.Table.{word_field, link_field}
use Rattle.meaning.specs.Listing.{behind}
use Rattle.meaning.proofs.Find.{Asked, got, lacks, ask, find_some}
use Rattle.meaning.proofs.Chains.{chain_here, chain_past}
use Rattle.meaning.proofs.Next.{behind_here, behind_past}
use Rattle.tree.specs.Layout.{field_at}
use Rattle.tree.specs.Tree.{IsTable}
use Rattle.listing.specs.Positions.{words_at, sought, IsWord, StateOf, Walking}
use Rattle.listing.proofs.Steps.{word_number, word_next}

-- the two cases of `sought`
sought_here : (n : ℕ) (c : List ℕ) → sought n (n ∷ c) ≡ some n
sought_here n c = rw (eq-eqb n n refl)

sought_past : (n m : ℕ) (c : List ℕ) → (m ≡ n → ⊥) → sought n (m ∷ c) ≡ sought n c
sought_past n m c d = rw (ne_eqb m n d)

-- .. at a word of a walk: it is the one looked for, or the search goes on at its link
module _ {X : Words} {tb : List ℕ} {v m n k : ℕ} (ω : Walking X tb v) (w : IsWord X v m) (e : k ≡ field_at tb v word_field) where
  pub seek_here : k ≡ n → sought n (words_at X v) ≡ some m
  seek_here f =
      let q : m ≡ n = sym (word_number ω.table w e) ∙ f in
      ap (sought n) ((word_next ω.table w refl).is ∙ ap (λ (x : ℕ). x ∷ words_at X (field_at tb v link_field)) q)
      ∙ sought_here n (words_at X (field_at tb v link_field))
      ∙ ap some (sym q)

  pub seek_past : (k ≡ n → ⊥) → {l : ℕ} → l ≡ field_at tb v link_field → sought n (words_at X v) ≡ sought n (words_at X l)
  seek_past f {l} g =
      ap (sought n) (word_next ω.table w g).is
      ∙ sought_past n m (words_at X l) (λ q. f (word_number ω.table w e ∙ q))

-- what an answer of `sought n c` says
abbrev Seeks : ℕ → List ℕ → Maybe ℕ → Type 0
Seeks n c none = Memᴰ n c → ⊥
Seeks n c (some m) = (m ≡ n) × Memᴰ n c

sought_seeks : (n : ℕ) (c : List ℕ) → Seeks n c (sought n c)
sought_seeks n [] = Memᴰ.not-nil
sought_seeks n (m ∷ c) = go (ℕ_discrete m n) (sought n c) refl (sought_seeks n c)
  where
    go : Dec (m ≡ n) → (o : Maybe ℕ) → sought n c ≡ o → Seeks n c o → Seeks n (m ∷ c) (sought n (m ∷ c))
    go (yes e) o q s = rw (eq-eqb m n e) (e, Memᴰ.head (sym e))
    go (no d) none q s = rw (ne_eqb m n d, q) (λ k. ⊎_elim (λ e. d (sym e)) s (Memᴰ.cases_cons k))
    go (no d) (some x) q s = rw (ne_eqb m n d, q) (s.0, Memᴰ.tail s.1)

pub sought_none : {n : ℕ} (c : List ℕ) → sought n c ≡ none → Memᴰ n c → ⊥
sought_none {n} c e = subst (Seeks n c) e (sought_seeks n c)

pub sought_some : {X : Words} {v : ℕ} (n : ℕ) (c : List ℕ) → StateOf X (sought n c) (Some v) → Memᴰ n c × IsWord X v n
sought_some {X} {v} n c (m, e, w) =
    let s : (m ≡ n) × Memᴰ n c = subst (Seeks n c) e (sought_seeks n c) in
    (s.1, subst (IsWord X v) s.0 w)

pub sought_word : {X : Words} {v : ℕ} (n : ℕ) (c : List ℕ) {r : Option ℕ} → StateOf X (sought n c) r → r ≡ Some v → IsWord X v n
sought_word {X} n c f e = (sought_some n c (subst (StateOf X (sought n c)) e f)).1

-- what is there is found
pub sought_there : (X : Words) {n : ℕ} (c : List ℕ) (r : Option ℕ) → StateOf X (sought n c) r → Memᴰ n c → IsSome r
sought_there X c None e k = absurd (sought_none c e k)
sought_there X c (Some v) e k = refl

-- what stands behind a word stands in the list
pub behind_mem : (n : ℕ) (c : List ℕ) {m : ℕ} → Memᴰ m (behind n c) → Memᴰ m c
behind_mem n [] k = k
behind_mem n (x ∷ c) {m} k = go (ℕ_discrete x n) (behind_mem n c)
  where
    go : Dec (x ≡ n) → (Memᴰ m (behind n c) → Memᴰ m c) → Memᴰ m (x ∷ c)
    go (yes e) more = Memᴰ.tail (rw (eq-eqb x n e) at k)
    go (no d) more = Memᴰ.tail (more (rw (ne_eqb x n d) at k))

-- behind a word of a chain stands what stands behind it in its own
behind_own : (X : Words) (u : Word) (n : ℕ) → Memᴰ n (chain X u) → behind n (chain X u) ≡ behind n (chain X (word X n))
behind_own X [] n m = absurd (Memᴰ.not-nil m)
behind_own X (a ∷ u) n m = go (ask (find X (a ∷ u))) (behind_own X u n)
  where
    go : Asked (find X (a ∷ u)) → (Memᴰ n (chain X u) → behind n (chain X u) ≡ behind n (chain X (word X n)))
        → behind n (chain X (a ∷ u)) ≡ behind n (chain X (word X n))
    go (lacks e) more = ap (behind n) (chain_past X a u e) ∙ more (subst (Memᴰ n) (chain_past X a u e) m)
    go (got k e) more = here (ℕ_discrete k n)
      where
        here : Dec (k ≡ n) → behind n (chain X (a ∷ u)) ≡ behind n (chain X (word X n))
        here (yes q) = ap (λ (w : Word). behind n (chain X w)) (sym (find_some X (a ∷ u) k e).reads ∙ ap (word X) q)
        here (no d) =
            ap (behind n) (chain_here X a u k e)
            ∙ behind_past n k (chain X u) d
            ∙ more (⊎_elim (λ q. absurd (d (sym q))) (λ j. j) (Memᴰ.cases_cons (subst (Memᴰ n) (chain_here X a u k e) m)))

-- .. and that is the chain from its link on
pub behind_link : {X : Words} {tb : List ℕ} {v n l : ℕ} (u : Word) → IsTable X tb → IsWord X v n → Memᴰ n (chain X u)
    → l ≡ field_at tb v link_field → behind n (chain X u) ≡ words_at X l
behind_link {X} {v = v} {n} {l} u ι w m e =
    behind_own X u n m
    ∙ ap (λ (x : Word). behind n (chain X x)) (find_some X (word (states X) v) n w.is).reads
    ∙ ap (behind n) (word_next ι w e).is
    ∙ behind_here n (words_at X l)
