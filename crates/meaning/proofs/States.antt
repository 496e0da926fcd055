-- The states of a dictionary: what holds of them while they are gathered, and in the end.
use mathlib.Core.Path.{◌≡◌, refl, sym, ◌∙◌, ap, subst}
use mathlib.Core.Logic.{◌≢◌, ◌↔◌}
use mathlib.Core.Option.{none, some}
use mathlib.Core.List.{[], ◌∷◌, ◌++◌, append_assoc, append-nil, concat-ne-nil}
use Prim.Native.Nat.{ℕ, zero, suc, ◌+◌, ◌≤◌, ◌<◌}
use native.Mathlib.Decide.{dec_lt}
use native.Mathlib.Omega.{arith}
use lib.ListN.{length, get_or, length-append, get_or-append}
use lib.Seq.{append_snoc, get_or-append_seam}
use Rattle.meaning.specs.Numbers.{letter_values, most_words, longest_word, most_states}
use Rattle.meaning.specs.Words.{Word, Words, snoc, find, word, total}
use Rattle.meaning.specs.Automaton.{prefixes, appearing, add, add_all, states}
use Rattle.meaning.specs.Plain.{Has, Distinct, Each, LettersBelow, Allowed, Prefix, PrefixIn, empty, of}
use Rattle.meaning.proofs.Lists.{snoc_inj, snoc-length}
use Rattle.meaning.proofs.Find.{Asked, got, lacks, ask, Alike, alike, apart, compare, none_or_some, none_unless, some_with, some_inj, find_some, find_kept, find_new, find_other, find_past, Once, once_distinct, each_has, has_word, no_empty}

-- every word of X is in S
abbrev pub Within : Words → Words → Type 0
Within X S = (w : Word) → find S w ≡ none → find X w ≡ none

pub within_has : (X S : Words) → Within X S → (w : Word) → Has X w → Has S w
within_has X S i w h = let (n, e) = some_with (i w) h.found in record { place = n; found = e }

pub within_self : (S : Words) → Within S S
within_self S w e = e

-- Y with more words after it
pub record Extends (Y Y' : Words) : Type 0 where
  pub rest : Words
  pub split : Y' ≡ Y ++ rest

pub extends_refl : (Y : Words) → Extends Y Y
extends_refl Y = record { rest = []; split = sym (append-nil Y) }

pub extends_trans : {Y Y' Y'' : Words} → Extends Y Y' → Extends Y' Y'' → Extends Y Y''
extends_trans {Y} x x' = record { rest = x.rest ++ x'.rest; split = cc (append_assoc Y x.rest x'.rest) }

pub extends_find : {Y Y' : Words} → Extends Y Y' → (u : Word) (n : ℕ) → find Y u ≡ some n → find Y' u ≡ some n
extends_find {Y} x u n h = rw x.split (find_kept Y x.rest u n h)

pub extends_has : {Y Y' : Words} → Extends Y Y' → (u : Word) → Has Y u → Has Y' u
extends_has x u h = record { place = h.place; found = extends_find x u _ h.found }

pub extends_within : {Y Y' : Words} → Extends Y Y' → Within Y Y'
extends_within x u e = none_unless _ (λ n f. none_or_some e (extends_find x u n f))

pub extends_word : {Y Y' : Words} → Extends Y Y' → (n : ℕ) → n < length Y → word Y' n ≡ word Y n
extends_word {Y} x n l = rw x.split (get_or-append Y x.rest [] n l)

pub extends_length : {Y Y' : Words} → Extends Y Y' → length Y ≤ length Y'
extends_length {Y} x = rw x.split (omega (arith, length-append Y x.rest))

-- the places of a list with one word more
pub data Placed (Y : Words) (u : Word) (n : ℕ) : Type 0 where
  before : n < length Y → word (snoc Y u) n ≡ word Y n → Placed Y u n
  at_end : n ≡ length Y → word (snoc Y u) n ≡ u → Placed Y u n

pub placed : (Y : Words) (u : Word) (n : ℕ) → n < length (snoc Y u) → Placed Y u n
placed Y u n l = go (dec_lt n (length Y))
  where
    go : Dec (n < length Y) → Placed Y u n
    go (yes k) = before k (get_or-append Y (u ∷ []) [] n k)
    go (no k) = let e : n ≡ length Y = omega (arith, snoc-length Y u) in at_end e (rw e (get_or-append_seam Y u [] []))

-- the two cases of `add`
pub add_old : (S : Words) (u : Word) (n : ℕ) → find S u ≡ some n → add S u ≡ S
add_old S u n e = rw e

pub add_new : (S : Words) (u : Word) → find S u ≡ none → add S u ≡ snoc S u
add_new S u e = rw e

pub add_cases : (P : Words → Type 0) (S : Words) (u : Word)
    → ((n : ℕ) → find S u ≡ some n → P S) → (find S u ≡ none → P (snoc S u)) → P (add S u)
add_cases P S u old new = go (ask (find S u))
  where
    go : Asked (find S u) → P (add S u)
    go (got n e) = rw (add_old S u n e) (old n e)
    go (lacks e) = rw (add_new S u e) (new e)

pub add_extends : (S : Words) (u : Word) → Extends S (add S u)
add_extends S u = add_cases (Extends S) S u (λ n e. extends_refl S) (λ e. record { rest = u ∷ []; split = refl })

pub add_has : (S : Words) (u : Word) → Has (add S u) u
add_has S u =
    add_cases (λ Y. Has Y u) S u
    (λ n e. record { place = n; found = e })
    (λ e. record { place = length S; found = find_new S u e })

pub add_other : (S : Words) (u v : Word) → u ≢ v → find (add S u) v ≡ find S v
add_other S u v d = add_cases (λ Y. find Y v ≡ find S v) S u (λ n e. refl) (λ e. find_other S u v d)

pub add-length : (S : Words) (u : Word) → length (add S u) ≤ suc (length S)
add-length S u = add_cases (λ Y. length Y ≤ suc (length S)) S u (λ n e. omega arith) (λ e. omega (arith, snoc-length S u))

pub add_each : (P : Word → Type 0) (S : Words) (u : Word) → Each P S → P u → Each P (add S u)
add_each P S u h k = add_cases (Each P) S u (λ n e. h) (λ e n l. at n (placed S u n l))
  where
    at : (n : ℕ) → Placed S u n → P (word (snoc S u) n)
    at n (before l e) = rw e (h n l)
    at n (at_end l e) = rw e k

pub add_once : (S : Words) (u : Word) → Once S → Once (add S u)
add_once S u o = add_cases Once S u (λ n e. o) (λ e n l. at e n (placed S u n l))
  where
    at : find S u ≡ none → (n : ℕ) → Placed S u n → find (snoc S u) (word (snoc S u) n) ≡ some n
    at e n (before l f) = rw f (find_kept S (u ∷ []) _ n (o n l))
    at e n (at_end l f) = rw f (rw l (find_new S u e))

-- several words
pub add_all-append : (S us vs : Words) → add_all S (us ++ vs) ≡ add_all (add_all S us) vs
add_all-append S [] vs = refl
add_all-append S (u ∷ us) vs = add_all-append (add S u) us vs

pub add_all_extends : (S us : Words) → Extends S (add_all S us)
add_all_extends S [] = extends_refl S
add_all_extends S (u ∷ us) = extends_trans (add_extends S u) (add_all_extends (add S u) us)

pub add_all-length : (S us : Words) → length (add_all S us) ≤ length S + length us
add_all-length S [] = omega arith
add_all-length S (u ∷ us) = omega (arith, add-length S u, add_all-length (add S u) us)

pub add_all_each : (P : Word → Type 0) (S us : Words) → Each P S → Each P us → Each P (add_all S us)
add_all_each P S [] h k = h
add_all_each P S (u ∷ us) h k = add_all_each P (add S u) us (add_each P S u h (k 0 (omega arith))) (λ n l. k (suc n) (omega arith))

-- the prefixes of a word, and of all words
pub prefixes_snoc : (p u : Word) (a : ℕ) → prefixes p (snoc u a) ≡ snoc (prefixes p u) (snoc (p ++ u) a)
prefixes_snoc p [] a = rw append-nil
prefixes_snoc p (b ∷ u) a = ap (λ (l : Words). snoc p b ∷ l) (prefixes_snoc (snoc p b) u a ∙ rw append_snoc)

pub prefixes-append : (p u v : Word) → prefixes p (u ++ v) ≡ prefixes p u ++ prefixes (p ++ u) v
prefixes-append p [] v = rw append-nil
prefixes-append p (b ∷ u) v = ap (λ (l : Words). snoc p b ∷ l) (prefixes-append (snoc p b) u v ∙ rw append_snoc)

pub prefixes-length : (p u : Word) → length (prefixes p u) ≡ length u
prefixes-length p [] = refl
prefixes-length p (a ∷ u) = ap suc (prefixes-length (snoc p a) u)

prefixes_each : (P : Word → Type 0) (p u : Word) → ((v : Word) → Prefix v (p ++ u) → P v) → Each P (prefixes p u)
prefixes_each P p [] f n l = absurd (omega arith)
prefixes_each P p (a ∷ u) f zero l = f (snoc p a) (record { after = u; joins = append_snoc p a u })
prefixes_each P p (a ∷ u) f (suc n) l =
    prefixes_each P (snoc p a) u (λ v h. f v (record { after = h.after; joins = h.joins ∙ append_snoc p a u })) n (omega arith)

pub total-append : (X Y : Words) → total (X ++ Y) ≡ total X + total Y
total-append [] Y = omega arith
total-append (w ∷ X) Y = omega (arith, total-append X Y)

pub appearing-length : (X : Words) → length (appearing X) ≡ total X
appearing-length [] = refl
appearing-length (w ∷ ws) = omega (arith, length-append (prefixes [] w) (appearing ws), prefixes-length [] w, appearing-length ws)

each_append : (P : Word → Type 0) (us vs : Words) → Each P us → Each P vs → Each P (us ++ vs)
each_append P [] vs h k n l = k n l
each_append P (u ∷ us) vs h k zero l = h 0 (omega arith)
each_append P (u ∷ us) vs h k (suc n) l = each_append P us vs (λ m i. h (suc m) (omega arith)) k n (omega arith)

appearing_each : (P : Word → Type 0) (X : Words) → Each (λ w. (v : Word) → Prefix v w → P v) X → Each P (appearing X)
appearing_each P [] f = λ n l. absurd (omega arith)
appearing_each P (w ∷ ws) f =
    each_append P (prefixes [] w) (appearing ws)
    (prefixes_each P [] w (f 0 (omega arith)))
    (appearing_each P ws (λ n l. f (suc n) (omega arith)))

-- S can be the states so far: the empty word has number 0, no word stands twice, and without its last letter a state is one too
pub record Trie (S : Words) : Type 0 where
  pub root : find S [] ≡ some 0
  pub once : Once S
  pub closed : (p : Word) (a : ℕ) → find S p ≡ none → find S (snoc p a) ≡ none

pub trie_root : {S : Words} → Trie S → Has S []
trie_root t = record { place = 0; found = t.root }

pub trie_front : {S : Words} → Trie S → (p : Word) (a : ℕ) → Has S (snoc p a) → Has S p
trie_front t p a h = let (n, e) = some_with (t.closed p a) h.found in record { place = n; found = e }

pub trie_prefix : {S : Words} → Trie S → (v r : Word) → Has S (v ++ r) → Has S v
trie_prefix t v [] h = rw append-nil at h
trie_prefix {S} t v (a ∷ r) h = trie_front t v a (trie_prefix t (snoc v a) r (subst (Has S) (sym (append_snoc v a r)) h))

-- a child of a state may be added
pub add_trie : (S : Words) (p : Word) (a : ℕ) → Trie S → Has S p → Trie (add S (snoc p a))
add_trie S p a t h = record {
  root = extends_find x [] 0 t.root;
  once = add_once S (snoc p a) t.once;
  closed = λ q b e. closed' q b e (compare (snoc p a) (snoc q b));
}
  where
    x : Extends S (add S (snoc p a))
    x = add_extends S (snoc p a)

    closed' : (q : Word) (b : ℕ) → find (add S (snoc p a)) q ≡ none → Alike (snoc p a) (snoc q b)
        → find (add S (snoc p a)) (snoc q b) ≡ none
    closed' q b e (alike f) =
        none_or_some e (extends_has x q (rw (snoc_inj p q f).0 at h)).found
    closed' q b e (apart d) = add_other S (snoc p a) (snoc q b) d ∙ t.closed q b (extends_within x q e)

prefixes_trie : (S : Words) (p u : Word) → Trie S → Has S p → Trie (add_all S (prefixes p u))
prefixes_trie S p [] t h = t
prefixes_trie S p (a ∷ u) t h = prefixes_trie (add S (snoc p a)) (snoc p a) u (add_trie S p a t h) (add_has S (snoc p a))

prefixes_has : (S : Words) (p u : Word) → Has S p → Has (add_all S (prefixes p u)) (p ++ u)
prefixes_has S p [] h = rw append-nil h
prefixes_has S p (a ∷ u) h = rw append_snoc at (prefixes_has (add S (snoc p a)) (snoc p a) u (add_has S (snoc p a)))

appearing_trie : (S X : Words) → Trie S → Trie (add_all S (appearing X))
appearing_trie S [] t = t
appearing_trie S (w ∷ ws) t =
    rw (add_all-append S (prefixes [] w) (appearing ws))
    (appearing_trie (add_all S (prefixes [] w)) ws (prefixes_trie S [] w t (trie_root t)))

appearing_has : (S X : Words) → Has S [] → Each (Has (add_all S (appearing X))) X
appearing_has S [] h n l = absurd (omega arith)
appearing_has S (w ∷ ws) h n l =
    rw (add_all-append S (prefixes [] w) (appearing ws))
    (go (appearing_has S' ws (extends_has (add_all_extends S (prefixes [] w)) [] h)) n l)
  where
    S' : Words
    S' = add_all S (prefixes [] w)

    go : Each (Has (add_all S' (appearing ws))) ws → Each (Has (add_all S' (appearing ws))) (w ∷ ws)
    go more zero k = extends_has (add_all_extends S' (appearing ws)) w (prefixes_has S [] w h)
    go more (suc m) k = more m (omega arith)

-- all states
root_trie : Trie ([] ∷ [])
root_trie = record { root = refl; once = once; closed = λ p a e. find_past [] [] (snoc p a) (λ q. concat-ne-nil a p (sym q)) }
  where
    once : Once ([] ∷ [])
    once zero l = refl
    once (suc n) l = absurd (omega arith)

pub states_trie : (X : Words) → Trie (states X)
states_trie X = appearing_trie ([] ∷ []) X root_trie

pub states_within : (X : Words) → Within X (states X)
states_within X w e =
    none_unless _ (λ n f. none_or_some e (each_has (Has (states X)) X (appearing_has ([] ∷ []) X (trie_root root_trie)) w (record { place = n; found = f })).found)

pub states-length : (X : Words) → length (states X) ≤ suc (total X)
states-length X = omega (arith, add_all-length ([] ∷ []) (appearing X), appearing-length X)

pub appearing_snoc : (X : Words) (w : Word) → appearing (snoc X w) ≡ appearing X ++ prefixes [] w
appearing_snoc [] w = append-nil (prefixes [] w)
appearing_snoc (v ∷ X) w = ap (λ (l : Words). prefixes [] v ++ l) (appearing_snoc X w) ∙ sym (append_assoc (prefixes [] v) (appearing X) (prefixes [] w))

pub states_snoc : (X : Words) (w : Word) → states (snoc X w) ≡ add_all (states X) (prefixes [] w)
states_snoc X w = ap (add_all ([] ∷ [])) (appearing_snoc X w) ∙ add_all-append ([] ∷ []) (appearing X) (prefixes [] w)

-- what holds of the empty word and of each prefix of each word
pub states_each : (P : Word → Type 0) (X : Words) → P [] → Each (λ w. (v : Word) → Prefix v w → P v) X → Each P (states X)
states_each P X h f = add_all_each P ([] ∷ []) (appearing X) only (appearing_each P X f)
  where
    only : Each P ([] ∷ [])
    only zero l = h
    only (suc n) l = absurd (omega arith)

-- the states are exactly the prefixes of the words, the empty one first, and no two are alike
pub states_are_prefixes : (X : Words) (u : Word) → Has (states X) u ↔ PrefixIn X u
states_are_prefixes X u = (each_has (PrefixIn X) (states X) (states_each (PrefixIn X) X (empty refl) (λ n l v p. of n l p)) u, back)
  where
    back : PrefixIn X u → Has (states X) u
    back (empty e) = rw e (trie_root (states_trie X))
    back (of n l p) =
        trie_prefix (states_trie X) u p.after
        (subst (Has (states X)) (sym p.joins) (within_has X (states X) (states_within X) (word X n) (has_word X n l)))

pub states_root : (X : Words) → word (states X) 0 ≡ []
states_root X = (find_some (states X) [] 0 (states_trie X).root).reads

pub states_distinct : (X : Words) → Distinct (states X)
states_distinct X = once_distinct (states X) (states_trie X).once

appended : (Y : Words) (u : Word) → Has (snoc Y u) u
appended Y u = go (ask (find Y u))
  where
    x : Extends Y (snoc Y u)
    x = record { rest = u ∷ []; split = refl }

    go : Asked (find Y u) → Has (snoc Y u) u
    go (got n e) = record { place = n; found = extends_find x u n e }
    go (lacks e) = record { place = length Y; found = find_new Y u e }

-- u first appears before v does
pub record Earlier (us : Words) (u v : Word) : Type 0 where
  pub place₁ : ℕ
  pub place₂ : ℕ
  pub found₁ : find us u ≡ some place₁
  pub found₂ : find us v ≡ some place₂
  pub sooner : place₁ < place₂

-- what has a lower number in S appears earlier in us
abbrev pub InOrder : Words → Words → Type 0
InOrder S us = (u v : Word) (i j : ℕ) → find S u ≡ some i → find S v ≡ some j → i < j → Earlier us u v

module _ (S us : Words) (w : Word) (into : Within S us) (back : Within us S) where
  add_into : Within (add S w) (snoc us w)
  add_into u e = go (compare w u)
    where
      go : Alike w u → find (add S w) u ≡ none
      go (alike q) = let h = appended us w in none_or_some (rw (← q) at e) h.found
      go (apart d) = add_other S w u d ∙ into u (sym (find_other us w u d) ∙ e)

  add_back : Within (snoc us w) (add S w)
  add_back u e = go (compare w u)
    where
      go : Alike w u → find (snoc us w) u ≡ none
      go (alike q) = none_or_some (rw (← q) at e) (add_has S w).found
      go (apart d) = find_other us w u d ∙ back u (extends_within (add_extends S w) u e)

  earlier_kept : {u v : Word} → Earlier us u v → Earlier (snoc us w) u v
  earlier_kept {u} {v} h = record {
    place₁ = h.place₁;
    place₂ = h.place₂;
    found₁ = find_kept us (w ∷ []) u _ h.found₁;
    found₂ = find_kept us (w ∷ []) v _ h.found₂;
    sooner = h.sooner;
  }

  new_order : InOrder S us → find S w ≡ none → InOrder (snoc S w) (snoc us w)
  new_order o new u v i j f g l = go (compare w u) (compare w v)
    where
      last : (x : Word) (k : ℕ) → w ≡ x → find (snoc S w) x ≡ some k → k ≡ length S
      last x k q h = some_inj (sym h ∙ subst (λ (y : Word). find (snoc S w) y ≡ some (length S)) q (find_new S w new))

      old : (x : Word) (k : ℕ) → w ≢ x → find (snoc S w) x ≡ some k → find S x ≡ some k
      old x k d h = sym (find_other S w x d) ∙ h

      go : Alike w u → Alike w v → Earlier (snoc us w) u v
      go (alike p) (alike q) = absurd (omega (arith, last u i p f, last v j q g))
      go (alike p) (apart d) = absurd (omega (arith, last u i p f, (find_some S v j (old v j d g)).inside))
      go (apart d) (alike q) =
          let h : Has us u = within_has S us into u (record { place = i; found = old u i d f }) in
          record {
            place₁ = h.place;
            place₂ = length us;
            found₁ = find_kept us (w ∷ []) u _ h.found;
            found₂ = subst (λ (y : Word). find (snoc us w) y ≡ some (length us)) q (find_new us w (back w new));
            sooner = (find_some us u _ h.found).inside;
          }
      go (apart d) (apart d') = earlier_kept (o u v i j (old u i d f) (old v j d' g) l)

  add_order : InOrder S us → InOrder (add S w) (snoc us w)
  add_order o =
      add_cases (λ Y. InOrder Y (snoc us w)) S w
      (λ n e u v i j f g l. earlier_kept (o u v i j f g l))
      (new_order o)

add_all_order : (S us vs : Words) → Within S us → Within us S → InOrder S us → InOrder (add_all S vs) (us ++ vs)
add_all_order S us [] into back o = rw append-nil o
add_all_order S us (w ∷ vs) into back o =
    subst (InOrder (add_all (add S w) vs)) (append_snoc us w vs)
    (add_all_order (add S w) (snoc us w) vs (add_into S us w into back) (add_back S us w into back) (add_order S us w into back o))

-- the states are numbered as they first appear: the empty prefix, then word after word, each word's shorter prefixes first
pub states_in_order : (X : Words) → InOrder (states X) ([] ∷ appearing X)
states_in_order X = add_all_order ([] ∷ []) ([] ∷ []) (appearing X) (within_self ([] ∷ [])) (within_self ([] ∷ [])) alone
  where
    alone : InOrder ([] ∷ []) ([] ∷ [])
    alone u v i j f g l = absurd (omega (arith, (find_some ([] ∷ []) v j g).inside))

-- the states of a dictionary within the limits are few, short and of bytes
pub record Bounded (S : Words) : Type 0 where
  pub trie : Trie S
  pub bytes : (p : Word) (a m : ℕ) → find S (snoc p a) ≡ some m → a < letter_values
  pub short : (p : Word) (m : ℕ) → find S p ≡ some m → length p ≤ longest_word
  pub few : length S ≤ most_states

-- .. and hold its words
pub record WordsIn (X S : Words) : Type 0 where
  pub nonempty : find X [] ≡ none
  pub within : Within X S
  pub few : length X ≤ most_words

prefix_short : {v w : Word} → Prefix v w → length v ≤ length w
prefix_short {v} p = omega (arith, length-append v p.after, ap length p.joins)

prefix_letters : (c : ℕ) {v w : Word} → Prefix v w → LettersBelow c w → LettersBelow c v
prefix_letters c {v} p h i l =
    subst (λ n. n < c) (ap (λ (u : Word). get_or u i 0) (sym p.joins) ∙ get_or-append v p.after 0 i l) (h i (omega (arith, prefix_short p)))

pub allowed_bounded : (X : Words) → Allowed X → Bounded (states X)
allowed_bounded X d = record {
  trie = states_trie X;
  bytes = bytes;
  short = λ p m e. each_has (λ u. length u ≤ longest_word) (states X) short p (record { place = m; found = e });
  few = omega (arith, states-length X, d.storable.small);
}
  where
    short : Each (λ u. length u ≤ longest_word) (states X)
    short = states_each (λ u. length u ≤ longest_word) X (omega arith) (λ n l v p. omega (arith, prefix_short p, d.storable.short n l))

    letters : Each (LettersBelow letter_values) (states X)
    letters =
        states_each (LettersBelow letter_values) X (λ i l. absurd (omega arith))
        (λ n l v p. prefix_letters letter_values p (d.letters n l))

    bytes : (p : Word) (a m : ℕ) → find (states X) (snoc p a) ≡ some m → a < letter_values
    bytes p a m e =
        let h = each_has (LettersBelow letter_values) (states X) letters (snoc p a) (record { place = m; found = e }) (length p) (omega (arith, snoc-length p a)) in
        rw (get_or-append_seam p a [] 0) at h

pub allowed_words : (X : Words) → Allowed X → WordsIn X (states X)
allowed_words X d = record { nonempty = no_empty X d.storable.dictionary.nonempty; within = states_within X; few = d.storable.few }

-- a state more stays within the limits
pub add_bounded : (S : Words) (u : Word) (a : ℕ) → Bounded S → Has S u → a < letter_values → length u < longest_word
    → length (add S (snoc u a)) ≤ most_states → Bounded (add S (snoc u a))
add_bounded S u a b h byte short few = record {
  trie = add_trie S u a b.trie h;
  bytes = λ v c m e. bytes v c m e (compare (snoc u a) (snoc v c));
  short = λ v m e. shorts v m e (compare (snoc u a) v);
  few = few;
}
  where
    bytes : (v : Word) (c m : ℕ) → find (add S (snoc u a)) (snoc v c) ≡ some m → Alike (snoc u a) (snoc v c) → c < letter_values
    bytes v c m e (alike q) = let i = (snoc_inj u v q).1 in omega arith
    bytes v c m e (apart d) = b.bytes v c m (sym (add_other S (snoc u a) (snoc v c) d) ∙ e)

    shorts : (v : Word) (m : ℕ) → find (add S (snoc u a)) v ≡ some m → Alike (snoc u a) v → length v ≤ longest_word
    shorts v m e (alike q) = omega (arith, ap length q, snoc-length u a)
    shorts v m e (apart d) = b.short v m (sym (add_other S (snoc u a) v d) ∙ e)

pub add_words : {X S : Words} (v : Word) → WordsIn X S → WordsIn X (add S v)
add_words {S = S} v h = record {
  nonempty = h.nonempty;
  within = λ w e. h.within w (extends_within (add_extends S v) w e);
  few = h.few;
}
