-- The walk along a chain, from a state that is a word to its link. In the end it stands at 65,535: that is no state, so its string
-- is the empty word, whose chain is empty, and no law needs a case for it.
use mathlib.Core.Path.{◌≡◌, refl, sym, ap, ◌∙◌}
use mathlib.Core.Option.{Option, none, some}
use mathlib.Core.List.{List, [], ◌∷◌}
use Prim.Native.Nat.{ℕ, ◌+◌, ◌≤◌, ◌<◌, max}
use native.Mathlib.Numerals.{add-one}
use native.Mathlib.Decide.{ℕ_discrete}
use native.Mathlib.Omega.{arith}
use lib.Dec.{eqb}
use lib.ListN.{length, drop, get_or-eq_default, drop_of_length-le}
use lib.Seq.{drop-cons}
use borrow.Author.Tests.{eq-eqb, ne_eqb}
use Rattle.meaning.specs.Numbers.{absent}
use Rattle.std.specs.Prelude.{if◌then◌else◌}
use Rattle.meaning.specs.Words.{Word, Words, find, word, size}
use Rattle.meaning.specs.Automaton.{nearest, cons_found, chain, longest_of}
use Rattle.meaning.specs.Table.{stored, depth_field, word_field, link_field, chain_field}
use Rattle.meaning.proofs.Find.{Asked, got, lacks, ask, none_or_some, find_some}
use Rattle.meaning.proofs.States.{within_self}
use Rattle.meaning.proofs.Suffixes.{suffix-length, nearest_here, nearest_some, nearest_inside, proper_inside}
use Rattle.meaning.proofs.Chains.{chain_here, chain_none, chain_nearest, chain_border, word_past}
use Rattle.meaning.proofs.Rows.{stored_none, stored_some}
use Rattle.tree.specs.Layout.{field_at, HasRow}
use Rattle.tree.specs.Tree.{Column, Tree, link_of}
use Rattle.tree.specs.Filling.{LinkedAt, CountedAt}
use Rattle.tree.proofs.Walk.{state_row}

-- state v is a word
pub record AtWord (X S : Words) (v : ℕ) : Type 0 where
  pub number : ℕ
  pub inside : v < length S
  pub is : find X (word S v) ≡ some number

-- .. or none: v is on a chain
pub record OnChain (X S : Words) (v : ℕ) : Type 0 where
  pub here : (v ≡ absent → ⊥) → AtWord X S v

-- v is where the chain of u begins
pub record Begins (X S : Words) (u : Word) (v : ℕ) : Type 0 where
  pub on : OnChain X S v
  pub same : chain X (word S v) ≡ chain X u
  pub within : length (word S v) ≤ length u

-- the letters of the word at v, and 0 for none: they get fewer with every step
abbrev pub letters_left : List ℕ → ℕ → ℕ
letters_left t v = if eqb v absent then 0 else field_at t v depth_field

-- a step: the chain of v is the word n, and then the chain of l
pub record Next (X S : Words) (t : List ℕ) (v n l : ℕ) : Type 0 where
  pub on : OnChain X S l
  pub is : chain X (word S v) ≡ n ∷ chain X (word S l)
  pub less : letters_left t l < letters_left t v

module _ {X S : Words} {t : List ℕ} (τ : Tree X S t) where
  -- where the walk ends
  pub none_word : {v : ℕ} → v ≡ absent → word S v ≡ []
  none_word e = get_or-eq_default S [] (omega (arith, τ.states.few))

  pub chain_end : {v : ℕ} → v ≡ absent → chain X (word S v) ≡ []
  chain_end e = ap (chain X) (none_word e)

  -- where it begins: at the nearest word of u
  pub begins : (u : Word) {v : ℕ} → v ≡ stored (nearest S X u) → Begins X S u v
  begins u {v} i = go (ask (nearest S X u))
    where
      go : Asked (nearest S X u) → Begins X S u v
      go (got n e) =
          let r = nearest_some S X u n e in
          rw (i ∙ ap stored e) (record {
            on = record { here = λ f. record { number = r.member.place; inside = nearest_inside S X u n e; is = r.member.found } };
            same = sym (chain_nearest X S X (within_self X) u n e);
            within = suffix-length r.ends;
          })
      go (lacks e) =
          let z : v ≡ absent = i ∙ ap stored e in
          record {
            on = record { here = λ f. absurd (f z) };
            same = chain_end z ∙ sym (chain_none X S τ.words.within u e);
            within = omega (arith, ap length (none_word z));
          }

  left_is : {v : ℕ} → OnChain X S v → letters_left t v ≡ length (word S v)
  left_is {v} o = go (ℕ_discrete v absent)
    where
      go : Dec (v ≡ absent) → letters_left t v ≡ length (word S v)
      go (yes e) = rw (eq-eqb v absent e) (sym (ap length (none_word e)))
      go (no d) = rw (ne_eqb v absent d) (τ.depths v (o.here d).inside)

  -- the number and the length of the word there, as its row has them
  module _ {v : ℕ} (h : AtWord X S v) where
    pub at_number : field_at t v word_field ≡ h.number
    at_number = τ.numbers v h.inside ∙ ap stored h.is

    pub at_depth : field_at t v depth_field ≡ size X h.number
    at_depth = τ.depths v h.inside ∙ sym (ap length (find_some X (word S v) h.number h.is).reads)

  -- from a word to its link
  pub next : Column S t link_field (link_of X S) → {v l : ℕ} (h : AtWord X S v) → l ≡ field_at t v link_field → Next X S t v h.number l
  next links {v} {l} h i = go (word S v) refl
    where
      go : (u : Word) → word S v ≡ u → Next X S t v h.number l
      go [] e = none_or_some τ.words.nonempty (ap (find X) (sym e) ∙ h.is)
      go (a ∷ u) e =
          let b = begins u (i ∙ links v h.inside ∙ ap (link_of X S) e) in
          record {
            on = b.on;
            is =
                ap (chain X) e
                ∙ chain_here X a u h.number (ap (find X) (sym e) ∙ h.is)
                ∙ ap (λ (c : List ℕ). h.number ∷ c) (sym b.same);
            less = omega (arith, left_is b.on, left_is (record { here = λ f. h }), b.within, ap length e);
          }

-- what the word column says of state v
module _ {X S : Words} {t : List ℕ} (τ : Tree X S t) {v : ℕ} (inside : v < length S) {k : ℕ} (e : k ≡ field_at t v word_field) where
  is_word : (k ≡ absent → ⊥) → find X (word S v) ≡ some k
  is_word f = stored_some _ (e ∙ τ.numbers v inside) f

  no_word : k ≡ absent → find X (word S v) ≡ none
  no_word f = stored_none _ (λ n q. omega (arith, (find_some X (word S v) n q).inside, τ.words.few)) (e ∙ τ.numbers v inside) f

-- the chain of state s begins at s, where that is a word, and else at its link
module _ {X S : Words} {t : List ℕ} {s k : ℕ} (h : LinkedAt X S t s) (e : k ≡ field_at t s word_field) where
  pub first_itself : (k ≡ absent → ⊥) → s ≡ stored (nearest S X (word S s))
  first_itself f =
      sym (ap stored (nearest_here S X _ k (is_word h.tree h.inside e f) ∙ h.tree.states.trie.once s h.inside))

  pub first_link : k ≡ absent → {r : ℕ} → r ≡ field_at t s link_field → r ≡ stored (nearest S X (word S s))
  first_link f i = i ∙ h.link ∙ sym (ap stored (word_past X S _ (no_word h.tree h.inside e f)))

-- the border of a state has a row
pub counted_row : {X S : Words} {t : List ℕ} {c b : ℕ} → CountedAt X S t c b → HasRow t b
counted_row {S = S} {c = c} {b = b} h = state_row h.tree (proper_inside S S (word S c) b h.border)

-- the words that end at c are those that end at its border b, and c where that is a word
module _ {X S : Words} {t : List ℕ} {c b n k : ℕ} (h : CountedAt X S t c b) (e : n ≡ field_at t c word_field) (f : k ≡ field_at t b chain_field)
  where
    counted : {o : Option ℕ} → find X (word S c) ≡ o → length (chain X (word S c)) ≡ length (cons_found o (chain X (word S b)))
    counted i =
        ap length
        (chain_border X S h.tree.words.within (word S c) b h.border
        ∙ ap (λ (o : Option ℕ). cons_found o (chain X (word S b))) i)

    pub counts_itself : (n ≡ absent → ⊥) → k + 1 ≡ length (chain X (word S c))
    counts_itself g = omega (arith, counted (is_word h.tree h.inside e g), f, h.chain)

    pub counts_border : n ≡ absent → k ≡ length (chain X (word S c))
    counts_border g = omega (arith, counted (no_word h.tree h.inside e g), f, h.chain)

-- the longest chain of all is r, that of the states below s, or that of a state from s on
pub record LongestTo (X S : Words) (r s : ℕ) : Type 0 where
  pub is : max r (longest_of X (drop s S)) ≡ longest_of X S

pub longest_start : (X S : Words) → LongestTo X S 0 0
longest_start X S = record { is = omega arith }

module _ {X S : Words} {r s : ℕ} (φ : LongestTo X S r s) where
  pub longest_end : length S ≤ s → r ≡ longest_of X S
  longest_end l = omega (arith, φ.is, ap (longest_of X) (drop_of_length-le S {i = s} l))

  pub longest_on : s < length S → {q : ℕ} → q ≡ max r (length (chain X (word S s))) → LongestTo X S q (s + 1)
  longest_on l e = record { is = rw (add-one s) (omega (arith, φ.is, ap (longest_of X) (drop-cons S s [] l))) }
