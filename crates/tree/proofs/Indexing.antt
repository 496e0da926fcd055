-- The index while it is filled, and while it is read.
use mathlib.Core.Path.{◌≡◌, refl, sym, ap, ◌∙◌}
use mathlib.Core.Logic.{◌≢◌}
use mathlib.Core.Option.{none, some}
use mathlib.Core.List.{List, [], ◌∷◌}
use Prim.Native.Nat.{ℕ, zero, suc, ◌%◌, ◌≤◌, ◌<◌}
use native.Mathlib.Decide.{dec_lt, ℕ_discrete}
use native.Mathlib.Omega.{arith}
use lib.ListN.{length, get_or, set}
use lib.Seq.{get_or-set_other}
use Rattle.meaning.specs.Numbers.{letter_values, absent}
use Rattle.meaning.specs.Words.{Word, Words, snoc, find, word}
use Rattle.meaning.specs.Table.{stored, child_from, first_child, last_letter, letter_field, child_field, sibling_field, depth_field}
use Rattle.meaning.proofs.Lists.{snoc_inj}
use Rattle.meaning.proofs.Find.{find_some}
use Rattle.meaning.proofs.Children.{NoChild}
use Rattle.std.specs.Prelude.{Option, Some, None}
use Rattle.tree.specs.Found.{found, present}
use Rattle.tree.specs.Layout.{field_at, HasRow}
use Rattle.tree.specs.Tree.{Tree, AtState}
use Rattle.tree.specs.declared.index.ChildIndex.{ChildIndex}
use Rattle.tree.specs.Index.{rows, cell, with_cell, owner, with_owner, served, Indexed, IndexedAt, Based, Vacant, Empty, Filled, OneLetter}
use Rattle.tree.proofs.Found.{some_same, none_some, none_is, some_is, present_stored}
use Rattle.tree.proofs.Walk.{Child, more, no_more, found_small, state_row}
use Rattle.tree.proofs.Climb.{root_word, root_inside, root_only}
use Rattle.tree.proofs.Blocks.{set_none, cell_set, cell_other, no_owners, row_free, row_taken}

-- block k is right for the letters below `from`, has none for the others, and c is the next child of u; every other number is as it
-- was
pub record Indexing (S : Words) (u : Word) (k : ℕ) (index₀ index : ChildIndex) (c : ℕ) : Type 0 where
  pub from : ℕ
  pub next_is : c ≡ stored (child_from S u from)
  pub done : (a : ℕ) → a < from → cell index k a ≡ stored (find S (snoc u a))
  pub rest : (a : ℕ) → from ≤ a → a < letter_values → cell index k a ≡ absent
  pub same : (j a : ℕ) → j ≢ k → cell index j a ≡ cell index₀ j a
  pub owners : index.owners ≡ index₀.owners

module _ {X S : Words} {t : List ℕ} (τ : Tree X S t) {u : Word} {k : ℕ} {index₀ index : ChildIndex} {c : ℕ}
    (φ : Indexing S u k index₀ index c) where
  pub filled : c ≡ absent → Filled S u k index₀ index
  filled e = record { cells = λ a l. go a l (dec_lt a φ.from); same = φ.same; owners = φ.owners }
    where
      go : (a : ℕ) → a < letter_values → Dec (a < φ.from) → cell index k a ≡ stored (find S (snoc u a))
      go a l (yes h) = φ.done a h
      go a l (no h) = φ.rest a (omega arith) l ∙ sym (ap stored (no_more τ u φ.next_is e a (omega arith)))

  -- the child c is noted
  module _ (h : Child S t u φ.from c) where
    free : cell index k h.least.letter ≡ absent
    free = φ.rest h.least.letter h.least.low h.least.high

    other : (a : ℕ) → a ≢ h.least.letter → cell (with_cell index k h.least.letter c) k a ≡ cell index k a
    other a d = cell_other index k h.least.letter c free k a (λ e. d)

    noted : (a : ℕ) → a ≤ h.least.letter → cell (with_cell index k h.least.letter c) k a ≡ stored (find S (snoc u a))
    noted a l = go (ℕ_discrete a h.least.letter) (dec_lt a φ.from)
      where
        go : Dec (a ≡ h.least.letter) → Dec (a < φ.from)
            → cell (with_cell index k h.least.letter c) k a ≡ stored (find S (snoc u a))
        go (yes e) i = rw e (cell_set index k h.least.letter c free ∙ sym (ap stored h.least.child))
        go (no d) (yes i) = other a d ∙ φ.done a i
        go (no d) (no i) =
            other a d
            ∙ φ.rest a (omega arith) (omega (arith, h.least.high))
            ∙ sym (ap stored (h.least.first a (omega arith) (omega arith)))

    pub index_on : Indexing S u k index₀ (with_cell index k (field_at t c letter_field) c) (field_at t c sibling_field)
    index_on = rw h.letter (record {
      from = suc h.least.letter;
      next_is = h.next;
      done = λ a l. noted a (omega arith);
      rest = λ a l m. other a (λ e. omega arith) ∙ φ.rest a (omega (arith, h.least.low)) m;
      same = λ j a d. cell_other index k h.least.letter c free j a (λ e. absurd (d e)) ∙ φ.same j a d;
      owners = φ.owners;
    })

  pub index_child : (c ≡ absent → ⊥) → Child S t u φ.from c
  index_child f = more τ u φ.next_is f

-- no child is noted yet
pub index_start : {X S : Words} {t : List ℕ} {p : ℕ} → AtState X S t p → {k : ℕ} {index : ChildIndex} → Empty index k
    → {c : ℕ} → c ≡ field_at t p child_field → Indexing S (word S p) k index index c
index_start {p = p} α empty i = record {
  from = 0;
  next_is = i ∙ α.tree.children p α.inside;
  done = λ a l. absurd (omega arith);
  rest = λ a l m. empty a m;
  same = λ j a d. refl;
  owners = refl;
}

-- the rows, from one child of the root to the next: the index is right all the way
pub record Rowing (S : Words) (index : ChildIndex) (c : ℕ) : Type 0 where
  pub from : ℕ
  pub next_is : c ≡ stored (child_from S [] from)
  pub indexed : Indexed S index

pub root_state : {X S : Words} {t : List ℕ} → Tree X S t → AtState X S t 0
root_state τ = record { tree = τ; inside = root_inside τ.states }

module _ {X S : Words} {t : List ℕ} (τ : Tree X S t) {index : ChildIndex} where
  pub rowing : {index₀ : ChildIndex} {c : ℕ} → Vacant index₀ → Filled S (word S 0) 0 index₀ index → c ≡ field_at t 0 child_field → Rowing S index c
  rowing ν φ i = record {
    from = 0;
    next_is = i ∙ τ.children 0 (root_inside τ.states) ∙ ap (λ (u : Word). stored (first_child S u)) (root_word τ.states);
    indexed =
        no_owners τ.states (rw (root_word τ.states) at φ.cells)
        (λ r l a m. φ.same (suc r) a (λ e. omega arith) ∙ ν.blocks (suc r) (omega arith) a m)
        (λ r l. ap (λ (o : List ℕ). get_or o r 0) φ.owners ∙ ν.owners r l);
  }

  module _ {c : ℕ} (φ : Rowing S index c) where
    pub row_child : (c ≡ absent → ⊥) → Child S t [] φ.from c
    row_child f = more τ [] φ.next_is f

    pub one_letter : (f : c ≡ absent → ⊥) → {x : ℕ} → x ≡ field_at t c letter_field → OneLetter X S t index x c
    one_letter f e =
        let h = row_child f in
        let z = e ∙ h.letter in
        record {
          here = record { at = record { tree = τ; inside = h.inside }; indexed = φ.indexed };
          byte = omega (arith, h.least.high);
          reads = h.reads ∙ ap (λ (y : ℕ). snoc [] y) (sym z);
        }

    pub row_on : (c ≡ absent → ⊥) → {index' : ChildIndex} → Indexed S index' → {d : ℕ} → d ≡ field_at t c sibling_field → Rowing S index' d
    row_on f ι e = let h = row_child f in record { from = suc h.least.letter; next_is = e ∙ h.next; indexed = ι }

-- the state by x takes its row
module _ {X S : Words} {t : List ℕ} {index : ChildIndex} {x c : ℕ} (ω : OneLetter X S t index x c) {r k : ℕ} (row : r ≡ x % rows)
    (block : k ≡ suc r) (free : owner index r ≡ absent) where
  -- .. which is empty
  pub row_empty : Empty (with_owner index r x) k
  row_empty = rw block (row_free ω.here.at.tree.states ω.here.indexed (omega (arith, row)) free)

  pub row_filled : {index' : ChildIndex} → Filled S (word S c) k (with_owner index r x) index' → Indexed S index'
  row_filled {index'} φ =
      row_taken ω.here.indexed index' row
      (own r ∙ set_none index.owners r x free)
      (rw (ω.reads, block) at φ.cells)
      (λ j a d. φ.same j a (rw block d))
      (λ s d. own s ∙ get_or-set_other index.owners r s x 0 d)
    where
      own : (s : ℕ) → owner index' s ≡ get_or (set index.owners r x) s 0
      own s = ap (λ (o : List ℕ). get_or o s 0) φ.owners

-- where the children of state v are
module _ {X S : Words} {t : List ℕ} {index : ChildIndex} {v : ℕ} (β : IndexedAt X S t index v) where
  τ : Tree X S t
  τ = β.at.tree

  pub based_root : v ≡ 0 → Based index (word S v) (Some 0)
  based_root e = rw (e, root_word τ.states) (record {
    serves = λ k q. record { low = omega (arith, some_same q); word_is = ap (served index) (some_same q) };
    only = λ k l q. ap Some (only k q);
  })
    where
      only : (k : ℕ) → [] ≡ served index k → 0 ≡ k
      only zero q = refl
      only (suc r) q = absurd (omega (arith, ap length q))

  pub based_deep : v ≢ 0 → {d : ℕ} → d ≡ field_at t v depth_field → d ≢ 1 → Based index (word S v) None
  based_deep f {d} i g = record { serves = λ k q. none_some q; only = λ k l q. only k q }
    where
      only : (k : ℕ) → word S v ≡ served index k → None ≡ Some k
      only zero q = absurd (f (root_only τ.states β.at.inside q))
      only (suc r) q = absurd (omega (arith, i, τ.depths v β.at.inside, ap length q))

  module _ {x r : ℕ} (letter : x ≡ field_at t v letter_field) {d : ℕ} (depth : d ≡ field_at t v depth_field) (one : d ≡ 1) (row : r ≡ x % rows) where
    -- the state by x
    reads : word S v ≡ snoc [] x
    reads = go (word S v) refl
      where
        go : (u : Word) → word S v ≡ u → u ≡ snoc [] x
        go [] e = absurd (omega (arith, depth, τ.depths v β.at.inside, ap length e))
        go (y ∷ []) e =
            let z : x ≡ y = letter ∙ τ.letters v β.at.inside ∙ ap (λ (w : Word). stored (last_letter w)) e in
            ap (λ (n : ℕ). snoc [] n) (sym z)
        go (y ∷ z ∷ u) e = absurd (omega (arith, depth, τ.depths v β.at.inside, ap length e))

    byte : x < letter_values
    byte = τ.states.bytes [] x v (ap (find S) (sym reads) ∙ τ.states.trie.once v β.at.inside)

    -- no row but its own is its
    own_row : (s : ℕ) → s < rows → word S v ≡ snoc [] (owner index s) → (s ≡ r) × (owner index r ≡ x)
    own_row s l q =
        let e : x ≡ owner index s = (snoc_inj [] [] (sym reads ∙ q)).1 in
        let z : s ≡ r = sym (β.indexed.home s l (λ n. omega (arith, byte))) ∙ ap (λ (y : ℕ). y % rows) (sym e) ∙ sym row in
        (z, ap (owner index) (sym z) ∙ sym e)

    pub based_walk : {o : ℕ} → o ≡ owner index r → o ≢ x → Based index (word S v) None
    based_walk i f = record { serves = λ k q. none_some q; only = λ k l q. only k l q }
      where
        only : (k : ℕ) → k ≤ rows → word S v ≡ served index k → None ≡ Some k
        only zero l q = absurd (omega (arith, ap length (sym reads ∙ q)))
        only (suc s) l q = absurd (f (i ∙ (own_row s (omega arith) q).1))

    pub based_row : {o : ℕ} → o ≡ owner index r → o ≡ x → {k : ℕ} → k ≡ suc r → Based index (word S v) (Some k)
    based_row i e {k} b = record {
      serves = λ n q.
          let z : n ≡ suc r = sym (some_same q) ∙ b in
          record {
            low = omega (arith, row, z);
            word_is = rw z (reads ∙ ap (λ (y : ℕ). snoc [] y) (sym e ∙ i));
          };
      only = λ n l q. ap Some (only n l q);
    }
      where
        only : (n : ℕ) → n ≤ rows → word S v ≡ served index n → k ≡ n
        only zero l q = absurd (omega (arith, ap length (sym reads ∙ q)))
        only (suc s) l q = b ∙ ap suc (sym (own_row s (omega arith) q).0)

-- what the index has for the letter b, as the search for a place goes down the letters
module _ {X S : Words} {t : List ℕ} {index : ChildIndex} (β : IndexedAt X S t index 0) {b : ℕ} {o : Option ℕ} (byte : b < letter_values)
    (e : o ≡ present (cell index 0 b)) where
  here : o ≡ found (find S (snoc (word S 0) b))
  here =
      e
      ∙ ap present (rw (root_word β.at.tree.states) (β.indexed.blocks 0 (omega arith) b byte))
      ∙ present_stored _ (λ n i. found_small β.at.tree _ i)

  pub last_child : {q : ℕ} → Some q ≡ o → find S (snoc (word S 0) b) ≡ some q
  last_child f = some_is _ (f ∙ here)

  pub last_row : {q : ℕ} → Some q ≡ o → HasRow t q
  last_row {q} f = state_row β.at.tree (find_some S (snoc (word S 0) b) q (last_child f)).inside

  pub gap_on : {a : ℕ} → None ≡ o → NoChild S (word S 0) (suc b) a → NoChild S (word S 0) b a
  gap_on {a} f gap d l m = go (ℕ_discrete b d)
    where
      go : Dec (b ≡ d) → find S (snoc (word S 0) d) ≡ none
      go (yes z) = rw (← z) (none_is _ (f ∙ here))
      go (no z) = gap d (omega arith) m

-- the root's first child, as its row has it
module _ {X S : Words} {t : List ℕ} (τ : Tree X S t) {first : ℕ} (e : first ≡ field_at t 0 child_field) where
  first_is : first ≡ stored (child_from S (word S 0) 0)
  first_is = e ∙ τ.children 0 (root_inside τ.states)

  pub no_first : first ≡ absent → {a : ℕ} → NoChild S (word S 0) 0 a
  no_first f d l m = no_more τ _ first_is f d l

  pub the_first : (first ≡ absent → ⊥) → Child S t (word S 0) 0 first
  the_first f = more τ _ first_is f
