-- One new state, the child of p by the letter a: its row, the one pointer that changes, and the index.
use mathlib.Core.Path.{◌≡◌, refl, sym, ◌∙◌, ap, subst}
use mathlib.Core.Logic.{◌≢◌}
use mathlib.Core.Option.{none, some}
use mathlib.Core.List.{List, []}
use Prim.Native.Nat.{ℕ, suc, ◌+◌, ◌*◌, ◌≤◌, ◌<◌}
use native.Mathlib.Decide.{ℕ_discrete}
use native.Mathlib.Numerals.{add-one}
use native.Mathlib.Omega.{arith}
use borrow.Author.Tests.{eq-eqb, ne_eqb}
use lib.ListN.{length, get_or, length-set}
use lib.Seq.{sets, length-sets, get_or-set_other}
use Rattle.meaning.specs.Numbers.{most_states, absent}
use Rattle.meaning.specs.Words.{Word, Words, snoc, find, word}
use Rattle.meaning.specs.Automaton.{add}
use Rattle.meaning.specs.Table.{stored, first_child, last_letter, next_sibling, child_from, width, letter_field, child_field, sibling_field, depth_field, word_field, border_field, link_field, chain_field}
use Rattle.meaning.proofs.Lists.{snoc-length}
use Rattle.meaning.proofs.Find.{find_some, find_new, find_other}
use Rattle.meaning.proofs.States.{Bounded, WordsIn, Placed, before, at_end, placed, add_old, add_new, add_bounded, add_words}
use Rattle.meaning.proofs.Children.{NoChild, child_from_new, child_from_leaf, last_letter_snoc, sibling_snoc, sibling_new}
use Rattle.meaning.proofs.Rows.{stored_some}
use Rattle.std.specs.Prelude.{Option, Some, None, IfSome, unwrap_or}
use Rattle.tree.specs.Layout.{field_at, set_field, HasRow, new_row}
use Rattle.tree.specs.Tree.{Column, Tree, Blank}
use Rattle.tree.specs.declared.index.ChildIndex.{ChildIndex}
use Rattle.tree.specs.Index.{cell, Indexed, IndexedAt, Based}
use Rattle.tree.specs.Insertion.{Holder, own, child, Sought, attached, known_child, noted, rowed, Growing, Open, Reaching}
use Rattle.tree.proofs.Cells.{set_here, set_past, row_here, row_before, row_past}
use Rattle.tree.proofs.Found.{none_some, present_some}
use Rattle.tree.proofs.Walk.{state_row, sought_stored}
use Rattle.tree.proofs.Blocks.{child_cell, claim_indexed, note_indexed}
use Rattle.tree.proofs.NewState.{first_kept, next_kept}

-- t' is t with the numbers vs as a new row n, and then n in the field g of an earlier row o
record Added (t t' : List ℕ) (n : ℕ) (vs : List ℕ) (o g : ℕ) : Type 0 where
  new : (j : ℕ) → j < width → field_at t' n j ≡ get_or vs j 0
  pointer : field_at t' o g ≡ n
  other : (s j : ℕ) → s < n → j < width → (s ≡ o → j ≢ g) → field_at t' s j ≡ field_at t s j
  past : (i : ℕ) → width * suc n ≤ i → get_or t' i 0 ≡ get_or t i 0
  long : length t' ≡ length t

added : (t : List ℕ) (n : ℕ) (vs : List ℕ) (o g : ℕ) → length vs ≡ width → HasRow t n → o < n → g < width
    → Added t (set_field (sets t (width * n) vs) o g n) n vs o g
added t n vs o g full room old field = record {
  new = λ j h. get_or-set_other t₁ (width * o + g) (width * n + j) n 0 (λ e. omega arith) ∙ row_here t n vs full room j h;
  pointer = set_here t₁ o g n field (omega (arith, length-sets t (width * n) vs));
  other = λ s j l h d.
      get_or-set_other t₁ (width * o + g) (width * s + j) n 0 (λ e. d (omega arith) (omega arith)) ∙ row_before t n vs full room s j l h;
  past = λ i l. set_past t₁ o g n (suc n) i field (omega arith) l ∙ row_past t n vs full room i l;
  long = length-set t₁ (width * o + g) n ∙ length-sets t (width * n) vs;
}
  where
    t₁ : List ℕ
    t₁ = sets t (width * n) vs

-- a column with one state more
column_snoc : (S : Words) (v : Word) (t : List ℕ) (j : ℕ) (f : Word → ℕ) {n : ℕ} → n ≡ length S → Column S t j f → field_at t n j ≡ f v
    → Column (snoc S v) t j f
column_snoc S v t j f {n} count old new s l = go (placed S v s l)
  where
    go : Placed S v s → field_at t s j ≡ f (word (snoc S v) s)
    go (before k e) = old s k ∙ ap f (sym e)
    go (at_end k e) = rw (k, ← count) new ∙ ap f (sym e)

-- the child of p by a, and the states with it
abbrev branch : Words → ℕ → ℕ → Word
branch S p a = snoc (word S p) a

abbrev grown : Words → ℕ → ℕ → Words
grown S p a = snoc S (branch S p a)

-- the pointers of the states S, where R are all states
record Pointers (S R : Words) (t : List ℕ) : Type 0 where
  children : Column S t child_field (λ v. stored (first_child R v))
  siblings : Column S t sibling_field (λ v. stored (next_sibling R v))

module _ {X S : Words} {t : List ℕ} {index : ChildIndex} {n p a d : ℕ} (ω : Open X S t index n p a d) where
  τ : Tree X S t
  τ = ω.growing.tree

  once : {s : ℕ} → s < length S → find S (word S s) ≡ some s
  once l = τ.states.trie.once _ l

  -- it is there
  pub reach_found : {q : ℕ} → find S (branch S p a) ≡ some q → Reaching X S (word S p) a t t index q n
  reach_found {q} e =
      let z : S ≡ add S (branch S p a) = sym (add_old S (branch S p a) q e) in
      record {
        growing = subst (λ (Y : Words). Growing X Y t index n) z ω.growing;
        here = subst (λ (Y : Words). find Y (branch S p a) ≡ some q) z e;
        past = λ i l. refl;
      }

  -- the index knows it
  module _ {block : Option ℕ} (β : Based index (word S p) block) where
    pub index_known : {q : ℕ} → Some q ≡ known_child index block a → find S (branch S p a) ≡ some q
    index_known {q} e = go block refl e
      where
        go : (o : Option ℕ) → o ≡ block → Some q ≡ known_child index o a → find S (branch S p a) ≡ some q
        go None i f = none_some (sym f)
        go (Some k) i f =
            let h = present_some (cell index k a) f in
            stored_some _ (sym h.same ∙ child_cell ω.growing.indexed β i ω.byte) (λ z. h.there (h.same ∙ z))

  pub parent : IndexedAt X S t index p
  parent = record { at = record { tree = τ; inside = ω.inside }; indexed = ω.growing.indexed }

  -- the row that holds the pointer
  pub holder_row : {o next : Option ℕ} → Sought S (word S p) a o next → (t' : List ℕ) → length t' ≡ length t → IfSome o (λ b. HasRow t' b)
  holder_row σ t' same = go σ.holder
    where
      go : {from : ℕ} {o : Option ℕ} → Holder S (word S p) from o → IfSome o (λ b. HasRow t' b)
      go own = tt
      go (child b q e) = omega (arith, same, state_row τ (find_some S (snoc (word S p) b) q e).inside)

  module _ (fresh : find S (branch S p a) ≡ none) where
    size : length (add S (branch S p a)) ≡ suc n
    size = ap length (add_new S (branch S p a) fresh) ∙ snoc-length S (branch S p a) ∙ ap suc (sym ω.growing.count)

    pub new_room : HasRow t n
    new_room = omega (arith, size, ω.room)

    pub new_small : n < most_states
    new_small = omega (arith, size, ω.few)

    -- what is asked of the states
    states_new : Bounded (grown S p a)
    states_new =
        subst Bounded (add_new S (branch S p a) fresh)
        (add_bounded S (word S p) a τ.states (record { place = p; found = once ω.inside }) ω.byte
        (omega (arith, ω.depth, ω.short)) ω.few)

    words_new : WordsIn X (grown S p a)
    words_new = subst (WordsIn X) (add_new S (branch S p a) fresh) (add_words (branch S p a) τ.words)

    -- the table where the columns of pointers are right
    module _ {t' : List ℕ} {next o g : ℕ} (next_is : next ≡ stored (child_from S (word S p) a)) (r : Added t t' n (new_row a next d) o g)
        (pointer : (letter_field < g) × (g < depth_field)) (π : Pointers S (grown S p a) t') where
      with_new : (j : ℕ) (f : Word → ℕ) → j < width → Column S t' j f → get_or (new_row a next d) j 0 ≡ f (branch S p a)
          → Column (grown S p a) t' j f
      with_new j f h c e = column_snoc S (branch S p a) t' j f ω.growing.count c (r.new j h ∙ e)

      with_kept : (j : ℕ) (f : Word → ℕ) → (j < width) × (j ≢ g) → Column S t j f → get_or (new_row a next d) j 0 ≡ f (branch S p a)
          → Column (grown S p a) t' j f
      with_kept j f h c e =
          with_new j f h.0 (λ s l. r.other s j (omega (arith, ω.growing.count)) h.0 (λ i. h.1) ∙ c s l) e

      grow_tree : Tree X (grown S p a) t'
      grow_tree = record {
        states = states_new;
        words = words_new;
        room = omega (arith, r.long, snoc-length S (branch S p a), new_room, ω.growing.count);
        letters =
            with_kept letter_field (λ v. stored (last_letter v)) (omega arith) τ.letters
            (ap stored (sym (last_letter_snoc (word S p) a)));
        children =
            with_new child_field (λ v. stored (first_child (grown S p a) v)) (omega arith) π.children
            (ap stored (sym (child_from_leaf S (word S p) a 0 τ.states.trie fresh)));
        siblings =
            with_new sibling_field (λ v. stored (next_sibling (grown S p a) v)) (omega arith) π.siblings
            (next_is ∙ ap stored (sym (sibling_new S (word S p) a ω.byte fresh)));
        depths = with_kept depth_field length (omega arith) τ.depths (ω.depth ∙ sym (snoc-length (word S p) a));
        numbers =
            with_kept word_field (λ v. stored (find X v)) (omega arith) τ.numbers
            (ap stored (sym (τ.words.within (branch S p a) fresh)));
      }

      grow_blank : Blank (grown S p a) t'
      grow_blank = record {
        borders = with_kept border_field (λ v. absent) (omega arith) ω.growing.blank.borders refl;
        links = with_kept link_field (λ v. absent) (omega arith) ω.growing.blank.links refl;
        chains = with_kept chain_field (λ v. 0) (omega arith) ω.growing.blank.chains refl;
      }

    module _ {next : ℕ} where
      -- the pointer is in p's own row
      in_parent : {t' : List ℕ} → NoChild S (word S p) 0 a → Added t t' n (new_row a next d) p child_field → Pointers S (grown S p a) t'
      in_parent {t'} gap r = record { children = λ s l. at s l (ℕ_discrete s p); siblings = nexts }
        where
          at : (s : ℕ) → s < length S → Dec (s ≡ p) → field_at t' s child_field ≡ stored (first_child (grown S p a) (word S s))
          at s l (yes e) =
              rw e (r.pointer ∙ ω.growing.count ∙ ap stored (sym (child_from_new S (word S p) a 0 fresh (omega arith) ω.byte gap)))
          at s l (no i) =
              r.other s child_field (omega (arith, ω.growing.count)) (omega arith) (λ e. absurd (i e))
              ∙ τ.children s l
              ∙ ap stored (sym (first_kept S (word S p) fresh own (omega arith) gap (word S s) (λ e z. i (cc (once l, once ω.inside)))))

          nexts : Column S t' sibling_field (λ v. stored (next_sibling (grown S p a) v))
          nexts s l =
              r.other s sibling_field (omega (arith, ω.growing.count)) (omega arith) (λ e z. omega arith)
              ∙ τ.siblings s l
              ∙ ap stored (sym (next_kept S (word S p) fresh own (omega arith) gap (word S s) s (once l) (λ b e z. omega arith)))

      -- the pointer is in the row of the child before
      in_child : {t' : List ℕ} (b q : ℕ) → find S (snoc (word S p) b) ≡ some q → b < a → NoChild S (word S p) (suc b) a
          → Added t t' n (new_row a next d) q sibling_field → Pointers S (grown S p a) t'
      in_child {t'} b q h low gap r = record { children = firsts; siblings = λ s l. at s l (ℕ_discrete s q) }
        where
          firsts : Column S t' child_field (λ v. stored (first_child (grown S p a) v))
          firsts s l =
              r.other s child_field (omega (arith, ω.growing.count)) (omega arith) (λ e z. omega arith)
              ∙ τ.children s l
              ∙ ap stored (sym (first_kept S (word S p) fresh (child b q h) low gap (word S s) (λ e z. omega arith)))

          at : (s : ℕ) → s < length S → Dec (s ≡ q) → field_at t' s sibling_field ≡ stored (next_sibling (grown S p a) (word S s))
          at s l (yes e) =
              rw (e, (find_some S (snoc (word S p) b) q h).reads, sibling_snoc (grown S p a) (word S p) b)
              (r.pointer ∙ ω.growing.count ∙ ap stored (sym (child_from_new S (word S p) a (suc b) fresh low ω.byte gap)))
          at s l (no i) =
              r.other s sibling_field (omega (arith, ω.growing.count)) (omega arith) (λ e. absurd (i e))
              ∙ τ.siblings s l
              ∙ ap stored (sym (next_kept S (word S p) fresh (child b q h) low gap (word S s) s (once l) (λ c e z. i (cc (once l)))))

    -- the index with it
    grow_index : {block : Option ℕ} → Based index (word S p) block → Indexed (grown S p a) (rowed (noted index block a n) p a)
    grow_index {block} β = go (ℕ_discrete p 0)
      where
        ι : Indexed (grown S p a) (noted index block a n)
        ι = note_indexed ω.growing.indexed fresh ω.byte β ω.growing.count

        -- a child of the root has no child yet
        leaf : word S p ≡ [] → (c : ℕ) → find (grown S p a) (snoc (snoc [] a) c) ≡ none
        leaf e c =
            find_other S (branch S p a) (snoc (snoc [] a) c) (λ q. omega (arith, ap length q, snoc-length (word S p) a, ap length e))
            ∙ τ.states.trie.closed (snoc [] a) c (ap (λ (v : Word). find S (snoc v a)) (sym e) ∙ fresh)

        go : Dec (p ≡ 0) → Indexed (grown S p a) (rowed (noted index block a n) p a)
        go (yes e) =
            rw (eq-eqb p 0 e)
            (claim_indexed states_new ι ω.byte (leaf (ap (word S) e ∙ (find_some S [] 0 τ.states.trie.root).reads)))
        go (no i) = rw (ne_eqb p 0 i) ι

    -- it is added
    reach_new : {block : Option ℕ} → Based index (word S p) block → {o next : Option ℕ} → Sought S (word S p) a o next → {r : ℕ} → r ≡ stored (child_from S (word S p) a)
        → Reaching X S (word S p) a t (attached (sets t (width * n) (new_row a r d)) p o n) (rowed (noted index block a n) p a) n (suc n)
    reach_new {block} β σ {r = next} next_is = go σ.holder σ.low σ.gap
      where
        R : Words
        R = grown S p a

        t₁ : List ℕ
        t₁ = sets t (width * n) (new_row a next d)

        adds : (o g : ℕ) → o < length S → (letter_field < g) × (g < depth_field)
            → (Added t (set_field t₁ o g n) n (new_row a next d) o g → Pointers S R (set_field t₁ o g n))
            → Reaching X S (word S p) a t (set_field t₁ o g n) (rowed (noted index block a n) p a) n (suc n)
        adds o g old h π =
            let r = added t n (new_row a next d) o g refl new_room (omega (arith, ω.growing.count)) (omega arith) in
            let e : R ≡ add S (branch S p a) = sym (add_new S (branch S p a) fresh) in
            record {
              growing =
                  subst (λ (Y : Words). Growing X Y (set_field t₁ o g n) (rowed (noted index block a n) p a) (suc n)) e
                  (record {
                    tree = grow_tree next_is r h (π r);
                    blank = grow_blank next_is r h (π r);
                    indexed = grow_index β;
                    count = ap suc ω.growing.count ∙ sym (snoc-length S (branch S p a));
                  });
              here =
                  subst (λ (Y : Words). find Y (branch S p a) ≡ some n) e
                  (find_new S (branch S p a) fresh ∙ ap some (sym ω.growing.count));
              past = r.past;
            }

        go : {from : ℕ} {o : Option ℕ} → Holder S (word S p) from o → from ≤ a → NoChild S (word S p) from a
            → Reaching X S (word S p) a t (attached t₁ p o n) (rowed (noted index block a n) p a) n (suc n)
        go own low gap = adds p child_field ω.inside (omega arith) (in_parent gap)
        go (child b q e) low gap =
            let f = find_some S (snoc (word S p) b) q e in
            adds q sibling_field f.inside (omega arith) (in_child b q e low gap)

    pub reach_added : {block : Option ℕ} → Based index (word S p) block → {o next : Option ℕ} → Sought S (word S p) a o next
        → {r : ℕ} → r ≡ unwrap_or next absent
        → {t₁ t₂ : List ℕ} {index₁ index₂ : ChildIndex} → t₁ ≡ sets t (width * n) (new_row a r d) → t₂ ≡ attached t₁ p o n
        → index₁ ≡ noted index block a n → index₂ ≡ rowed index₁ p a → Reaching X S (word S p) a t t₂ index₂ n (n + 1)
    reach_added β σ e e₁ e₂ e₃ e₄ = rw (add-one n, e₄, e₃, e₂, e₁) (reach_new β σ (e ∙ sought_stored τ σ))
