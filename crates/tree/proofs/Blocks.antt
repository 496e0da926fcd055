-- What the index tells, and how it changes: with a new state, and with a new owner of a row.
use mathlib.Core.Path.{◌≡◌, refl, sym, ap, ◌∙◌}
use mathlib.Core.Logic.{◌≢◌}
use mathlib.Core.Option.{none}
use mathlib.Core.List.{List, []}
use Prim.Native.Nat.{ℕ, zero, suc, ◌%◌, ◌≤◌, ◌<◌}
use native.Mathlib.Decide.{dec_lt, ℕ_discrete}
use native.Mathlib.Omega.{arith}
use borrow.Author.Tests.{eq-eqb, ne_eqb}
use lib.ListN.{length, get_or, set, replicate, get_or-eq_default, get_or-replicate}
use Rattle.std.specs.Prelude.{Option, Some, None, IfSome}
use lib.Seq.{get_or-set_same, get_or-set_other}
use Rattle.meaning.specs.Numbers.{letter_values, absent}
use Rattle.meaning.specs.Words.{Word, Words, snoc, find}
use Rattle.meaning.specs.Table.{stored}
use Rattle.meaning.proofs.Lists.{snoc_inj}
use Rattle.meaning.proofs.Find.{Alike, alike, apart, compare, none_unless, find_new, find_other}
use Rattle.meaning.proofs.States.{Bounded}
use Rattle.tree.specs.declared.index.ChildIndex.{ChildIndex}
use Rattle.tree.specs.Index.{rows, cell, with_cell, owner, with_owner, served, Children, Indexed, Based, Empty, Vacant}
use Rattle.tree.specs.Insertion.{noted, claimed}
use Rattle.tree.proofs.Found.{some_same, none_some}

-- a number that is none lies inside, so it can be set
pub set_none : (l : List ℕ) (i v : ℕ) → get_or l i 0 ≡ absent → get_or (set l i v) i 0 ≡ v
set_none l i v e = get_or-set_same l i v 0 (inside (dec_lt i (length l)))
  where
    inside : Dec (i < length l) → i < length l
    inside (yes k) = k
    inside (no k) = absurd (omega (arith, get_or-eq_default l 0 {n = i} (omega arith)))

-- .. and so can the number of a block
module _ (index : ChildIndex) (k a n : ℕ) (free : cell index k a ≡ absent) where
  inside : k < length index.blocks
  inside = go (dec_lt k (length index.blocks))
    where
      go : Dec (k < length index.blocks) → k < length index.blocks
      go (yes l) = l
      go (no l) =
          let e : cell index k a ≡ 0 = ap (λ (b : List ℕ). get_or b a 0) (get_or-eq_default index.blocks [] {n = k} (omega arith)) in
          absurd (omega (arith, e, free))

  block_is : get_or (with_cell index k a n).blocks k [] ≡ set (get_or index.blocks k []) a n
  block_is = get_or-set_same index.blocks k (set (get_or index.blocks k []) a n) [] inside

  pub cell_set : cell (with_cell index k a n) k a ≡ n
  cell_set = ap (λ (b : List ℕ). get_or b a 0) block_is ∙ set_none (get_or index.blocks k []) a n free

  pub cell_other : (j c : ℕ) → (j ≡ k → c ≢ a) → cell (with_cell index k a n) j c ≡ cell index j c
  cell_other j c f = go (ℕ_discrete j k)
    where
      go : Dec (j ≡ k) → cell (with_cell index k a n) j c ≡ cell index j c
      go (yes e) =
          rw e (ap (λ (b : List ℕ). get_or b c 0) block_is ∙ get_or-set_other (get_or index.blocks k []) a c n 0 (f e))
      go (no d) =
          ap (λ (b : List ℕ). get_or b c 0) (get_or-set_other index.blocks k j (set (get_or index.blocks k []) a n) [] d)

-- the index where every number is none
pub vacant : Vacant (record { blocks = replicate (suc rows) (replicate letter_values absent); owners = replicate rows absent })
vacant = record {
  blocks = λ k l a m.
      ap (λ (b : List ℕ). get_or b a 0) (get_or-replicate (suc rows) k (replicate letter_values absent) [] (omega arith))
      ∙ get_or-replicate letter_values a absent 0 m;
  owners = λ r l. get_or-replicate rows r absent 0 l;
}

-- where a row has no owner, its block has none
pub unowned : {S : Words} → Bounded S → (a : ℕ) → find S (snoc (snoc [] absent) a) ≡ none
unowned {S} σ a = σ.trie.closed (snoc [] absent) a (none_unless _ (λ m q. omega (arith, σ.bytes [] absent m q)))

-- the child that a block says of a letter
pub child_cell : {S : Words} {index : ChildIndex} → Indexed S index → {u : Word} {block : Option ℕ} → Based index u block → {k : ℕ} → Some k ≡ block
    → {a : ℕ} → a < letter_values → cell index k a ≡ stored (find S (snoc u a))
child_cell {S} ι β {k} e {a} l =
    let b = β.serves k (sym e) in
    ι.blocks k b.low a l ∙ ap (λ (v : Word). stored (find S (snoc v a))) (sym b.word_is)

-- a block is one of those there are
pub blocks_low : {index : ChildIndex} {u : Word} {block : Option ℕ} → Based index u block → IfSome block (λ k. k ≤ rows)
blocks_low {block = block} β = go block refl
  where
    go : (o : Option ℕ) → o ≡ block → IfSome o (λ k. k ≤ rows)
    go None e = tt
    go (Some k) e = (β.serves k (sym e)).low

-- no row has an owner, and the rows have no child
pub no_owners : {S : Words} {index : ChildIndex} → Bounded S → Children S index 0 []
    → ((r : ℕ) → r < rows → Empty index (suc r)) → ((r : ℕ) → r < rows → owner index r ≡ absent) → Indexed S index
no_owners {S} {index} σ root blank free = record { blocks = at; home = λ r l f. absurd (f (free r l)) }
  where
    at : (k : ℕ) → k ≤ rows → Children S index k (served index k)
    at zero l a m = root a m
    at (suc r) l a m =
        blank r (omega arith) a m
        ∙ sym (ap (λ (x : ℕ). stored (find S (snoc (snoc [] x) a))) (free r (omega arith)) ∙ ap stored (unowned σ a))

-- the row of the letter x is x's, and the rest of the index the same
module _ {S : Words} {index : ChildIndex} (ι : Indexed S index) (index' : ChildIndex) {x r : ℕ} (row : r ≡ x % rows) (own : owner index' r ≡ x)
    (block : Children S index' (suc r) (snoc [] x)) (same : (k a : ℕ) → k ≢ suc r → cell index' k a ≡ cell index k a)
    (others : (s : ℕ) → s ≢ r → owner index' s ≡ owner index s) where
  pub row_taken : Indexed S index'
  row_taken = record { blocks = at; home = λ s l f. homes s l f (ℕ_discrete s r) }
    where
      by : (s : ℕ) → s < rows → Dec (s ≡ r) → Children S index' (suc s) (snoc [] (owner index' s))
      by s l (yes e) a m = rw (e, own) (block a m)
      by s l (no d) a m =
          same (suc s) a (λ e. d (omega arith))
          ∙ ι.blocks (suc s) (omega arith) a m
          ∙ ap (λ (y : ℕ). stored (find S (snoc (snoc [] y) a))) (sym (others s d))

      at : (k : ℕ) → k ≤ rows → Children S index' k (served index' k)
      at zero l a m = same 0 a (λ e. omega arith) ∙ ι.blocks 0 (omega arith) a m
      at (suc s) l a m = by s (omega arith) (ℕ_discrete s r) a m

      homes : (s : ℕ) → s < rows → (owner index' s ≡ absent → ⊥) → Dec (s ≡ r) → owner index' s % rows ≡ s
      homes s l f (yes e) = rw (e, own) (sym row)
      homes s l f (no d) = let z = others s d in ap (λ (y : ℕ). y % rows) z ∙ ι.home s l (λ q. f (z ∙ q))

-- the row has no owner: its block has no child yet
pub row_free : {S : Words} {index : ChildIndex} → Bounded S → Indexed S index → {r : ℕ} → r < rows → owner index r ≡ absent → Empty index (suc r)
row_free {S} σ ι {r} l e a m =
    ι.blocks (suc r) (omega arith) a m
    ∙ ap (λ (y : ℕ). stored (find S (snoc (snoc [] y) a))) e
    ∙ ap stored (unowned σ a)

-- a letter whose state has no children claims its row
pub claim_indexed : {S : Words} {index : ChildIndex} {x : ℕ} → Bounded S → Indexed S index → x < letter_values
    → ((a : ℕ) → find S (snoc (snoc [] x) a) ≡ none) → Indexed S (claimed index x)
claim_indexed {S} {index} {x} σ ι byte leaf = go (ℕ_discrete (owner index (x % rows)) absent)
  where
    go : Dec (owner index (x % rows) ≡ absent) → Indexed S (claimed index x)
    go (no d) = rw (ne_eqb _ absent d) ι
    go (yes e) =
        rw (eq-eqb _ absent e)
        (row_taken ι (with_owner index (x % rows) x) refl (set_none index.owners (x % rows) x e)
        (λ a m. row_free σ ι (omega arith) e a m ∙ sym (ap stored (leaf a)))
        (λ k a d. refl)
        (λ s d. get_or-set_other index.owners (x % rows) s x 0 d))

-- a new state, the child of u by a
module _ {S : Words} {index : ChildIndex} (ι : Indexed S index) {u : Word} {a n : ℕ} {block : Option ℕ} (fresh : find S (snoc u a) ≡ none)
    (byte : a < letter_values) (β : Based index u block) (count : n ≡ length S) where
  -- .. where the index changes by one number at most
  module _ (index' : ChildIndex) (new : (k : ℕ) → Some k ≡ block → cell index' k a ≡ n) (owners : index'.owners ≡ index.owners)
      (same : (k c : ℕ) → (Some k ≡ block → c ≢ a) → cell index' k c ≡ cell index k c) where
    owner_same : (r : ℕ) → owner index' r ≡ owner index r
    owner_same r = ap (λ (l : List ℕ). get_or l r 0) owners

    served_same : (k : ℕ) → served index' k ≡ served index k
    served_same zero = refl
    served_same (suc r) = ap (λ (x : ℕ). snoc [] x) (owner_same r)

    noted_indexed : Indexed (snoc S (snoc u a)) index'
    noted_indexed = record {
      blocks = λ k l c m.
          at k l c m (compare u (served index k)) (ℕ_discrete c a)
          ∙ ap (λ (v : Word). stored (find (snoc S (snoc u a)) (snoc v c))) (sym (served_same k));
      home = λ r l f.
          ap (λ (y : ℕ). y % rows) (owner_same r) ∙ ι.home r l (λ q. f (owner_same r ∙ q));
    }
      where
        kept : (k : ℕ) → k ≤ rows → (c : ℕ) → c < letter_values → (u ≡ served index k → a ≢ c) → (Some k ≡ block → c ≢ a)
            → cell index' k c ≡ stored (find (snoc S (snoc u a)) (snoc (served index k) c))
        kept k l c m d f =
            same k c f
            ∙ ι.blocks k l c m
            ∙ ap stored
            (sym (find_other S (snoc u a) (snoc (served index k) c)
            (λ q. let i = snoc_inj u (served index k) q in d i.0 i.1)))

        at : (k : ℕ) → k ≤ rows → (c : ℕ) → c < letter_values → Alike u (served index k) → Dec (c ≡ a)
            → cell index' k c ≡ stored (find (snoc S (snoc u a)) (snoc (served index k) c))
        at k l c m (alike e) (yes z) =
            rw (z, ← e) (new k (sym (β.only k l e)) ∙ count ∙ sym (ap stored (find_new S (snoc u a) fresh)))
        at k l c m (alike e) (no d) = kept k l c m (λ q z. d (sym z)) (λ q. d)
        at k l c m (apart f) z = kept k l c m (λ q. absurd (f q)) (λ q. absurd (f (β.serves k (sym q)).word_is))

  pub note_indexed : Indexed (snoc S (snoc u a)) (noted index block a n)
  note_indexed = go block refl
    where
      go : (o : Option ℕ) → o ≡ block → Indexed (snoc S (snoc u a)) (noted index o a n)
      go None e = noted_indexed index (λ k q. none_some (e ∙ sym q)) refl (λ k c d. refl)
      go (Some b) e =
          noted_indexed (with_cell index b a n)
          (λ k q. rw (some_same (q ∙ sym e)) (cell_set index b a n free))
          refl
          (λ k c f. cell_other index b a n free k c (λ z. f (ap Some z ∙ e)))
        where
          free : cell index b a ≡ absent
          free = child_cell ι β e byte ∙ ap stored fresh
