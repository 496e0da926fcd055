-- The index of the children of the root and of some one_letter states: blocks with a number for each letter, and the letters of
-- those states.
use Rattle.std.specs.Prelude.{◌≡◌, List, [], ℕ, zero, suc, ◌%◌, ◌≤◌, ◌<◌, get_or, set, Option, Some}
use Rattle.meaning.specs.Numbers.{letter_values, absent}
use Rattle.meaning.specs.Words.{Word, Words, snoc, find, word}
use Rattle.meaning.specs.Table.{stored}
use Rattle.tree.specs.Tree.{AtState}
use Rattle.tree.specs.declared.index.ChildIndex.{ChildIndex}

-- how many rows it has for one_letter states: block 0 is the root's, row r is block r + 1
abbrev pub rows : ℕ
rows = 16

-- the number that block k has for the letter a
abbrev pub cell : ChildIndex → ℕ → ℕ → ℕ
cell index k a = get_or (get_or index.blocks k []) a 0

-- the index where that is n
abbrev pub with_cell : ChildIndex → ℕ → ℕ → ℕ → ChildIndex
with_cell index k a n = record { blocks = set index.blocks k (set (get_or index.blocks k []) a n); owners = index.owners }

-- the letter of the state that owns row r: 65,535 where there is none
abbrev pub owner : ChildIndex → ℕ → ℕ
owner index r = get_or index.owners r 0

-- the index where that is x
abbrev pub with_owner : ChildIndex → ℕ → ℕ → ChildIndex
with_owner index r x = record { blocks = index.blocks; owners = set index.owners r x }

-- whose children block k has; where a row has no owner, this is no state
abbrev pub served : ChildIndex → ℕ → Word
served index zero = []
served index (suc r) = snoc [] (owner index r)

-- block k has the children of u by each letter
abbrev pub Children : Words → ChildIndex → ℕ → Word → Type 0
Children S index k u = (a : ℕ) → a < letter_values → cell index k a ≡ stored (find S (snoc u a))

-- the index is right, and a letter owns no row but its own
pub record Indexed (S : Words) (index : ChildIndex) : Type 0 where
  pub blocks : (k : ℕ) → k ≤ rows → Children S index k (served index k)
  pub home : (r : ℕ) → r < rows → (owner index r ≡ absent → ⊥) → owner index r % rows ≡ r

-- s is a state, and the index is right
pub record IndexedAt (X S : Words) (t : List ℕ) (index : ChildIndex) (s : ℕ) : Type 0 where
  pub at : AtState X S t s
  pub indexed : Indexed S index

-- block k has the children of u
pub record Block (index : ChildIndex) (u : Word) (k : ℕ) : Type 0 where
  pub low : k ≤ rows
  pub word_is : u ≡ served index k

-- .. or none has them, where there is no such k
pub record Based (index : ChildIndex) (u : Word) (block : Option ℕ) : Type 0 where
  pub serves : (k : ℕ) → block ≡ Some k → Block index u k
  pub only : (k : ℕ) → k ≤ rows → u ≡ served index k → block ≡ Some k

-- block k has none yet
abbrev pub Empty : ChildIndex → ℕ → Type 0
Empty index k = (a : ℕ) → a < letter_values → cell index k a ≡ absent

-- no block has any, and no row has an owner
pub record Vacant (index : ChildIndex) : Type 0 where
  pub blocks : (k : ℕ) → k ≤ rows → Empty index k
  pub owners : (r : ℕ) → r < rows → owner index r ≡ absent

-- block k has the children of u, and every other number is the same
pub record Filled (S : Words) (u : Word) (k : ℕ) (index index' : ChildIndex) : Type 0 where
  pub cells : Children S index' k u
  pub same : (j a : ℕ) → (j ≡ k → ⊥) → cell index' j a ≡ cell index j a
  pub owners : index'.owners ≡ index.owners

-- c is the one_letter state by x
pub record OneLetter (X S : Words) (t : List ℕ) (index : ChildIndex) (x c : ℕ) : Type 0 where
  pub here : IndexedAt X S t index c
  pub byte : x < letter_values
  pub reads : word S c ≡ snoc [] x
