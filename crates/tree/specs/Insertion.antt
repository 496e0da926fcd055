-- What the functions that insert words ask and leave.
use Rattle.std.proofs.Math.Option.{none, some}
use Rattle.std.specs.Prelude.{◌≡◌, List, [], ℕ, suc, ◌*◌, ◌%◌, ◌≤◌, ◌<◌, eqb, length, get_or, if◌then◌else◌, Option, Some, None}
use Rattle.meaning.specs.Numbers.{absent, letter_values, most_words, longest_word, most_states}
use Rattle.meaning.specs.Words.{Word, Words, snoc, find, word}
use Rattle.meaning.specs.Automaton.{prefixes, add, add_all}
use Rattle.meaning.specs.Table.{child_from, width, child_field, sibling_field}
use Rattle.meaning.specs.Plain.{LettersBelow}
use Rattle.meaning.proofs.Children.{NoChild}
use Rattle.tree.specs.Found.{found, present}
use Rattle.tree.specs.Layout.{set_field}
use Rattle.tree.specs.Tree.{Tree, Blank}
use Rattle.tree.specs.Index.{rows, cell, with_cell, owner, with_owner, Indexed}
use Rattle.tree.specs.declared.index.ChildIndex.{ChildIndex}

-- Which row points to the child of u with the least letter not below b: u's own, where b is 0 and there is no child before it; else
-- the row of the child whose letter comes before b.
pub data Holder (S : Words) (u : Word) : ℕ → Option ℕ → Type 0 where
  own : Holder S u 0 None
  child : (b q : ℕ) → find S (snoc u b) ≡ some q → Holder S u (suc b) (Some q)

-- Where a child of u with the letter a is, or would be linked: `next` is u's child with the least letter not below a, and `before`
-- holds the pointer to it.
pub record Sought (S : Words) (u : Word) (a : ℕ) (before next : Option ℕ) : Type 0 where
  pub from : ℕ
  pub holder : Holder S u from before
  pub low : from ≤ a
  pub gap : NoChild S u from a
  pub next_is : next ≡ found (child_from S u a)

-- the table with row n as p's first child, or as the next sibling of p's child before it
abbrev pub attached : List ℕ → ℕ → Option ℕ → ℕ → List ℕ
attached t p None n = set_field t p child_field n
attached t p (Some before) n = set_field t before sibling_field n

-- the child by a in the block, if there is one
abbrev pub known_child : ChildIndex → Option ℕ → ℕ → Option ℕ
known_child index None a = None
known_child index (Some k) a = present (cell index k a)

-- the index with the new state n as the child by a there
abbrev pub noted : ChildIndex → Option ℕ → ℕ → ℕ → ChildIndex
noted index None a n = index
noted index (Some k) a n = with_cell index k a n

-- .. with the letter x as the owner of its row, where that had none
abbrev pub claimed : ChildIndex → ℕ → ChildIndex
claimed index x = if eqb (owner index (x % rows)) absent then with_owner index (x % rows) x else index

-- .. where x is the letter of a new child of p, and p is the root
abbrev pub rowed : ChildIndex → ℕ → ℕ → ChildIndex
rowed index p x = if eqb p 0 then claimed index x else index

-- a tree that words are being inserted into, of n states
pub record Growing (X S : Words) (t : List ℕ) (index : ChildIndex) (n : ℕ) : Type 0 where
  pub tree : Tree X S t
  pub blank : Blank S t
  pub indexed : Indexed S index
  pub count : n ≡ length S

-- state p can be given a child with the letter a, at the depth d
pub record Open (X S : Words) (t : List ℕ) (index : ChildIndex) (n p a d : ℕ) : Type 0 where
  pub growing : Growing X S t index n
  pub inside : p < length S
  pub byte : a < letter_values
  pub depth : d ≡ suc (length (word S p))
  pub short : d ≤ longest_word
  pub room : width * length (add S (snoc (word S p) a)) ≤ length t
  pub few : length (add S (snoc (word S p) a)) ≤ most_states

-- it is there, as the state q of n states; past the rows the table is as it was
pub record Reaching (X S : Words) (u : Word) (a : ℕ) (t t' : List ℕ) (index : ChildIndex) (q n : ℕ) : Type 0 where
  pub growing : Growing X (add S (snoc u a)) t' index n
  pub here : find (add S (snoc u a)) (snoc u a) ≡ some q
  pub past : (i : ℕ) → width * n ≤ i → get_or t' i 0 ≡ get_or t i 0

-- the word w, which is new, can be inserted as word k
pub record Insertable (X S : Words) (t : List ℕ) (index : ChildIndex) (n : ℕ) (w : Word) (k : ℕ) : Type 0 where
  pub growing : Growing X S t index n
  pub number : k ≡ length X
  pub words : k < most_words
  pub new : find X w ≡ none
  pub nonempty : 1 ≤ length w
  pub short : length w ≤ longest_word
  pub bytes : LettersBelow letter_values w
  pub room : width * length (add_all S (prefixes [] w)) ≤ length t
  pub few : length (add_all S (prefixes [] w)) ≤ most_states

-- it is in the table; past the rows the table is as it was
pub record Inserted (X S : Words) (w : Word) (t t' : List ℕ) (index : ChildIndex) (n : ℕ) : Type 0 where
  pub growing : Growing (snoc X w) (add_all S (prefixes [] w)) t' index n
  pub past : (i : ℕ) → width * n ≤ i → get_or t' i 0 ≡ get_or t i 0
