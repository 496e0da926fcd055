-- What the functions that make a whole table ask and leave.
use Rattle.std.specs.Prelude.{◌≡◌, List, ℕ, ◌*◌, ◌≤◌, length, get_or}
use Rattle.meaning.specs.Numbers.{most_states}
use Rattle.meaning.specs.Words.{Words}
use Rattle.meaning.specs.Automaton.{states, longest_chain}
use Rattle.meaning.specs.Table.{width, over}
use Rattle.meaning.specs.Plain.{Allowed}
use Rattle.records.specs.Run.{ran, dictionary}
use Rattle.tree.specs.declared.layout.Form.{Form}
use Rattle.tree.specs.declared.layout.Form.TheVariants.{Wide}
use Rattle.tree.specs.Forms.{width_in, table_in}
use Rattle.tree.specs.declared.index.ChildIndex.{ChildIndex}
use Rattle.tree.specs.Index.{Vacant}
use Rattle.tree.specs.Insertion.{Growing}

-- the bytes are a dictionary of the words X, so many of them
pub record Accepted (X : Words) (m b : List ℕ) (words : ℕ) : Type 0 where
  pub allowed : Allowed X
  pub end : ℕ
  pub runs : dictionary m b ≡ ran X end
  pub count : words ≡ length X

-- .. and there is room for the states of any dictionary, in that form
pub record Buildable (form : Form) (X : Words) (m b : List ℕ) (words : ℕ) (t : List ℕ) : Type 0 where
  pub accepted : Accepted X m b words
  pub room : width_in form * most_states ≤ length t

-- .. and an index of no states
pub record Plantable (X : Words) (m b : List ℕ) (words : ℕ) (t : List ℕ) (index : ChildIndex) : Type 0 where
  pub buildable : Buildable Wide X m b words t
  pub empty : Vacant index

-- the tree of X stands; past the rows the table is as it was
pub record Planted (X : Words) (t t' : List ℕ) (index : ChildIndex) (n : ℕ) : Type 0 where
  pub growing : Growing X (states X) t' index n
  pub past : (i : ℕ) → width * n ≤ i → get_or t' i 0 ≡ get_or t i 0

-- the table of X in that form is written over t, with so many states and r
pub record Builds (form : Form) (X : Words) (t t' : List ℕ) (n r : ℕ) : Type 0 where
  pub rows : t' ≡ over (table_in form X) t
  pub count : n ≡ length (states X)
  pub longest : r ≡ longest_chain X
