-- What a table holds of the states S of the words X.
use Rattle.std.specs.Prelude.{◌≡◌, List, ℕ, ◌*◌, ◌≤◌, ◌<◌, length, take}
use Rattle.meaning.specs.Numbers.{absent}
use Rattle.meaning.specs.Words.{Word, Words, find, word}
use Rattle.meaning.specs.Automaton.{border, link, chain}
use Rattle.meaning.specs.Table.{stored, first_child, last_letter, next_sibling, width, letter_field, child_field, sibling_field, depth_field, word_field, border_field, link_field, chain_field, table}
use Rattle.meaning.specs.Plain.{Allowed}
use Rattle.meaning.proofs.States.{Bounded, WordsIn}
use Rattle.tree.specs.Layout.{field_at}

-- field j of the row of state s is what f gives
abbrev pub Right : Words → List ℕ → ℕ → (Word → ℕ) → ℕ → Type 0
Right S t j f s = field_at t s j ≡ f (word S s)

-- .. of every state
abbrev pub Column : Words → List ℕ → ℕ → (Word → ℕ) → Type 0
Column S t j f = (s : ℕ) → s < length S → Right S t j f s

-- the columns of the tree: all but borders, links and chains
pub record Tree (X S : Words) (t : List ℕ) : Type 0 where
  pub states : Bounded S
  pub words : WordsIn X S
  pub room : width * length S ≤ length t
  pub letters : Column S t letter_field (λ u. stored (last_letter u))
  pub children : Column S t child_field (λ u. stored (first_child S u))
  pub siblings : Column S t sibling_field (λ u. stored (next_sibling S u))
  pub depths : Column S t depth_field length
  pub numbers : Column S t word_field (λ u. stored (find X u))

-- no border and no link is there yet, and no chain is counted
pub record Blank (S : Words) (t : List ℕ) : Type 0 where
  pub borders : Column S t border_field (λ u. absent)
  pub links : Column S t link_field (λ u. absent)
  pub chains : Column S t chain_field (λ u. 0)

-- what the columns of borders, links and chains are to hold
abbrev pub border_of : Words → Word → ℕ
border_of S u = stored (border S u)

abbrev pub link_of : Words → Words → Word → ℕ
link_of X S u = stored (link X S u)

abbrev pub chain_of : Words → Word → ℕ
chain_of X u = length (chain X u)

-- all columns
pub record Whole (X S : Words) (t : List ℕ) : Type 0 where
  pub tree : Tree X S t
  pub borders : Column S t border_field (border_of S)
  pub links : Column S t link_field (link_of X S)
  pub chains : Column S t chain_field (chain_of X)

-- s is a state
pub record AtState (X S : Words) (t : List ℕ) (s : ℕ) : Type 0 where
  pub tree : Tree X S t
  pub inside : s < length S

-- t begins with the table of the words X, which are within the limits
pub record IsTable (X : Words) (t : List ℕ) : Type 0 where
  pub allowed : Allowed X
  pub rows : take (length (table X)) t ≡ table X
