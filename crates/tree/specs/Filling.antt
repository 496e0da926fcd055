-- What the functions that fill in borders, links and chains ask and leave, and what those ask that read them.
use Rattle.std.specs.Prelude.{◌≡◌, List, ℕ, ◌*◌, ◌≤◌, ◌<◌, eqb, length, get_or, if◌then◌else◌}
use Rattle.std.proofs.Math.Option.{some}
use Rattle.meaning.specs.Numbers.{absent}
use Rattle.meaning.specs.Words.{Words, word}
use Rattle.meaning.specs.Automaton.{border as border_state}
use Rattle.meaning.specs.Table.{width, border_field, link_field, chain_field}
use Rattle.tree.specs.Layout.{field_at}
use Rattle.tree.specs.Tree.{Right, Tree, Whole, border_of, link_of, chain_of}
use Rattle.tree.specs.Index.{cell, Indexed}
use Rattle.tree.specs.declared.index.ChildIndex.{ChildIndex}

-- where the root goes by a
abbrev pub root_step : ChildIndex → ℕ → ℕ
root_step index a = if eqb (cell index 0 a) absent then 0 else cell index 0 a

-- the borders of the states of at most as many letters as state s are right, and the index is
pub record Bordered (X S : Words) (t : List ℕ) (index : ChildIndex) (s : ℕ) : Type 0 where
  pub tree : Tree X S t
  pub indexed : Indexed S index
  pub inside : s < length S
  pub borders : (v : ℕ) → v < length S → length (word S v) ≤ length (word S s) → Right S t border_field (border_of S) v

-- the link of state s is right
pub record LinkedAt (X S : Words) (t : List ℕ) (s : ℕ) : Type 0 where
  pub tree : Tree X S t
  pub inside : s < length S
  pub link : Right S t link_field (link_of X S) s

-- the border of state c is b, whose chain is counted
pub record CountedAt (X S : Words) (t : List ℕ) (c b : ℕ) : Type 0 where
  pub tree : Tree X S t
  pub inside : c < length S
  pub border : border_state S (word S c) ≡ some b
  pub chain : Right S t chain_field (chain_of X) b

-- the border, the link and the chain's length of state s are right
pub record Known (X S : Words) (t : List ℕ) (s : ℕ) : Type 0 where
  pub border : Right S t border_field (border_of S) s
  pub link : Right S t link_field (link_of X S) s
  pub chain : Right S t chain_field (chain_of X) s

-- the columns of the tree, and the numbers past the n rows, are the same
pub record SameTree (n : ℕ) (t t' : List ℕ) : Type 0 where
  pub long : length t' ≡ length t
  pub fields : (s j : ℕ) → j < border_field → field_at t' s j ≡ field_at t s j
  pub past : (i : ℕ) → width * n ≤ i → get_or t' i 0 ≡ get_or t i 0

-- .. and what was right of a state still is
pub record Grown (X S : Words) (t t' : List ℕ) : Type 0 where
  pub same : SameTree (length S) t t'
  pub kept : (s : ℕ) → s < length S → Known X S t s → Known X S t' s

-- the rows are whole, and past them the table is as it was
pub record Completed (X S : Words) (t t' : List ℕ) : Type 0 where
  pub whole : Whole X S t'
  pub past : (i : ℕ) → width * length S ≤ i → get_or t' i 0 ≡ get_or t i 0
