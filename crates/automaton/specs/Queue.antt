-- The queue of states that borders, links and chains are filled in by, and what its functions ask and leave.
use Rattle.std.specs.Prelude.{◌≡◌, ◌⊎◌, List, ℕ, zero, suc, ◌+◌, ◌-◌, ◌≤◌, ◌<◌, eqb, length, get_or, if◌then◌else◌}
use Rattle.std.proofs.Math.Option.{some}
use Rattle.meaning.specs.Numbers.{absent}
use Rattle.meaning.specs.Words.{Words, snoc, find, word}
use Rattle.meaning.specs.Table.{border_field}
use Rattle.tree.specs.Layout.{field_at}
use Rattle.tree.specs.Tree.{Tree}
use Rattle.tree.specs.declared.index.ChildIndex.{ChildIndex}
use Rattle.tree.specs.Index.{Indexed}
use Rattle.tree.specs.Filling.{Known, Grown}

-- state s has its border; its link and its chain's length are written with it
abbrev pub Settled : List ℕ → ℕ → Type 0
Settled t s = field_at t s border_field ≡ absent → ⊥

-- how many of the states 1 to m have none yet
abbrev pub unsettled : List ℕ → ℕ → ℕ
unsettled t zero = 0
unsettled t (suc m) = (if eqb (field_at t (suc m) border_field) absent then 1 else 0) + unsettled t m

-- the letters of the i-th state of a queue
abbrev pub depth_in : Words → List ℕ → ℕ → ℕ
depth_in S q i = length (word S (get_or q i 0))

-- a queue of states: the root and every state that has its border, in rising depth
pub record Queued (X S : Words) (t : List ℕ) (index : ChildIndex) (q : List ℕ) : Type 0 where
  pub tree : Tree X S t
  pub indexed : Indexed S index
  pub root : Known X S t 0
  pub known : (s : ℕ) → s < length S → Settled t s → Known X S t s
  pub entries : (i : ℕ) → i < length q → get_or q i 0 < length S
  pub seen : (s : ℕ) → s < length S → (s ≡ 0) ⊎ Settled t s → (i : ℕ) × (i < length q) × (get_or q i 0 ≡ s)
  pub rising : (i j : ℕ) → i ≤ j → j < length q → depth_in S q i ≤ depth_in S q j
  pub count : length q + unsettled t (length S - 1) ≡ length S

-- p is taken out: what is filled in of the states up to its depth is there, and no state of the queue is more than one letter longer
pub record Taking (X S : Words) (t : List ℕ) (index : ChildIndex) (q : List ℕ) (p : ℕ) : Type 0 where
  pub queued : Queued X S t index q
  pub inside : p < length S
  pub known : (v : ℕ) → v < length S → length (word S v) ≤ length (word S p) → Known X S t v
  pub limit : (i : ℕ) → i < length q → depth_in S q i ≤ suc (length (word S p))

-- .. and c is a child of p
pub record Settling (X S : Words) (t : List ℕ) (index : ChildIndex) (q : List ℕ) (p c : ℕ) : Type 0 where
  pub taking : Taking X S t index q p
  pub letter : ℕ
  pub child : find S (snoc (word S p) letter) ≡ some c

-- more states are filled in, and stand behind the others in the queue
pub record Longer (X S : Words) (t t' : List ℕ) (index : ChildIndex) (q q' : List ℕ) (p : ℕ) : Type 0 where
  pub taking : Taking X S t' index q' p
  pub grown : Grown X S t t'
  pub kept : (s : ℕ) → Settled t s → Settled t' s
  pub more : length q ≤ length q'
  pub queue : (i : ℕ) → i < length q → get_or q' i 0 ≡ get_or q i 0

pub record Settles (X S : Words) (t t' : List ℕ) (index : ChildIndex) (q q' : List ℕ) (p c : ℕ) : Type 0 where
  pub longer : Longer X S t t' index q q' p
  pub settled : Settled t' c

pub record Taken (X S : Words) (t t' : List ℕ) (index : ChildIndex) (q q' : List ℕ) (p : ℕ) : Type 0 where
  pub longer : Longer X S t t' index q q' p
  pub children : (x c : ℕ) → find S (snoc (word S p) x) ≡ some c → Settled t' c
