-- The climb from a state along borders, which ends at the root.
use mathlib.Core.Path.{◌≡◌, refl, sym, ap, ◌∙◌}
use mathlib.Core.Option.{none, some}
use mathlib.Core.List.{List, [], ◌∷◌}
use Prim.Native.Nat.{ℕ, ◌<◌}
use native.Mathlib.Omega.{arith}
use lib.ListN.{length}
use borrow.Author.Tests.{ne_eqb}
use Rattle.meaning.specs.Numbers.{letter_values, absent}
use Rattle.meaning.specs.Words.{Word, Words, snoc, find, word}
use Rattle.meaning.specs.Automaton.{nearest, border}
use Rattle.meaning.specs.Table.{stored, depth_field, border_field}
use Rattle.meaning.proofs.Find.{Asked, got, lacks, ask, some_inj, find_some}
use Rattle.meaning.proofs.States.{Bounded}
use Rattle.meaning.proofs.Suffixes.{border_exists, border_step, border_first, step_child, step_border, step_root, proper_inside, proper_shorter}
use Rattle.std.specs.Prelude.{Some}
use Rattle.tree.specs.Found.{found}
use Rattle.tree.specs.Layout.{field_at}
use Rattle.tree.specs.Tree.{Right, Tree, border_of}
use Rattle.tree.specs.declared.index.ChildIndex.{ChildIndex}
use Rattle.tree.specs.Index.{cell, IndexedAt}
use Rattle.tree.specs.Filling.{root_step, Bordered}
use Rattle.tree.proofs.Found.{some_is}
use Rattle.tree.proofs.Walk.{found_small}

-- the string of state 0 is empty, and of no other
pub root_word : {S : Words} → Bounded S → word S 0 ≡ []
root_word {S} σ = (find_some S [] 0 σ.trie.root).reads

pub root_inside : {S : Words} → Bounded S → 0 < length S
root_inside {S} σ = (find_some S [] 0 σ.trie.root).inside

pub root_only : {S : Words} → Bounded S → {s : ℕ} → s < length S → word S s ≡ [] → s ≡ 0
root_only {S} σ {s} l e = some_inj (sym (σ.trie.once s l) ∙ ap (find S) e ∙ σ.trie.root)

-- w is the border of state v
pub record Higher (S : Words) (t : List ℕ) (v w : ℕ) : Type 0 where
  pub is : border S (word S v) ≡ some w
  pub inside : w < length S
  pub shorter : length (word S w) < length (word S v)
  pub less : field_at t w depth_field < field_at t v depth_field

pub higher : {X S : Words} {t : List ℕ} → Tree X S t → {v w : ℕ} → v < length S → Right S t border_field (border_of S) v
    → w ≡ field_at t v border_field → (v ≡ 0 → ⊥) → Higher S t v w
higher {S = S} {t} τ {v} {w} l right i f = go (word S v) refl
  where
    go : (u : Word) → word S v ≡ u → Higher S t v w
    go [] e = absurd (f (root_only τ.states l e))
    go (a ∷ u) e =
        let (b, h) = border_exists S τ.states.trie a u in
        let is : border S (word S v) ≡ some b = ap (border S) e ∙ h in
        let inside : b < length S = proper_inside S S (word S v) b is in
        let shorter : length (word S b) < length (word S v) = proper_shorter S S (word S v) b is in
        rw (i ∙ right ∙ ap stored is) (record {
          is = is;
          inside = inside;
          shorter = shorter;
          less = omega (arith, τ.depths b inside, τ.depths v l);
        })

-- .. and the borders up to its depth are right
pub record Up (X S : Words) (t : List ℕ) (index : ChildIndex) (v w : ℕ) : Type 0 where
  pub step : Higher S t v w
  pub bordered : Bordered X S t index w

pub up : {X S : Words} {t : List ℕ} {index : ChildIndex} {v w : ℕ} → Bordered X S t index v → w ≡ field_at t v border_field → (v ≡ 0 → ⊥) → Up X S t index v w
up {v = v} β i f =
    let h = higher β.tree β.inside (β.borders v β.inside (omega arith)) i f in
    record {
      step = h;
      bordered = record {
        tree = β.tree;
        indexed = β.indexed;
        inside = h.inside;
        borders = λ s l d. β.borders s l (omega (arith, h.shorter));
      };
    }

-- one step of the climb, by what the child by a is
module _ {X S : Words} {t : List ℕ} {index : ChildIndex} {v : ℕ} (β : Bordered X S t index v) (a : ℕ) where
  pub by_child : {c : ℕ} → Some c ≡ found (find S (snoc (word S v) a)) → nearest S S (snoc (word S v) a) ≡ some c
  by_child {c} e = step_child S β.tree.states.trie (word S v) a c (some_is _ e)

  pub by_border : find S (snoc (word S v) a) ≡ none → {w : ℕ} → Up X S t index v w
      → nearest S S (snoc (word S v) a) ≡ nearest S S (snoc (word S w) a)
  by_border e h = step_border S β.tree.states.trie (word S v) a _ h.step.is e

  pub border_up : {w : ℕ} → Up X S t index v w → border S (snoc (word S v) a) ≡ nearest S S (snoc (word S w) a)
  border_up h = border_step S β.tree.states.trie (word S v) a _ h.step.is

  pub border_root : v ≡ 0 → border S (snoc (word S v) a) ≡ some 0
  border_root e = rw (e, root_word β.tree.states) (border_first S β.tree.states.trie a)

  -- at the root the index tells
  pub by_index : a < letter_values → v ≡ 0 → nearest S S (snoc (word S v) a) ≡ some (root_step index a)
  by_index byte e = rw (e, root_word β.tree.states) (go (ask (find S (snoc [] a))))
    where
      there : cell index 0 a ≡ stored (find S (snoc [] a))
      there = β.indexed.blocks 0 (omega arith) a byte

      go : Asked (find S (snoc [] a)) → nearest S S (snoc [] a) ≡ some (root_step index a)
      go (got n q) =
          let i : cell index 0 a ≡ n = there ∙ ap stored q in
          let small = found_small β.tree (snoc [] a) q in
          step_child S β.tree.states.trie [] a n q ∙ ap some (sym (rw (i, ne_eqb n absent (λ z. omega arith))))
      go (lacks q) =
          let i : cell index 0 a ≡ absent = there ∙ ap stored q in
          step_root S β.tree.states.trie a q ∙ ap some (sym (rw i))

-- v is on the climb from u along borders, and the state looked for is the nearest one after v's string and a
pub record Climbing (X S : Words) (t : List ℕ) (index : ChildIndex) (u : Word) (a v : ℕ) : Type 0 where
  pub here : Bordered X S t index v
  pub is : nearest S S (snoc u a) ≡ nearest S S (snoc (word S v) a)

pub indexed_here : {X S : Words} {t : List ℕ} {index : ChildIndex} {v : ℕ} → Bordered X S t index v → IndexedAt X S t index v
indexed_here β = record { at = record { tree = β.tree; inside = β.inside }; indexed = β.indexed }
