-- A whole table: eight right columns are the rows of the states, and the other way round.
use mathlib.Core.Path.{◌≡◌, refl, sym, ap, ◌∙◌}
use mathlib.Core.List.{List}
use Prim.Native.Nat.{ℕ, zero, suc, ◌+◌, ◌*◌, ◌<◌}
use native.Mathlib.Omega.{arith}
use lib.ListN.{length, get_or, take, length-take}
use lib.Seq.{get_or-take}
use Rattle.meaning.specs.Words.{Words, word}
use Rattle.meaning.specs.Automaton.{states}
use Rattle.meaning.specs.Table.{width, letter_field, child_field, sibling_field, depth_field, word_field, border_field, link_field, chain_field, row, rows}
use Rattle.meaning.specs.Plain.{Allowed}
use Rattle.meaning.proofs.States.{Bounded, WordsIn, allowed_bounded, allowed_words}
use Rattle.meaning.proofs.Rows.{rows_at, rows-length, rows_take, table-length}
use Rattle.tree.specs.Layout.{field_at}
use Rattle.tree.specs.Tree.{Whole, IsTable}
use Rattle.tree.specs.declared.index.ChildIndex.{ChildIndex}
use Rattle.tree.specs.Index.{Indexed}
use Rattle.tree.specs.Filling.{Bordered, LinkedAt}

module _ {X S : Words} {t : List ℕ} where
  whole_field : Whole X S t → (s j : ℕ) → s < length S → j < width → field_at t s j ≡ get_or (row X S (word S s)) j 0
  whole_field ω s zero l h = ω.tree.letters s l
  whole_field ω s (suc zero) l h = ω.tree.children s l
  whole_field ω s (suc (suc zero)) l h = ω.tree.siblings s l
  whole_field ω s (suc (suc (suc zero))) l h = ω.tree.depths s l
  whole_field ω s (suc (suc (suc (suc zero)))) l h = ω.tree.numbers s l
  whole_field ω s (suc (suc (suc (suc (suc zero))))) l h = ω.borders s l
  whole_field ω s (suc (suc (suc (suc (suc (suc zero)))))) l h = ω.links s l
  whole_field ω s (suc (suc (suc (suc (suc (suc (suc zero))))))) l h = ω.chains s l
  whole_field ω s (suc (suc (suc (suc (suc (suc (suc (suc j)))))))) l h = absurd (omega arith)

  pub whole_linked : Whole X S t → {s : ℕ} → s < length S → LinkedAt X S t s
  whole_linked ω {s} l = record { tree = ω.tree; inside = l; link = ω.links s l }

  pub whole_rows : Whole X S t → take (width * length S) t ≡ rows (row X S) S
  whole_rows ω = rows_take width (row X S) (λ u. refl) S t ω.tree.room (whole_field ω)

  pub rows_whole : Bounded S → WordsIn X S → take (width * length S) t ≡ rows (row X S) S → Whole X S t
  rows_whole σ ω e = record {
    tree = record {
      states = σ;
      words = ω;
      room = omega (arith, ap length e, length-take (width * length S) t, rows-length width (row X S) (λ u. refl) S);
      letters = λ s l. field s letter_field l (omega arith);
      children = λ s l. field s child_field l (omega arith);
      siblings = λ s l. field s sibling_field l (omega arith);
      depths = λ s l. field s depth_field l (omega arith);
      numbers = λ s l. field s word_field l (omega arith);
    };
    borders = λ s l. field s border_field l (omega arith);
    links = λ s l. field s link_field l (omega arith);
    chains = λ s l. field s chain_field l (omega arith);
  }
    where
      field : (s j : ℕ) → s < length S → j < width → field_at t s j ≡ get_or (row X S (word S s)) j 0
      field s j l h =
          sym (get_or-take (width * length S) t (width * s + j) 0 (omega arith))
          ∙ ap (λ (r : List ℕ). get_or r (width * s + j) 0) e
          ∙ rows_at width (row X S) (λ u. refl) S s j l h

-- the table of words within the limits
pub whole_table : {X : Words} {t : List ℕ} → Allowed X → Whole X (states X) t → IsTable X t
whole_table {X} {t} d ω = record { allowed = d; rows = ap (λ (k : ℕ). take k t) (table-length X) ∙ whole_rows ω }

-- .. is whole, and has what a step and a chain walk ask
module _ {X : Words} {t : List ℕ} (ι : IsTable X t) where
  pub table_whole : Whole X (states X) t
  table_whole = rows_whole (allowed_bounded X ι.allowed) (allowed_words X ι.allowed)
      (ap (λ (k : ℕ). take k t) (sym (table-length X)) ∙ ι.rows)

  pub table_bordered : {index : ChildIndex} → Indexed (states X) index → {s : ℕ} → s < length (states X) → Bordered X (states X) t index s
  table_bordered i l = record {
    tree = table_whole.tree;
    indexed = i;
    inside = l;
    borders = λ v h d. table_whole.borders v h;
  }

  pub table_linked : {s : ℕ} → s < length (states X) → LinkedAt X (states X) t s
  table_linked l = whole_linked table_whole l
