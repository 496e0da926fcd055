-- From whole rows to the table, written over what stood there, in either form.
use mathlib.Core.Path.{◌≡◌, refl, sym, ap, ap₂, ◌∙◌}
use mathlib.Core.List.{List, ◌++◌}
use Prim.Native.Nat.{ℕ, ◌+◌, ◌*◌, ◌-◌, ◌≤◌, ◌<◌}
use native.Mathlib.Omega.{arith}
use lib.ListN.{length, get_or, take, drop, length-drop, take-append-drop, get_or-append}
use lib.Seq.{get_or-drop, ext_get_or}
use Rattle.meaning.specs.Words.{Words, word}
use Rattle.meaning.specs.Automaton.{states, longest_chain}
use Rattle.meaning.specs.Table.{width, narrow_width, narrow_row, row, table, narrow_table, over}
use Rattle.meaning.proofs.Rows.{rows_at, rows_take, table-length, narrow_length, narrow_field}
use Rattle.tree.specs.declared.layout.Form.TheVariants.{Wide, Narrow}
use Rattle.tree.specs.Layout.{field_at, Narrowed}
use Rattle.tree.specs.Insertion.{Growing}
use Rattle.tree.specs.declared.index.ChildIndex.{ChildIndex}
use Rattle.tree.specs.Filling.{Completed}
use Rattle.automaton.specs.Building.{Planted, Builds}
use Rattle.tree.proofs.Whole.{whole_rows}

-- a list that begins with the numbers vs, and is l past them
over_by : (vs l l' : List ℕ) → length l' ≡ length l → take (length vs) l' ≡ vs
    → ((i : ℕ) → length vs ≤ i → get_or l' i 0 ≡ get_or l i 0) → l' ≡ over vs l
over_by vs l l' long front past = sym (take-append-drop (length vs) l') ∙ ap₂ ◌++◌ front rest
  where
    rest : drop (length vs) l' ≡ drop (length vs) l
    rest =
        ext_get_or 0 (drop (length vs) l') (drop (length vs) l)
        (length-drop (length vs) l' ∙ ap (λ (k : ℕ). k - length vs) long ∙ sym (length-drop (length vs) l))
        (λ i h. get_or-drop (length vs) l' i 0 ∙ past (length vs + i) (omega arith) ∙ sym (get_or-drop (length vs) l i 0))

module _ {X : Words} {t t₁ : List ℕ} {index : ChildIndex} {n : ℕ} (π : Planted X t t₁ index n) where
  pub all_planted : Growing X (states X) t₁ index (length (states X))
  all_planted = rw (← π.growing.count) π.growing

  pub finished : length t₁ ≡ length t → {t₂ : List ℕ} → length t₂ ≡ length t₁ → Completed X (states X) t₁ t₂ → {r : ℕ} → r ≡ longest_chain X
      → Builds Wide X t t₂ n r
  finished long {t₂} long₂ κ e = record {
    rows = over_by (table X) t t₂ (long₂ ∙ long) front past;
    count = π.growing.count;
    longest = e;
  }
    where
      front : take (length (table X)) t₂ ≡ table X
      front = ap (λ (k : ℕ). take k t₂) (table-length X) ∙ whole_rows κ.whole

      past : (i : ℕ) → length (table X) ≤ i → get_or t₂ i 0 ≡ get_or t i 0
      past i h = κ.past i (omega (arith, table-length X)) ∙ π.past i (omega (arith, table-length X, π.growing.count))

-- the rows made, in their narrow form
pub narrowed : {X : Words} {t t' : List ℕ} {n r : ℕ} → Builds Wide X t t' n r → {l l' : List ℕ} → narrow_width * n ≤ length l → length l' ≡ length l
    → Narrowed t' n l l' → Builds Narrow X l l' n r
narrowed {X} {t} {t'} {n} β {l} {l'} room long ν = record {
  rows = over_by (narrow_table X) l l' long front (λ i h. ν.past i (omega (arith, narrow_length X, β.count)));
  count = β.count;
  longest = β.longest;
}
  where
    S : Words
    S = states X

    field : (s j : ℕ) → s < length S → j < width → field_at t' s j ≡ get_or (row X S (word S s)) j 0
    field s j h k =
        ap (λ (t : List ℕ). field_at t s j) β.rows
        ∙ get_or-append (table X) (drop (length (table X)) t) 0 (width * s + j) (omega (arith, table-length X))
        ∙ rows_at width (row X S) (λ u. refl) S s j h k

    front : take (length (narrow_table X)) l' ≡ narrow_table X
    front =
        ap (λ (k : ℕ). take k l') (narrow_length X)
        ∙ rows_take narrow_width (narrow_row X S) (λ u. refl) S l' (omega (arith, β.count))
        (λ s j h k.
        ν.fields s j (omega (arith, β.count)) k ∙ field s j h (omega arith) ∙ narrow_field X S (word S s) j k)
