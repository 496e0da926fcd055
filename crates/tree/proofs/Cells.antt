-- What a store, and a row of stores, leaves of each field.
use mathlib.Core.Path.{◌≡◌, refl, ◌∙◌}
use mathlib.Core.List.{List, [], ◌∷◌}
use Prim.Native.Nat.{ℕ, zero, suc, ◌+◌, ◌*◌, ◌≤◌, ◌<◌}
use native.Mathlib.Nat.{add-zero, add-suc, suc-add}
use native.Mathlib.Omega.{arith}
use lib.ListN.{length, get_or, set, length-set}
use lib.Seq.{get_or-set_same, get_or-set_other, sets}
use Rattle.meaning.specs.Table.{width}
use Rattle.tree.specs.Layout.{field_at, set_field, HasRow}

pub set_here : (t : List ℕ) (s j v : ℕ) → j < width → HasRow t s → field_at (set_field t s j v) s j ≡ v
set_here t s j v h r = get_or-set_same t (width * s + j) v 0 (omega arith)

pub set_other_field : (t : List ℕ) (s j v s' j' : ℕ) → j < width → j' < width → (j' ≡ j → ⊥) → field_at (set_field t s j v) s' j' ≡ field_at t s' j'
set_other_field t s j v s' j' h h' d = get_or-set_other t (width * s + j) (width * s' + j') v 0 (λ e. d (omega arith))

pub set_other_row : (t : List ℕ) (s j v s' j' : ℕ) → j < width → j' < width → (s' ≡ s → ⊥) → field_at (set_field t s j v) s' j' ≡ field_at t s' j'
set_other_row t s j v s' j' h h' d = get_or-set_other t (width * s + j) (width * s' + j') v 0 (λ e. d (omega arith))

pub set_past : (t : List ℕ) (s j v n i : ℕ) → j < width → s < n → width * n ≤ i → get_or (set_field t s j v) i 0 ≡ get_or t i 0
set_past t s j v n i h l m = get_or-set_other t (width * s + j) i v 0 (λ e. omega arith)

sets_below : (vs t : List ℕ) (i j : ℕ) → j < i → get_or (sets t i vs) j 0 ≡ get_or t j 0
sets_below [] t i j h = refl
sets_below (v ∷ vs) t i j h = sets_below vs (set t i v) (suc i) j (omega arith) ∙ get_or-set_other t i j v 0 (λ e. omega arith)

sets_past : (vs t : List ℕ) (i j : ℕ) → i + length vs ≤ j → get_or (sets t i vs) j 0 ≡ get_or t j 0
sets_past [] t i j h = refl
sets_past (v ∷ vs) t i j h = sets_past vs (set t i v) (suc i) j (omega arith) ∙ get_or-set_other t i j v 0 (λ e. omega arith)

sets_here : (vs t : List ℕ) (i k : ℕ) → k < length vs → i + length vs ≤ length t → get_or (sets t i vs) (i + k) 0 ≡ get_or vs k 0
sets_here [] t i k h fit = absurd (omega arith)
sets_here (v ∷ vs) t i zero h fit = rw add-zero (sets_below vs (set t i v) (suc i) i (omega arith) ∙ get_or-set_same t i v 0 (omega arith))
sets_here (v ∷ vs) t i (suc k) h fit =
    rw (add-suc i k, ← suc-add i k) (sets_here vs (set t i v) (suc i) k (omega arith) (simp length-set (omega arith)))

-- a row of stores at row n: its fields, the rows before it, and what is past it
module _ (t : List ℕ) (n : ℕ) (vs : List ℕ) (full : length vs ≡ width) (room : HasRow t n) where
  pub row_here : (j : ℕ) → j < width → field_at (sets t (width * n) vs) n j ≡ get_or vs j 0
  row_here j h = sets_here vs t (width * n) j (omega arith) (omega arith)

  pub row_before : (s j : ℕ) → s < n → j < width → field_at (sets t (width * n) vs) s j ≡ field_at t s j
  row_before s j l h = sets_below vs t (width * n) (width * s + j) (omega arith)

  pub row_past : (i : ℕ) → width * suc n ≤ i → get_or (sets t (width * n) vs) i 0 ≡ get_or t i 0
  row_past i l = sets_past vs t (width * n) i (omega arith)
