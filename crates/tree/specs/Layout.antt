-- A table as its rows.
use Rattle.std.specs.Prelude.{◌≡◌, List, [], ◌∷◌, ℕ, ◌+◌, ◌*◌, ◌≤◌, ◌<◌, length, get_or, set}
use Rattle.meaning.specs.Numbers.{absent}
use Rattle.meaning.specs.Table.{width, narrow_width}

-- field j of row s
abbrev pub field_at : List ℕ → ℕ → ℕ → ℕ
field_at t s j = get_or t (width * s + j) 0

-- the table with v there
abbrev pub set_field : List ℕ → ℕ → ℕ → ℕ → List ℕ
set_field t s j v = set t (width * s + j) v

-- the table has row s
abbrev pub HasRow : List ℕ → ℕ → Type 0
HasRow t s = width * s + width ≤ length t

-- r is field j of row s, as 16 bits hold it
pub record Reads (t : List ℕ) (s j r : ℕ) : Type 0 where
  pub is : r ≡ field_at t s j
  pub small : r ≤ absent

-- the row of a new state: its letter, no child, its next sibling, its depth, no word, no border, no link, no chain
abbrev pub new_row : ℕ → ℕ → ℕ → List ℕ
new_row a next depth = a ∷ absent ∷ next ∷ depth ∷ absent ∷ absent ∷ absent ∷ 0 ∷ []

-- l' is l with the first n rows of t over it, each without its last number
pub record Narrowed (t : List ℕ) (n : ℕ) (l l' : List ℕ) : Type 0 where
  pub fields : (s j : ℕ) → s < n → j < narrow_width → get_or l' (narrow_width * s + j) 0 ≡ field_at t s j
  pub past : (i : ℕ) → narrow_width * n ≤ i → get_or l' i 0 ≡ get_or l i 0
