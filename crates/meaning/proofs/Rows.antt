-- The table by its cells, and what a cell says.
use mathlib.Core.Path.{◌≡◌, refl, sym, ◌∙◌, ap, ap₂}
use mathlib.Core.Option.{Option, none, some}
use mathlib.Core.List.{List, [], ◌∷◌, ◌++◌}
use Prim.Native.Nat.{ℕ, zero, suc, ◌+◌, ◌*◌, ◌≤◌, ◌<◌}
use native.Mathlib.Nat.{mul-zero}
use native.Mathlib.Omega.{arith}
use lib.ListN.{length, get_or, take, drop, length-append, length-drop, get_or-append}
use lib.Seq.{get_or-take, get_or-drop, get_or-append-add, length-take-le, take-add, ext_get_or}
use Rattle.meaning.specs.Numbers.{letter_values, most_words, most_states, absent}
use Rattle.meaning.specs.Words.{Word, Words, word}
use Rattle.meaning.specs.Automaton.{states, chain, longest_chain}
use Rattle.meaning.specs.Table.{stored, width, narrow_width, chain_field, narrow_row, row, rows, table, narrow_table}
use Rattle.meaning.proofs.Chains.{chain_within_r, r_attained}

-- no letter, word or state has the number that stands for none
pub absent_free : (letter_values ≤ absent) × (most_words ≤ absent) × (most_states ≤ absent)
absent_free = (omega arith, omega arith, omega arith)

-- a stored number: that for none is none's alone where every other is below it
pub stored_some : (o : Option ℕ) {c : ℕ} → c ≡ stored o → (c ≡ absent → ⊥) → o ≡ some c
stored_some none e f = absurd (f e)
stored_some (some n) e f = ap some (sym e)

pub stored_none : (o : Option ℕ) {c : ℕ} → ((n : ℕ) → o ≡ some n → n < absent) → c ≡ stored o → c ≡ absent → o ≡ none
stored_none none l e f = refl
stored_none (some n) l e f = absurd (omega (arith, l n refl))

pub stored_small : (o : Option ℕ) {c : ℕ} → ((n : ℕ) → o ≡ some n → n < absent) → c ≡ stored o → c ≤ absent
stored_small none l e = omega arith
stored_small (some n) l e = omega (arith, l n refl)

-- rows of one form, all of w numbers
module _ (w : ℕ) (form : Word → List ℕ) (full : (u : Word) → length (form u) ≡ w) where
  pub rows-length : (us : Words) → length (rows form us) ≡ w * length us
  rows-length [] = sym (mul-zero w)
  rows-length (u ∷ us) = omega (arith, length-append (form u) (rows form us), full u, rows-length us)

  here : (k : ℕ) → w * 0 + k ≡ k
  here k = omega (arith, mul-zero w)

  pub rows_at : (us : Words) (n k : ℕ) → n < length us → k < w → get_or (rows form us) (w * n + k) 0 ≡ get_or (form (word us n)) k 0
  rows_at [] n k l h = absurd (omega arith)
  rows_at (u ∷ us) zero k l h =
      ap (λ (i : ℕ). get_or (rows form (u ∷ us)) i 0) (here k)
      ∙ get_or-append (form u) (rows form us) 0 k (omega (arith, full u))
  rows_at (u ∷ us) (suc n) k l h =
      let e : w * suc n + k ≡ length (form u) + (w * n + k) = omega (arith, full u) in
      ap (λ (i : ℕ). get_or (rows form (u ∷ us)) i 0) e
      ∙ get_or-append-add (form u) (rows form us) (w * n + k) 0
      ∙ rows_at us n k (omega arith) h

  -- a table whose fields are those of the rows begins with the rows
  pub rows_take : (us : Words) (t : List ℕ) → w * length us ≤ length t
      → ((s j : ℕ) → s < length us → j < w → get_or t (w * s + j) 0 ≡ get_or (form (word us s)) j 0) → take (w * length us) t ≡ rows form us
  rows_take [] t room fields = ap (λ (k : ℕ). take k t) (mul-zero w)
  rows_take (u ∷ us) t room fields =
      let e : w * suc (length us) ≡ w + w * length us = omega arith in
      ap (λ (k : ℕ). take k t) e
      ∙ take-add w (w * length us) t
      ∙ ap₂ ◌++◌ first (rows_take us (drop w t) (omega (arith, length-drop w t)) later)
    where
      first : take w t ≡ form u
      first =
          let long : length (take w t) ≡ w = length-take-le w t (omega arith) in
          ext_get_or 0 (take w t) (form u) (long ∙ sym (full u)) (λ j l.
          let inside : j < w = omega (arith, long) in
          get_or-take w t j 0 inside ∙ ap (λ (i : ℕ). get_or t i 0) (sym (here j)) ∙ fields 0 j (omega arith) inside)

      later : (s j : ℕ) → s < length us → j < w → get_or (drop w t) (w * s + j) 0 ≡ get_or (form (word us s)) j 0
      later s j l h =
          let e : w + (w * s + j) ≡ w * suc s + j = omega arith in
          get_or-drop w t (w * s + j) 0 ∙ ap (λ (i : ℕ). get_or t i 0) e ∙ fields (suc s) j (omega arith) h

-- both forms have so many numbers a state
pub table-length : (X : Words) → length (table X) ≡ width * length (states X)
table-length X = rows-length width (row X (states X)) (λ u. refl) (states X)

pub narrow_length : (X : Words) → length (narrow_table X) ≡ narrow_width * length (states X)
narrow_length X = rows-length narrow_width (narrow_row X (states X)) (λ u. refl) (states X)

-- a narrow row is a row but for its last number
pub narrow_field : (X S : Words) (u : Word) (j : ℕ) → j < narrow_width → get_or (row X S u) j 0 ≡ get_or (narrow_row X S u) j 0
narrow_field X S u j h = get_or-append (narrow_row X S u) (length (chain X u) ∷ []) 0 j h

-- the last number of a row is the length of the state's chain, ..
pub chain_number : (X : Words) (s : ℕ) → s < length (states X) → get_or (table X) (width * s + chain_field) 0 ≡ length (chain X (word (states X) s))
chain_number X s l = rows_at width (row X (states X)) (λ u. refl) (states X) s chain_field l (omega arith)

-- .. and r is the greatest of them
pub r_bounds : (X : Words) (s : ℕ) → s < length (states X) → get_or (table X) (width * s + chain_field) 0 ≤ longest_chain X
r_bounds X s l = rw (chain_number X s l) (chain_within_r X (word (states X) s))

pub r_stands : (X : Words) → (s : ℕ) × (s < length (states X)) × (get_or (table X) (width * s + chain_field) 0 ≡ longest_chain X)
r_stands X = let (s, l, e) = r_attained X in (s, l, chain_number X s l ∙ e)
