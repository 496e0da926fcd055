-- How far a text can be read: the climb at a position, and the search on from the last reading.
use mathlib.Core.Path.{◌≡◌, sym, ap, ◌∙◌}
use mathlib.Core.Bool.{true, false}
use mathlib.Core.List.{List}
use Prim.Native.Nat.{ℕ, suc, ◌+◌, ◌-◌, ◌≤◌, ◌<◌}
use native.Mathlib.Numerals.{add-one}
use native.Mathlib.Omega.{arith}
use lib.ListN.{length, get_or}
use Rattle.meaning.specs.Words.{Word, Words, word}
use Rattle.meaning.specs.Automaton.{states}
use Rattle.meaning.specs.Table.{depth_field, border_field}
use Rattle.meaning.specs.Readings.{readable, state_at, count_at, viable, farthest}
use Rattle.meaning.proofs.Counts.{count_zero, count_readable, count_unreadable}
use Rattle.meaning.proofs.Columns.{column_at, column_long}
use Rattle.meaning.proofs.Farthest.{start_of, Climbed, climbed_first, climbed_fits, climbed_viable, climbed_all, climbed_on, readable_viable, farthest_found}
use Rattle.tree.specs.Layout.{field_at, HasRow}
use Rattle.tree.specs.Tree.{Whole}
use Rattle.tree.proofs.Walk.{state_row}
use Rattle.tree.proofs.Climb.{root_word, Higher, higher}
use Rattle.tree.proofs.Whole.{table_whole}
use Rattle.columns.specs.Columns.{Scanned}
use Rattle.columns.specs.Reaching.{Counted, LastRead, Standing}

-- the climb along the borders of the state at a position
module _ {X : Words} {t : Word} {tb cs : List ℕ} {s i : ℕ} (σ : Standing X t tb cs s i) where
  whole : Whole X (states X) tb
  whole = table_whole σ.table

  pub climb_first : Climbed X t i s
  climb_first = rw σ.state (climbed_first X t i σ.place)

  module _ {v : ℕ} (φ : Climbed X t i v) where
    pub climb_row : HasRow tb v
    climb_row = state_row whole.tree φ.inside

    module _ {d : ℕ} (e : d ≡ field_at tb v depth_field) where
      begins : d ≡ length (word (states X) v)
      begins = e ∙ whole.tree.depths v φ.inside

      pub climb_fits : d ≤ i
      climb_fits = omega (arith, begins, climbed_fits X t i σ.place φ)

      pub climb_inside : i - d < length cs
      climb_inside = omega (arith, column_long (count_at X t) (suc (length t)) cs σ.counts, σ.place)

      count : get_or cs (i - d) 0 ≡ count_at X t (start_of X i v)
      count =
          column_at (count_at X t) (suc (length t)) cs σ.counts (i - d) (omega (arith, σ.place))
          ∙ ap (λ (n : ℕ). count_at X t (i - n)) begins

      -- a reading is before v
      pub climb_viable : (get_or cs (i - d) 0 ≡ 0 → ⊥) → true ≡ viable X t i
      climb_viable f =
          let k : 0 < count_at X t (start_of X i v) = omega (arith, count, f) in
          sym (climbed_viable X t i σ.place φ ((count_readable X t (start_of X i v)).1 k))

      -- none is
      module _ (z : get_or cs (i - d) 0 ≡ 0) where
        unread : readable X t (start_of X i v) ≡ false
        unread = (count_unreadable X t (start_of X i v)).1 (sym count ∙ z)

        pub climb_none : v ≡ 0 → false ≡ viable X t i
        climb_none r =
            sym (climbed_all X t i σ.place φ unread (ap (λ (n : ℕ). length (word (states X) n)) r ∙ ap length (root_word whole.tree.states)))

        module _ (f : v ≡ 0 → ⊥) {w : ℕ} (q : w ≡ field_at tb v border_field) where
          up : Higher (states X) tb v w
          up = higher whole.tree φ.inside (whole.borders v φ.inside) q f

          pub climb_on : Climbed X t i w
          climb_on = climbed_on X t i σ.place φ unread up.is

          pub climb_less : field_at tb w depth_field < field_at tb v depth_field
          climb_less = up.less

-- the first i letters can still become a reading
pub record Reaching (X : Words) (t : Word) (i : ℕ) : Type 0 where
  pub within : i ≤ length t
  pub begun : viable X t i ≡ true

module _ {X : Words} {t : Word} {tb ss cs : List ℕ} (σ : Scanned X t tb ss cs) where
  pub reach_counted : {n : ℕ} → n ≡ length t → Counted cs n
  reach_counted e = record {
    long = omega (arith, column_long (count_at X t) (suc (length t)) cs σ.columns.counts);
    first = omega (arith, column_at (count_at X t) (suc (length t)) cs σ.columns.counts 0 (omega arith), count_zero X t);
  }

  pub reach_first : {n r : ℕ} → n ≡ length t → LastRead cs n r → Reaching X t r
  reach_first {r = r} e l =
      let low : r ≤ length t = omega (arith, l.within) in
      let c = column_at (count_at X t) (suc (length t)) cs σ.columns.counts r (omega arith) in
      record { within = low; begun = readable_viable X t r ((count_readable X t r).1 (omega (arith, l.read))) }

  -- the next position
  pub reach_room : {i : ℕ} → i < length t → i + 1 < length ss
  reach_room l = omega (arith, column_long (state_at X t) (suc (length t)) ss σ.columns.states)

  pub reach_standing : {i : ℕ} → i < length t → {s : ℕ} → s ≡ get_or ss (i + 1) 0 → Standing X t tb cs s (i + 1)
  reach_standing {i} l e = record {
    table = σ.table;
    place = omega arith;
    state = e ∙ column_at (state_at X t) (suc (length t)) ss σ.columns.states (i + 1) (omega arith);
    counts = σ.columns.counts;
  }

  pub reach_on : {i : ℕ} → i < length t → true ≡ viable X t (i + 1) → Reaching X t (i + 1)
  reach_on l e = record { within = omega arith; begun = sym e }

  module _ {i : ℕ} (φ : Reaching X t i) where
    pub reach_stop : false ≡ viable X t (i + 1) → i ≡ farthest X t
    reach_stop e =
        farthest_found X σ.table.allowed.storable.dictionary t i φ.within φ.begun
        (λ l. ap (viable X t) (sym (add-one i)) ∙ sym e)

    pub reach_end : length t ≤ i → i ≡ farthest X t
    reach_end l = farthest_found X σ.table.allowed.storable.dictionary t i φ.within φ.begun (λ k. absurd (omega arith))
