-- What the rows of a table and the columns of a text say at a position, and how a walk along the chain there goes on.
use mathlib.Core.Path.{◌≡◌, refl, sym, ap, ◌∙◌, subst}
use mathlib.Core.Option.{some}
use mathlib.Core.List.{List, [], Memᴰ}
use Prim.Native.Nat.{ℕ, suc, ◌-◌, ◌≤◌, ◌<◌}
use native.Mathlib.Omega.{arith}
use lib.ListN.{length, get_or, take}
use Rattle.meaning.specs.Numbers.{absent}
use Rattle.meaning.specs.Words.{Word, Words, word, size}
use Rattle.meaning.specs.Automaton.{states, nearest, chain}
use Rattle.meaning.specs.Table.{stored, depth_field, word_field, link_field}
use Rattle.meaning.specs.Readings.{state_at, count_at, count_column}
use Rattle.meaning.specs.Listing.{pick}
use Rattle.meaning.proofs.States.{states_within}
use Rattle.meaning.proofs.Chains.{chain_fits, word_of_state}
use Rattle.meaning.proofs.Columns.{column_at, column_long, state_is, state_inside}
use Rattle.meaning.proofs.Counts.{count_readable, count_unreadable}
use Rattle.meaning.proofs.First.{pick_here, pick_past}
use Rattle.tree.specs.Layout.{field_at, HasRow}
use Rattle.tree.specs.Tree.{Tree, IsTable}
use Rattle.tree.specs.Filling.{LinkedAt}
use Rattle.tree.proofs.Walk.{state_row}
use Rattle.tree.proofs.Chain.{AtWord, Begins, Next, begins, next, chain_end, at_number, at_depth}
use Rattle.tree.proofs.Whole.{table_whole, table_linked}
use Rattle.listing.specs.Positions.{words_at, IsWord, Walking, Placed, Ending, ScannedAt}

-- the row of the state of a word
abbrev at_word : {X : Words} {v n : ℕ} → IsWord X v n → AtWord X (states X) v
at_word {n = n} w = record { number = n; inside = w.inside; is = w.is }

module _ {X : Words} {tb : List ℕ} (ι : IsTable X tb) where
  tree : Tree X (states X) tb
  tree = (table_whole ι).tree

  pub no_words : {v : ℕ} → v ≡ absent → words_at X v ≡ []
  no_words e = chain_end tree e

  module _ {v n : ℕ} (w : IsWord X v n) where
    pub word_row : HasRow tb v
    word_row = state_row tree w.inside

    pub word_size : {d : ℕ} → d ≡ field_at tb v depth_field → d ≡ size X n
    word_size e = e ∙ at_depth tree (at_word w)

    pub word_number : {r : ℕ} → r ≡ field_at tb v word_field → r ≡ n
    word_number e = e ∙ at_number tree (at_word w)

    pub word_next : {l : ℕ} → l ≡ field_at tb v link_field → Next X (states X) tb v n l
    word_next e = next tree (table_whole ι).links (at_word w) e

-- a walk that is not at its end stands at a word, and goes on at its link
module _ {X : Words} {tb : List ℕ} {v : ℕ} (ω : Walking X tb v) where
  pub walking_word : (f : v ≡ absent → ⊥) → IsWord X v (ω.on.here f).number
  walking_word f = record { inside = (ω.on.here f).inside; is = (ω.on.here f).is }

  pub walking_on : {n l : ℕ} → IsWord X v n → l ≡ field_at tb v link_field → Walking X tb l
  walking_on w e = record { table = ω.table; on = (word_next ω.table w e).on }

-- a step along the words that end at a position
pub ending_inside : {X : Words} {t : Word} {tb cs : List ℕ} {v i : ℕ} → Ending X t tb cs v i → i < length cs
ending_inside {X} {t} {cs = cs} ε = omega (arith, column_long (count_at X t) (suc (length t)) cs ε.counts, ε.place)

module _ {X : Words} {t : Word} {tb cs : List ℕ} {v i n : ℕ} (ε : Ending X t tb cs v i) (w : IsWord X v n) where
  ι : IsTable X tb
  ι = ε.walking.table

  fits : size X n ≤ i
  fits = (chain_fits X t i (ε.ends n (rw (word_next ι w refl).is (Memᴰ.head refl)))).1

  module _ {d : ℕ} (e : d ≡ field_at tb v depth_field) where
    pub ending_fits : d ≤ i
    ending_fits = omega (arith, word_size ι w e, fits)

    pub ending_count : get_or cs (i - d) 0 ≡ count_at X t (i - size X n)
    ending_count =
        column_at (count_at X t) (suc (length t)) cs ε.counts (i - d) (omega (arith, ε.place))
        ∙ ap (λ (k : ℕ). count_at X t (i - k)) (word_size ι w e)

    pub ending_picked : (get_or cs (i - d) 0 ≡ 0 → ⊥) → pick X t i (words_at X v) ≡ some n
    ending_picked f =
        ap (pick X t i) (word_next ι w refl).is
        ∙ pick_here X t i n (words_at X (field_at tb v link_field)) ((count_readable X t (i - size X n)).1 (omega (arith, ending_count, f)))

    pub ending_passed : {l : ℕ} → l ≡ field_at tb v link_field → get_or cs (i - d) 0 ≡ 0 → pick X t i (words_at X v) ≡ pick X t i (words_at X l)
    ending_passed {l} k f =
        ap (pick X t i) (word_next ι w k).is
        ∙ pick_past X t i n (words_at X l) ((count_unreadable X t (i - size X n)).1 (sym ending_count ∙ f))

  pub ending_on : {l : ℕ} → l ≡ field_at tb v link_field → Ending X t tb cs l i
  ending_on e = record {
    walking = walking_on ε.walking w e;
    counts = ε.counts;
    place = ε.place;
    ends = λ m k. ε.ends m (rw (word_next ι w e).is (Memᴰ.tail k));
  }

-- the chain at a position, by the state there
pub placed : {X : Words} {t : Word} {tb ss cs : List ℕ} {i : ℕ} → ScannedAt X t tb ss cs i → Placed X t tb ss i
placed α = record { stated = record { table = α.scanned.table; states = α.scanned.columns.states }; place = α.place }

module _ {X : Words} {t : Word} {tb ss : List ℕ} {i : ℕ} (α : Placed X t tb ss i) where
  pub state_there : i < length ss
  state_there = omega (arith, column_long (state_at X t) (suc (length t)) ss α.stated.states, α.place)

  module _ {s : ℕ} (e : s ≡ get_or ss i 0) where
    is : s ≡ state_at X t i
    is = e ∙ column_at (state_at X t) (suc (length t)) ss α.stated.states i (omega (arith, α.place))

    pub linked_there : LinkedAt X (states X) tb s
    linked_there = table_linked α.stated.table (rw is (state_inside X t i))

    pub nearest_there : {v : ℕ} → v ≡ stored (nearest (states X) X (word (states X) s)) → v ≡ stored (nearest (states X) X (take i t))
    nearest_there q =
        q ∙ ap stored (sym (word_of_state X (states X) (states_within X) (take i t) s (state_is X t i ∙ ap some (sym is))))

  module _ {v : ℕ} (e : v ≡ stored (nearest (states X) X (take i t))) where
    begins_there : Begins X (states X) (take i t) v
    begins_there = begins (table_whole α.stated.table).tree (take i t) e

    pub chain_there : words_at X v ≡ chain X (take i t)
    chain_there = begins_there.same

    pub walking_there : Walking X tb v
    walking_there = record { table = α.stated.table; on = begins_there.on }

    pub ending_there : {cs : List ℕ} → take (suc (length t)) cs ≡ count_column X t → Ending X t tb cs v i
    ending_there counts = record {
      walking = walking_there;
      counts = counts;
      place = α.place;
      ends = λ n m. subst (Memᴰ n) chain_there m;
    }
