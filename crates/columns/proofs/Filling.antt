-- The turns of the loop that writes the columns.
use mathlib.Core.Path.{◌≡◌, refl, sym, ap, ◌∙◌}
use mathlib.Core.List.{List, []}
use Prim.Native.Nat.{ℕ, zero, suc, ◌+◌, ◌*◌, ◌≤◌, ◌<◌}
use native.Mathlib.Numerals.{add-one}
use native.Mathlib.Omega.{arith}
use lib.ListN.{length, take, set, length-set}
use Rattle.meaning.specs.Numbers.{longest_word, most_states}
use Rattle.meaning.specs.Words.{Word, Words, word}
use Rattle.meaning.specs.Automaton.{states, chain}
use Rattle.meaning.specs.Table.{stored}
use Rattle.meaning.specs.Readings.{state_at, count_at, probes_to, farthest}
use Rattle.meaning.proofs.States.{states_trie}
use Rattle.meaning.proofs.Suffixes.{nearest_here}
use Rattle.meaning.proofs.Chains.{chain_length}
use Rattle.meaning.proofs.Columns.{state_inside, state_chain, probes_within_r}
use Rattle.tree.specs.Tree.{IsTable}
use Rattle.tree.specs.declared.index.ChildIndex.{ChildIndex}
use Rattle.tree.specs.Index.{Indexed}
use Rattle.tree.proofs.Walk.{state_small}
use Rattle.tree.proofs.Whole.{table_whole}
use Rattle.columns.specs.Columns.{Columns}
use Rattle.columns.specs.Entries.{Reached, IsEntry}
use Rattle.columns.specs.Scans.{Room, Scans}
use Rattle.columns.proofs.Tallying.{state_short}
use Rattle.columns.proofs.Written.{Written, written_first, written_column, written_on, written_over}

-- every text begins in state 0
pub state_zero : (X : Words) (t : Word) → state_at X t 0 ≡ 0
state_zero X t = ap stored (nearest_here (states X) (states X) [] 0 (states_trie X).root ∙ (states_trie X).root)

module _ {X : Words} {tb : List ℕ} (ι : IsTable X tb) (t : Word) where
  -- what is stored and told fits its type
  pub state_at_small : (i : ℕ) → state_at X t i < most_states
  state_at_small i = state_small (table_whole ι).tree (state_inside X t i)

  chain_few : (i : ℕ) → length (chain X (take i t)) ≤ longest_word
  chain_few i = omega (
    arith,
    ap length (state_chain X t i),
    chain_length X (word (states X) (state_at X t i)),
    state_short ι (state_inside X t i),
  )

  pub probes_few : (i : ℕ) → probes_to X t i ≤ longest_word * i
  probes_few zero = omega arith
  probes_few (suc i) = omega (arith, probes_few i, chain_few (suc i))

-- the entries up to position i are written, and what is to be told is right up to there
pub record Filled (X : Words) (t : Word) (ss₀ ss cs₀ cs : List ℕ) (c p s i : ℕ) : Type 0 where
  pub low : i ≤ length t
  pub states : Written (state_at X t) (suc i) ss₀ ss
  pub counts : Written (count_at X t) (suc i) cs₀ cs
  pub state : s ≡ state_at X t i
  pub count : c ≡ count_at X t i
  pub probed : p ≡ probes_to X t i

-- the first entries
pub room_first : {X : Words} {t : Word} {tb ss cs : List ℕ} → Room X t tb ss cs → Room X t tb (set ss 0 0) (set cs 0 1)
room_first {ss = ss} {cs} ρ = record {
  table = ρ.table;
  short = ρ.short;
  states = omega (arith, ρ.states, length-set ss 0 0);
  counts = omega (arith, ρ.counts, length-set cs 0 1);
}

pub filled_first : (X : Words) (t : Word) (ss cs : List ℕ) → 0 < length ss → 0 < length cs
    → Filled X t (set ss 0 0) (set ss 0 0) (set cs 0 1) (set cs 0 1) 1 0 0 0
filled_first X t ss cs h k = record {
  low = omega arith;
  states = written_first (state_at X t) ss h (sym (state_zero X t));
  counts = written_first (count_at X t) cs k refl;
  state = sym (state_zero X t);
  count = refl;
  probed = refl;
}

module _ {X : Words} {t : Word} {tb ss₀ ss cs₀ cs : List ℕ} {c p s i : ℕ}
    (ρ : Room X t tb ss₀ cs₀) (φ : Filled X t ss₀ ss cs₀ cs c p s i) where
  pub filled_reached : {index : ChildIndex} → Indexed (states X) index → i < length t → Reached X t tb index cs s i
  filled_reached h l = record {
    table = ρ.table;
    indexed = h;
    place = l;
    state = φ.state;
    counts = written_column φ.counts;
  }

  module _ {v c' k : ℕ} (l : i < length t) (ε : IsEntry X t (suc i) v c' k) where
    pub filled_on : Filled X t ss₀ (set ss (i + 1) v) cs₀ (set cs (i + 1) c') c' (p + k) v (i + 1)
    filled_on = rw (add-one i) (record {
      low = l;
      states = written_on φ.states (omega (arith, ρ.states)) ε.state;
      counts = written_on φ.counts (omega (arith, ρ.counts)) ε.count;
      state = ε.state;
      count = ε.count;
      probed = omega (arith, φ.probed, ε.number);
    })

    pub filled_state_small : v < most_states
    filled_state_small = omega (arith, ε.state, state_at_small ρ.table t (suc i))

    pub filled_probes_small : p + k ≤ longest_word * suc i
    filled_probes_small = omega (arith, φ.probed, ε.number, probes_few ρ.table t (suc i))

-- all entries: the columns are those of the text, and once it is known how far it can be read, all is told
module _ {X : Words} {t : Word} (ss₀ : List ℕ) {ss : List ℕ} (cs₀ : List ℕ) {cs : List ℕ} {c p s i : ℕ}
    (φ : Filled X t (set ss₀ 0 0) ss (set cs₀ 0 1) cs c p s i) (h : length t ≤ i) where
  filled_end : Filled X t (set ss₀ 0 0) ss (set cs₀ 0 1) cs c p s (length t)
  filled_end = let e : i ≡ length t = omega (arith, φ.low) in rw e at φ

  pub filled_columns : Columns X t ss cs
  filled_columns = record { states = written_column filled_end.states; counts = written_column filled_end.counts }

  pub filled_all : {f : ℕ} → f ≡ farthest X t → Scans X t ss₀ ss cs₀ cs f c p
  filled_all e = record {
    states = written_over ss₀ 0 filled_end.states;
    counts = written_over cs₀ 1 filled_end.counts;
    far = e;
    count = filled_end.count;
    probed = filled_end.probed;
    bound = omega (arith, filled_end.probed, probes_within_r X t);
  }

-- what the scan leaves are the columns
pub scans_columns : {X : Words} {t : Word} {ss ss' cs cs' : List ℕ} {f c p : ℕ} → Scans X t ss ss' cs cs' f c p → Columns X t ss' cs'
scans_columns {X} {t} {ss} {ss'} {cs} {cs'} σ =
    let states-written : Written (state_at X t) (suc (length t)) ss ss' = record { is = σ.states } in
    let counts-written : Written (count_at X t) (suc (length t)) cs cs' = record { is = σ.counts } in
    record { states = written_column states-written; counts = written_column counts-written }
