-- The columns by their entries, the state at a position, and the probes.
use mathlib.Core.Path.{◌≡◌, refl, sym, ap, ◌∙◌, subst}
use mathlib.Core.Option.{some}
use mathlib.Core.List.Memᴰ
use mathlib.Core.List.{List, [], ◌∷◌, ◌++◌, map, Memᴰ}
use mathlib.Core.Logic.{◌⊎◌, inl, inr, ⊎_elim, ◌↔◌}
use Prim.Native.Nat.{ℕ, zero, suc, ◌+◌, ◌*◌, ◌≤◌, ◌<◌}
use native.Mathlib.Decide.{dec_lt}
use native.Mathlib.Nat.{mul-suc, le-suc_iff}
use native.Mathlib.Omega.{arith}
use lib.ListN.{length, get_or, take, length-append, length-take, length-map, get_or-append}
use lib.Seq.{get_or-append_seam, get_or-take, take-suc}
use Rattle.meaning.specs.Words.{Word, Words, snoc, word}
use Rattle.meaning.specs.Automaton.{states, nearest, chain, longest_chain}
use Rattle.meaning.specs.Table.{stored, width, chain_field, table}
use Rattle.meaning.specs.Readings.{state_at, up_to, probes_to, probes}
use Rattle.meaning.specs.Plain.{Dictionary, Suffix, LongestIn, Shorter, Ordered, Probe}
use Rattle.meaning.proofs.Lists.{mem_map, map_mem, ordered_map, ordered_append, snoc-length}
use Rattle.meaning.proofs.States.{states_trie, states_within}
use Rattle.meaning.proofs.Suffixes.{state_exists, state_step, nearest_inside, nearest_some, suffix-length}
use Rattle.meaning.proofs.Chains.{chain_nearest, chain_within_r, chain_is, chain_falls, chain_fits}
use Rattle.meaning.proofs.Rows.{chain_number}

pub up_to-length : (f : ℕ → ℕ) (n : ℕ) → length (up_to f n) ≡ n
up_to-length f zero = refl
up_to-length f (suc n) = omega (arith, snoc-length (up_to f n) (f n), up_to-length f n)

pub up_to_at : (f : ℕ → ℕ) (n i : ℕ) → i < n → get_or (up_to f n) i 0 ≡ f i
up_to_at f zero i l = absurd (omega arith)
up_to_at f (suc n) i l = go (up_to_at f n i) (dec_lt i n)
  where
    go : (i < n → get_or (up_to f n) i 0 ≡ f i) → Dec (i < n) → get_or (snoc (up_to f n) (f n)) i 0 ≡ f i
    go more (yes k) = get_or-append (up_to f n) (f n ∷ []) 0 i (omega (arith, up_to-length f n)) ∙ more k
    go more (no k) =
        let e : i ≡ length (up_to f n) = omega (arith, up_to-length f n) in
        let i-is-n : n ≡ i = omega (arith, up_to-length f n) in
        ap (λ (j : ℕ). get_or (snoc (up_to f n) (f n)) j 0) e ∙ get_or-append_seam (up_to f n) (f n) [] 0 ∙ ap f i-is-n

-- a list that begins with such a column
pub column_at : (f : ℕ → ℕ) (n : ℕ) (l : List ℕ) → take n l ≡ up_to f n → (i : ℕ) → i < n → get_or l i 0 ≡ f i
column_at f n l e i h = sym (get_or-take n l i 0 h) ∙ ap (λ (k : List ℕ). get_or k i 0) e ∙ up_to_at f n i h

pub column_long : (f : ℕ → ℕ) (n : ℕ) (l : List ℕ) → take n l ≡ up_to f n → n ≤ length l
column_long f n l e = omega (arith, ap length e, up_to-length f n, length-take n l)

-- the state at position i is the longest suffix of the first i letters that is a state
module _ (X : Words) (t : Word) (i : ℕ) where
  pub state_is : nearest (states X) (states X) (take i t) ≡ some (state_at X t i)
  state_is = let (s, e) = state_exists (states X) (states_trie X) (take i t) in e ∙ ap some (sym (ap stored e))

  pub state_longest : LongestIn Suffix (states X) (take i t) (word (states X) (state_at X t i))
  state_longest = nearest_some (states X) (states X) (take i t) _ state_is

  pub state_inside : state_at X t i < length (states X)
  state_inside = nearest_inside (states X) (states X) (take i t) _ state_is

  pub state_fits : length (word (states X) (state_at X t i)) ≤ i
  state_fits = omega (arith, suffix-length state_longest.ends, length-take i t)

  -- the chain of a text is the chain of its state
  pub state_chain : chain X (take i t) ≡ chain X (word (states X) (state_at X t i))
  state_chain = chain_nearest X (states X) (states X) (states_within X) (take i t) _ state_is

  -- so its row tells how many words end at position i
  pub words_ending : get_or (table X) (width * state_at X t i + chain_field) 0 ≡ length (chain X (take i t))
  words_ending = chain_number X (state_at X t i) state_inside ∙ ap length (sym state_chain)

  -- the step law: the state at i + 1 from the state at i and the letter there
  pub state_next : i < length t
      → nearest (states X) (states X) (snoc (word (states X) (state_at X t i)) (get_or t i 0)) ≡ some (state_at X t (suc i))
  state_next h =
      let e : nearest (states X) (states X) (take (suc i) t) ≡ nearest (states X) (states X) (snoc (word (states X) (state_at X t i)) (get_or t i 0))
      = ap (nearest (states X) (states X)) (take-suc t i 0 h) ∙ state_step (states X) (states_trie X) (take i t) (get_or t i 0) _ state_is in
      let (s, f) = state_exists (states X) (states_trie X) (take (suc i) t) in
      sym e ∙ f ∙ ap some (sym (ap stored f))

-- the probes are at most r for each letter
probes_to_bound : (X : Words) (t : Word) (i : ℕ) → probes_to X t i ≤ longest_chain X * i
probes_to_bound X t zero = omega arith
probes_to_bound X t (suc i) = omega (arith, mul-suc (longest_chain X) i, chain_within_r X (take (suc i) t), probes_to_bound X t i)

pub probes_within_r : (X : Words) (t : Word) → probes X t ≤ longest_chain X * length t
probes_within_r X t = probes_to_bound X t (length t)

abbrev pub at : ℕ → ℕ → ℕ × ℕ
at i n = (i, n)

-- the probes up to position i, each as its position and word
abbrev pub probe_list : Words → Word → ℕ → List (ℕ × ℕ)
probe_list X t zero = []
probe_list X t (suc i) = probe_list X t i ++ map (at (suc i)) (chain X (take (suc i) t))

-- p comes at an earlier position, or at the same with a longer word
abbrev pub Sooner : Words → ℕ × ℕ → ℕ × ℕ → Type 0
Sooner X p q = (p.0 < q.0) ⊎ ((p.0 ≡ q.0) × Shorter X p.1 q.1)

-- their number is what the scan tells
probe_list_length : (X : Words) (t : Word) (i : ℕ) → length (probe_list X t i) ≡ probes_to X t i
probe_list_length X t zero = refl
probe_list_length X t (suc i) = omega (
  arith,
  length-append (probe_list X t i) (map (at (suc i)) (chain X (take (suc i) t))),
  length-map (chain X (take (suc i) t)) (at (suc i)),
  probe_list_length X t i,
)

pub probes_number : (X : Words) (t : Word) → probes X t ≡ length (probe_list X t (length t))
probes_number X t = sym (probe_list_length X t (length t))

-- they are exactly the words that end at a position, ..
probe_list_chain : (X : Words) (t : Word) (i : ℕ) {p : ℕ × ℕ} → Memᴰ p (probe_list X t i)
    → (p.0 ≤ i) × Memᴰ p.1 (chain X (take p.0 t))
probe_list_chain X t zero m = absurd (Memᴰ.not-nil m)
probe_list_chain X t (suc i) {p} m =
    ⊎_elim
    (λ k. let (l, c) = probe_list_chain X t i k in (omega arith, c))
    (λ k. let (n, c, e) = mem_map (at (suc i)) (chain X (take (suc i) t)) k in
    subst (λ (q : ℕ × ℕ). (q.0 ≤ suc i) × Memᴰ q.1 (chain X (take q.0 t))) (sym e) (omega arith, c))
    (Memᴰ.append_cases (probe_list X t i) m)

chain_probe_list : (X : Words) (t : Word) (k i n : ℕ) → i ≤ k → Memᴰ n (chain X (take i t)) → Memᴰ (at i n) (probe_list X t k)
chain_probe_list X t zero i n l c = absurd (omega (arith, chain_fits X t i c))
chain_probe_list X t (suc k) i n l c =
    ⊎_elim
    (λ h. Memᴰ.append_left (map (at (suc k)) (chain X (take (suc k) t))) (chain_probe_list X t k i n h c))
    (λ e. Memᴰ.append_right (probe_list X t k)
    (subst (λ (j : ℕ). Memᴰ (at j n) (map (at (suc k)) (chain X (take (suc k) t)))) (sym e)
    (map_mem (at (suc k)) (subst (λ (j : ℕ). Memᴰ n (chain X (take j t))) e c))))
    (le-suc_iff.0 l)

pub probes_are : (X : Words) → Dictionary X → (t : Word) (i n : ℕ) → Memᴰ (at i n) (probe_list X t (length t)) ↔ Probe X t i n
probes_are X D t i n = (
  λ m. let (l, c) = probe_list_chain X t (length t) m in record { inside = l; ends = (chain_is X D (take i t) n).0 c },
  λ p. chain_probe_list X t (length t) i n p.inside ((chain_is X D (take i t) n).1 p.ends),
)

-- .. each once
pub probes_ordered : (X : Words) (t : Word) (i : ℕ) → Ordered (Sooner X) (probe_list X t i)
probes_ordered X t zero = tt
probes_ordered X t (suc i) =
    ordered_append (Sooner X) (probe_list X t i) (map (at (suc i)) (chain X (take (suc i) t)))
    (probes_ordered X t i)
    (ordered_map (Shorter X) (Sooner X) (at (suc i)) (λ n m s. inr (refl, s)) (chain X (take (suc i) t)) (chain_falls X (take (suc i) t)))
    (λ p q k l. inl (later p q k l))
  where
    later : (p q : ℕ × ℕ) → Memᴰ p (probe_list X t i) → Memᴰ q (map (at (suc i)) (chain X (take (suc i) t))) → p.0 < q.0
    later p q k l =
        let (n, c, e) = mem_map (at (suc i)) (chain X (take (suc i) t)) l in
        let f : q.0 ≡ suc i = ap (λ (r : ℕ × ℕ). r.0) e in
        omega (arith, (probe_list_chain X t i k).0)
