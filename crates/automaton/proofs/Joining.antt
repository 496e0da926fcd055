-- The queue of states: how it grows by the children of a state, which get their borders, links and chains.
use mathlib.Core.Path.{◌≡◌, refl, sym, ap, ap₂, ◌∙◌, subst}
use mathlib.Core.Logic.{◌⊎◌, inl, inr}
use mathlib.Core.Option.{some}
use mathlib.Core.List.{List, [], ◌∷◌, ◌++◌}
use Prim.Native.Nat.{ℕ, zero, suc, ◌+◌, ◌-◌, ◌≤◌, ◌<◌}
use native.Mathlib.Decide.{dec_lt, ℕ_discrete}
use native.Mathlib.Nat.{lt_of_not-le}
use native.Mathlib.Omega.{arith}
use lib.Dec.{eqb}
use lib.ListN.{length, get_or, length-append, get_or-append}
use lib.Seq.{get_or-append_seam}
use borrow.Author.Tests.{ne_eqb}
use Rattle.meaning.specs.Numbers.{letter_values, most_states, absent}
use Rattle.std.specs.Prelude.{if◌then◌else◌}
use Rattle.meaning.specs.Words.{Word, Words, snoc, find, word}
use Rattle.meaning.specs.Automaton.{nearest, border, link}
use Rattle.meaning.specs.Table.{stored, child_from, last_letter, letter_field, sibling_field, border_field, link_field, chain_field}
use Rattle.meaning.proofs.Lists.{snoc-length}
use Rattle.meaning.proofs.Find.{none_or_some, some_inj, find_some}
use Rattle.meaning.proofs.Children.{last_letter_snoc}
use Rattle.meaning.proofs.Suffixes.{proper_inside, proper_shorter}
use Rattle.meaning.proofs.Chains.{chain_length, link_of_border}
use Rattle.meaning.proofs.Rows.{stored_small}
use Rattle.tree.specs.Layout.{field_at, set_field, HasRow}
use Rattle.tree.specs.Tree.{link_of, chain_of}
use Rattle.tree.specs.declared.index.ChildIndex.{ChildIndex}
use Rattle.tree.specs.Filling.{Bordered, LinkedAt, CountedAt, Known, Grown}
use Rattle.automaton.specs.Queue.{Settled, unsettled, depth_in, Taking, Settling, Longer, Settles, Taken}
use Rattle.tree.proofs.Walk.{Child, state_row, state_small, more, no_more, left, left_same, left_less}
use Rattle.automaton.proofs.Known.{same_tree, grown_refl, grown_trans, border-set, other_set, known-set, grown-set}
use Rattle.tree.proofs.Climb.{root_word, root_inside}

-- the number of states without a border
unsettled_same : (t t' : List ℕ) (m : ℕ) → ((s : ℕ) → s ≤ m → 0 < s → field_at t' s border_field ≡ field_at t s border_field)
    → unsettled t' m ≡ unsettled t m
unsettled_same t t' zero h = refl
unsettled_same t t' (suc m) h =
    ap₂ (λ x r. (if eqb x absent then 1 else 0) + r) (h (suc m) (omega arith) (omega arith)) (unsettled_same t t' m (λ s l. h s (omega arith)))

-- one state more has its border
unsettled_less : (t t' : List ℕ) (m c : ℕ) → c ≤ m → 0 < c → field_at t c border_field ≡ absent → Settled t' c
    → ((s : ℕ) → (s ≡ c → ⊥) → field_at t' s border_field ≡ field_at t s border_field) → suc (unsettled t' m) ≡ unsettled t m
unsettled_less t t' zero c l h old new other = absurd (omega arith)
unsettled_less t t' (suc m) c l h old new other = go (ℕ_discrete (suc m) c) (λ k. unsettled_less t t' m c k h old new other)
  where
    go : Dec (suc m ≡ c) → (c ≤ m → suc (unsettled t' m) ≡ unsettled t m) → suc (unsettled t' (suc m)) ≡ unsettled t (suc m)
    go (yes e) more =
        let same : unsettled t' m ≡ unsettled t m = unsettled_same t t' m (λ s k z. other s (λ i. omega arith)) in
        let before : field_at t (suc m) border_field ≡ absent = rw e old in
        let after : Settled t' (suc m) = rw e new in
        rw (before, same, ne_eqb (field_at t' (suc m) border_field) absent after) (omega arith)
    go (no d) more = rw (other (suc m) d) (omega (arith, more (omega arith)))

pub bordered : {X S : Words} {t : List ℕ} {index : ChildIndex} {q : List ℕ} {p : ℕ} → Taking X S t index q p → Bordered X S t index p
bordered τ = record {
  tree = τ.queued.tree;
  indexed = τ.queued.indexed;
  inside = τ.inside;
  borders = λ v l d. (τ.known v l d).border;
}

longer_refl : {X S : Words} {t : List ℕ} {index : ChildIndex} {q : List ℕ} {p : ℕ} → Taking X S t index q p → Longer X S t t index q q p
longer_refl {t = t} τ = record { taking = τ; grown = grown_refl t; kept = λ s k. k; more = omega arith; queue = λ i l. refl }

-- a child of p
module _ {X S : Words} {t : List ℕ} {index : ChildIndex} {q : List ℕ} {p c : ℕ} (σ : Settling X S t index q p c) where
  pub child_inside : c < length S
  child_inside = (find_some S _ c σ.child).inside

  child_reads : word S c ≡ snoc (word S p) σ.letter
  child_reads = (find_some S _ c σ.child).reads

  child_deeper : length (word S c) ≡ suc (length (word S p))
  child_deeper = ap length child_reads ∙ snoc-length (word S p) σ.letter

  not_root : c ≡ 0 → ⊥
  not_root e = omega (arith, child_deeper, ap (λ (s : ℕ). length (word S s)) e, ap length (root_word σ.taking.queued.tree.states))

  pub child_row : HasRow t c
  child_row = state_row σ.taking.queued.tree child_inside

  pub child_letter : field_at t c letter_field ≡ σ.letter
  child_letter =
      σ.taking.queued.tree.letters c child_inside
      ∙ ap (λ (u : Word). stored (last_letter u)) child_reads
      ∙ ap stored (last_letter_snoc (word S p) σ.letter)

  pub child_byte : field_at t c letter_field < letter_values
  child_byte = rw child_letter (σ.taking.queued.tree.states.bytes (word S p) σ.letter c σ.child)

  -- it has its border already
  pub passes : Settled t c → Settles X S t t index q q p c
  passes h = record { longer = longer_refl σ.taking; settled = h }

  -- its border is b, ..
  module _ {a b : ℕ} (letter : a ≡ field_at t c letter_field) (is : border S (snoc (word S p) a) ≡ some b) where
    border_is : border S (word S c) ≡ some b
    border_is = ap (border S) (child_reads ∙ ap (snoc (word S p)) (sym (letter ∙ child_letter))) ∙ is

    border_inside : b < length S
    border_inside = proper_inside S S (word S c) b border_is

    pub border_small : b < most_states
    border_small = state_small σ.taking.queued.tree border_inside

    -- .. no longer than p, so that its link and its chain's length are right, ..
    border_known : Known X S t b
    border_known = σ.taking.known b border_inside (omega (arith, child_deeper, proper_shorter S S (word S c) b border_is))

    pub border_linked : LinkedAt X S t b
    border_linked = record { tree = σ.taking.queued.tree; inside = border_inside; link = border_known.link }

    pub border_counted : CountedAt X S t c b
    border_counted = record {
      tree = σ.taking.queued.tree;
      inside = child_inside;
      border = border_is;
      chain = border_known.chain;
    }

    -- .. and the nearest word there is l, and k words end at c
    module _ {l k : ℕ} (nearest_is : l ≡ stored (nearest S X (word S b))) (chain_is : k ≡ chain_of X (word S c)) where
      link_is : l ≡ link_of X S (word S c)
      link_is = nearest_is ∙ ap stored (sym (link_of_border X S σ.taking.queued.tree.words.within (word S c) b border_is))

      pub all_small : (b ≤ absent) × (l ≤ absent) × (k ≤ absent)
      all_small = (
        omega (arith, border_small),
        stored_small (link X S (word S c))
            (λ m e. omega (arith, state_small σ.taking.queued.tree (proper_inside S X (word S c) m e)))
            link_is,
        omega (arith, chain_is, chain_length X (word S c), σ.taking.queued.tree.states.short (word S c) c once),
      )
        where
          once : find S (word S c) ≡ some c
          once = σ.taking.queued.tree.states.trie.once c child_inside

      abbrev t' : List ℕ
      t' = set_field (set_field (set_field t c border_field b) c link_field l) c chain_field k

      other : (s : ℕ) → (s ≡ c → ⊥) → field_at t' s border_field ≡ field_at t s border_field
      other s d = other_set σ.taking.queued.tree child_inside b l k s border_field (omega arith) d

      settled : Settled t' c
      settled e = omega (arith, border-set σ.taking.queued.tree child_inside b l k, border_small)

      known_here : Known X S t' c
      known_here = known-set σ.taking.queued.tree child_inside b l k (sym (ap stored border_is)) link_is chain_is

      grown : Grown X S t t'
      grown = grown-set σ.taking.queued.tree child_inside b l k (sym (ap stored border_is)) link_is chain_is

      kept : (s : ℕ) → Settled t s → Settled t' s
      kept s h e = go (ℕ_discrete s c)
        where
          go : Dec (s ≡ c) → ⊥
          go (yes i) = settled (rw i at e)
          go (no d) = h (sym (other s d) ∙ e)

      module _ (new : field_at t c border_field ≡ absent) where
        fewer : suc (unsettled t' (length S - 1)) ≡ unsettled t (length S - 1)
        fewer =
            let inside = child_inside in
            let other-than-root = not_root in
            unsettled_less t t' (length S - 1) c (omega arith) (omega arith) new settled other

        pub room : length q < most_states
        room = omega (arith, fewer, σ.taking.queued.count, σ.taking.queued.tree.states.few)

        abbrev q' : List ℕ
        q' = q ++ (c ∷ [])

        longer-by-one : length q' ≡ length q + 1
        longer-by-one = length-append q (c ∷ [])

        old : (i : ℕ) → i < length q → get_or q' i 0 ≡ get_or q i 0
        old i l = get_or-append q (c ∷ []) 0 i l

        last_one : get_or q' (length q) 0 ≡ c
        last_one = get_or-append_seam q c [] 0

        -- what holds of each state of the queue, and of c
        each : (P : ℕ → Type 0) → ((i : ℕ) → i < length q → P (get_or q i 0)) → P c → (i : ℕ) → i < length q' → P (get_or q' i 0)
        each P h k i l = go (dec_lt i (length q))
          where
            go : Dec (i < length q) → P (get_or q' i 0)
            go (yes m) = subst P (sym (old i m)) (h i m)
            go (no m) = let e : i ≡ length q = omega (arith, longer-by-one) in subst P (sym (ap (λ (j : ℕ). get_or q' j 0) e ∙ last_one)) k

        limit : (i : ℕ) → i < length q' → depth_in S q' i ≤ suc (length (word S p))
        limit = each (λ s. length (word S s) ≤ suc (length (word S p))) σ.taking.limit (omega (arith, child_deeper))

        known : (s : ℕ) → s < length S → Settled t' s → Known X S t' s
        known s l h = go (ℕ_discrete s c)
          where
            go : Dec (s ≡ c) → Known X S t' s
            go (yes i) = rw i known_here
            go (no d) = grown.kept s l (σ.taking.queued.known s l (λ e. h (other s d ∙ e)))

        seen : (s : ℕ) → s < length S → (s ≡ 0) ⊎ Settled t' s → (i : ℕ) × (i < length q') × (get_or q' i 0 ≡ s)
        seen s l h = go (ℕ_discrete s c) h
          where
            before : (s ≡ 0) ⊎ Settled t s → (i : ℕ) × (i < length q') × (get_or q' i 0 ≡ s)
            before k = let (i, m, e) = σ.taking.queued.seen s l k in (i, omega (arith, longer-by-one), old i m ∙ e)

            go : Dec (s ≡ c) → (s ≡ 0) ⊎ Settled t' s → (i : ℕ) × (i < length q') × (get_or q' i 0 ≡ s)
            go (yes e) k = (length q, omega (arith, longer-by-one), last_one ∙ sym e)
            go (no d) (inl z) = before (inl z)
            go (no d) (inr k) = before (inr (λ e. k (other s d ∙ e)))

        rising : (i j : ℕ) → i ≤ j → j < length q' → depth_in S q' i ≤ depth_in S q' j
        rising i j l h = go (dec_lt j (length q))
          where
            go : Dec (j < length q) → depth_in S q' i ≤ depth_in S q' j
            go (yes m) = rw (old i (omega arith), old j m) (σ.taking.queued.rising i j l m)
            go (no m) =
                let e : j ≡ length q = omega (arith, longer-by-one) in
                let end : depth_in S q' j ≡ suc (length (word S p))
                = ap (λ (s : ℕ). length (word S s)) (ap (λ (k : ℕ). get_or q' k 0) e ∙ last_one) ∙ child_deeper in
                rw end (limit i (omega arith))

        pub settles : Settles X S t t' index q q' p c
        settles = record {
          longer = record {
            taking = record {
              queued = record {
                tree = same_tree grown.same σ.taking.queued.tree;
                indexed = σ.taking.queued.indexed;
                root = grown.kept 0 (root_inside σ.taking.queued.tree.states) σ.taking.queued.root;
                known = known;
                entries = each (λ s. s < length S) σ.taking.queued.entries child_inside;
                seen = seen;
                rising = rising;
                count = omega (arith, fewer, σ.taking.queued.count, longer-by-one);
              };
              inside = σ.taking.inside;
              known = λ v l d. grown.kept v l (σ.taking.known v l d);
              limit = limit;
            };
            grown = grown;
            kept = kept;
            more = omega (arith, longer-by-one);
            queue = old;
          };
          settled = settled;
        }

-- the walk along the children of p, while they join the queue: those by letters below b have
pub record Filling (X S : Words) (t₀ t : List ℕ) (index : ChildIndex) (q₀ q : List ℕ) (p c : ℕ) : Type 0 where
  pub longer : Longer X S t₀ t index q₀ q p
  pub b : ℕ
  pub is : c ≡ stored (child_from S (word S p) b)
  pub done : (x d : ℕ) → x < b → find S (snoc (word S p) x) ≡ some d → Settled t d

pub fills : {X S : Words} {t : List ℕ} {index : ChildIndex} {q : List ℕ} {p c : ℕ} → Taking X S t index q p → c ≡ stored (child_from S (word S p) 0)
    → Filling X S t t index q q p c
fills τ e = record {
  longer = longer_refl τ;
  b = 0;
  is = e;
  done = λ x d l. absurd (omega arith);
}

module _ {X S : Words} {t₀ t : List ℕ} {index : ChildIndex} {q₀ q : List ℕ} {p c : ℕ} (φ : Filling X S t₀ t index q₀ q p c) where
  pub filled : c ≡ absent → Taken X S t₀ t index q₀ q p
  filled e = record { longer = φ.longer; children = λ x d f. φ.done x d (low x d f) f }
    where
      low : (x d : ℕ) → find S (snoc (word S p) x) ≡ some d → x < φ.b
      low x d f = lt_of_not-le (λ l. none_or_some (no_more φ.longer.taking.queued.tree (word S p) φ.is e x l) f)

  module _ (f : c ≡ absent → ⊥) where
    row : Child S t (word S p) φ.b c
    row = more φ.longer.taking.queued.tree (word S p) φ.is f

    pub filling_row : HasRow t c
    filling_row = state_row φ.longer.taking.queued.tree row.inside

    pub settling : Settling X S t index q p c
    settling = record { taking = φ.longer.taking; letter = row.least.letter; child = row.least.child }

    module _ {t' q' : List ℕ} (k : Settles X S t t' index q q' p c) where
      after : Child S t' (word S p) φ.b c
      after = more k.longer.taking.queued.tree (word S p) φ.is f

      pub after_row : HasRow t' c
      after_row = state_row k.longer.taking.queued.tree row.inside

      pub fills_on : Filling X S t₀ t' index q₀ q' p (field_at t' c sibling_field)
      fills_on = record {
        longer = record {
          taking = k.longer.taking;
          grown = grown_trans φ.longer.grown k.longer.grown;
          kept = λ s h. k.longer.kept s (φ.longer.kept s h);
          more = omega (arith, φ.longer.more, k.longer.more);
          queue = λ i l. k.longer.queue i (omega (arith, φ.longer.more)) ∙ φ.longer.queue i l;
        };
        b = suc after.least.letter;
        is = after.next;
        done = done;
      }
        where
          done : (x d : ℕ) → x < suc after.least.letter → find S (snoc (word S p) x) ≡ some d → Settled t' d
          done x d l e = go (ℕ_discrete x after.least.letter) (dec_lt x φ.b)
            where
              go : Dec (x ≡ after.least.letter) → Dec (x < φ.b) → Settled t' d
              go (yes i) h =
                  let same : d ≡ c = some_inj (sym e ∙ ap (λ (y : ℕ). find S (snoc (word S p) y)) i ∙ after.least.child) in
                  rw same k.settled
              go (no i) (yes h) = k.longer.kept d (φ.done x d h e)
              go (no i) (no h) = none_or_some (after.least.first x (omega arith) (omega arith)) e

      pub fills_less : left t' (field_at t' c sibling_field) < left t c
      fills_less =
          let e : left t' c ≡ left t c = left_same t t' c (k.longer.grown.same.fields c letter_field (omega arith)) in
          rw e at (left_less k.longer.taking.queued.tree after)
