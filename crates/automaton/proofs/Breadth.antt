-- Breadth first: the queue is gone through from the root on, and every state comes to it.
use mathlib.Core.Path.{◌≡◌, refl, sym, ap, ap₂, ◌∙◌, subst}
use mathlib.Core.Logic.{◌⊎◌, inl, inr}
use mathlib.Core.Option.{some}
use mathlib.Core.List.{List, [], ◌∷◌}
use Prim.Native.Nat.{ℕ, zero, suc, ◌+◌, ◌-◌, ◌≤◌, ◌<◌}
use native.Mathlib.Decide.{dec_lt}
use native.Mathlib.Omega.{arith}
use lib.Dec.{eqb}
use lib.ListN.{length, get_or}
use Rattle.meaning.specs.Numbers.{most_states, absent}
use Rattle.std.specs.Prelude.{if◌then◌else◌}
use Rattle.meaning.specs.Words.{Word, Words, snoc, find, word}
use Rattle.meaning.specs.Table.{border_field}
use Rattle.meaning.proofs.Lists.{Snoc, nothing, last, snoc_view, snoc-length}
use Rattle.meaning.proofs.Find.{find_some}
use Rattle.meaning.proofs.States.{Bounded, trie_front}
use Rattle.tree.specs.Layout.{field_at}
use Rattle.tree.specs.Tree.{border_of, link_of, chain_of}
use Rattle.tree.specs.Insertion.{Growing}
use Rattle.tree.specs.declared.index.ChildIndex.{ChildIndex}
use Rattle.tree.specs.Filling.{Known, SameTree, Completed}
use Rattle.automaton.specs.Queue.{Settled, unsettled, depth_in, Queued, Taking, Taken}
use Rattle.automaton.proofs.Known.{same_refl, same_trans}
use Rattle.tree.proofs.Climb.{root_word, root_inside, root_only}

-- no state has its border yet
unsettled_all : (t : List ℕ) (m : ℕ) → ((s : ℕ) → s ≤ m → 0 < s → field_at t s border_field ≡ absent) → unsettled t m ≡ m
unsettled_all t zero h = refl
unsettled_all t (suc m) h =
    ap₂ (λ x r. (if eqb x absent then 1 else 0) + r) (h (suc m) (omega arith) (omega arith)) (unsettled_all t m (λ s l. h s (omega arith)))
    ∙ omega arith

-- a state other than the root is the child of a state
pub record Parent (S : Words) (s : ℕ) : Type 0 where
  pub p : ℕ
  pub x : ℕ
  pub inside : p < length S
  pub child : find S (snoc (word S p) x) ≡ some s
  pub deeper : length (word S s) ≡ suc (length (word S p))

pub parent : {S : Words} → Bounded S → (s : ℕ) → s < length S → 0 < length (word S s) → Parent S s
parent {S} σ s l h = go (snoc_view (word S s)) refl
  where
    go : {u : Word} → Snoc u → word S s ≡ u → Parent S s
    go nothing e = absurd (omega (arith, ap length e))
    go (last u x) e =
        let here : find S (snoc u x) ≡ some s = ap (find S) (sym e) ∙ σ.trie.once s l in
        let up = trie_front σ.trie u x (record { place = s; found = here }) in
        let f = find_some S u up.place up.found in
        record {
          p = up.place;
          x = x;
          inside = f.inside;
          child = ap (λ (v : Word). find S (snoc v x)) f.reads ∙ here;
          deeper = ap length e ∙ snoc-length u x ∙ ap (λ (v : Word). suc (length v)) (sym f.reads);
        }

-- the first `head` states of the queue are taken out: their children have their borders
pub record Going (X S : Words) (t₀ t : List ℕ) (index : ChildIndex) (q : List ℕ) (head : ℕ) : Type 0 where
  pub same : SameTree (length S) t₀ t
  pub queued : Queued X S t index q
  pub low : head ≤ length q
  pub done : (i : ℕ) → i < head → (x c : ℕ) → find S (snoc (word S (get_or q i 0)) x) ≡ some c → Settled t c
  pub limit : head < length q → (i : ℕ) → i < length q → depth_in S q i ≤ suc (depth_in S q head)

module _ {X S : Words} {t₀ t : List ℕ} {index : ChildIndex} {q : List ℕ} {head : ℕ} (φ : Going X S t₀ t index q head) where
  -- where every state of fewer than d letters that is in the queue is taken out, every state of at most d letters is in it
  reached : (d : ℕ) → ((i : ℕ) → i < length q → depth_in S q i < d → i < head) → (k : ℕ) → k ≤ d → (s : ℕ) → s < length S → length (word S s) ≡ k
      → (s ≡ 0) ⊎ Settled t s
  reached d out zero h s l e = inl (root_only φ.queued.tree.states l (empty (word S s) e))
    where
      empty : (u : Word) → length u ≡ 0 → u ≡ []
      empty [] z = refl
      empty (a ∷ u) z = absurd (omega arith)
  reached d out (suc k) h s l e =
      let up = parent φ.queued.tree.states s l (omega arith) in
      let (i, m, f) = φ.queued.seen up.p up.inside (reached d out k (omega arith) up.p up.inside (omega (arith, up.deeper))) in
      let shallow : depth_in S q i < d = omega (arith, ap (λ (v : ℕ). length (word S v)) f, up.deeper) in
      inr (φ.done i (out i m shallow) up.x s (ap (λ (v : ℕ). find S (snoc (word S v) up.x)) f ∙ up.child))

  known_of : (s : ℕ) → s < length S → (s ≡ 0) ⊎ Settled t s → Known X S t s
  known_of s l (inl e) = rw e φ.queued.root
  known_of s l (inr h) = φ.queued.known s l h

  -- so the state at the head can be taken out, ..
  pub takes : head < length q → {p : ℕ} → p ≡ get_or q head 0 → Taking X S t index q p
  takes h {p} e = rw e (record {
    queued = φ.queued;
    inside = φ.queued.entries head h;
    known = λ v l m. known_of v l (reached (depth_in S q head) out (length (word S v)) m v l refl);
    limit = φ.limit h;
  })
    where
      out : (i : ℕ) → i < length q → depth_in S q i < depth_in S q head → i < head
      out i l m = go (dec_lt i head)
        where
          go : Dec (i < head) → i < head
          go (yes k) = k
          go (no k) = absurd (omega (arith, φ.queued.rising head i (omega arith) l))

  -- .. and at the end every state is filled in
  pub ends : length q ≤ head → Completed X S t₀ t
  ends h = record {
    whole = record {
      tree = φ.queued.tree;
      borders = λ s l. (all s l).border;
      links = λ s l. (all s l).link;
      chains = λ s l. (all s l).chain;
    };
    past = φ.same.past;
  }
    where
      all : (s : ℕ) → s < length S → Known X S t s
      all s l = known_of s l (reached (length (word S s)) (λ i m k. omega arith) (length (word S s)) (omega arith) s l refl)

  pub goes : head < length q → {p : ℕ} {t' q' : List ℕ} → p ≡ get_or q head 0 → Taken X S t t' index q q' p
      → Going X S t₀ t' index q' (head + 1)
  goes h {p} {t'} {q'} e k = record {
    same = same_trans φ.same k.longer.grown.same;
    queued = k.longer.taking.queued;
    low = omega (arith, k.longer.more);
    done = done;
    limit = limit;
  }
    where
      here : get_or q' head 0 ≡ p
      here = k.longer.queue head h ∙ sym e

      done : (i : ℕ) → i < head + 1 → (x c : ℕ) → find S (snoc (word S (get_or q' i 0)) x) ≡ some c → Settled t' c
      done i l x c f = go (dec_lt i head)
        where
          go : Dec (i < head) → Settled t' c
          go (yes m) = k.longer.kept c (φ.done i m x c (ap (λ (s : ℕ). find S (snoc (word S s) x)) (sym (k.longer.queue i (omega arith))) ∙ f))
          go (no m) =
              let j : i ≡ head = omega arith in
              k.children x c (ap (λ (s : ℕ). find S (snoc (word S s) x)) (sym (ap (λ (n : ℕ). get_or q' n 0) j ∙ here)) ∙ f)

      limit : head + 1 < length q' → (i : ℕ) → i < length q' → depth_in S q' i ≤ suc (depth_in S q' (head + 1))
      limit l i m =
          omega (
            arith,
            k.longer.taking.limit i m,
            ap (λ (s : ℕ). length (word S s)) here,
            k.longer.taking.queued.rising head (head + 1) (omega arith) l,
          )

-- the queue of the root alone
abbrev alone : List ℕ
alone = 0 ∷ []

pub begins : {X S : Words} {t : List ℕ} {index : ChildIndex} {n : ℕ} → Growing X S t index n → Going X S t t index alone 0
begins {X} {S} {t} {index} γ = record {
  same = same_refl t;
  queued = record {
    tree = γ.tree;
    indexed = γ.indexed;
    root = record {
      border = γ.blank.borders 0 inside ∙ sym (ap (border_of S) (root_word γ.tree.states));
      link = γ.blank.links 0 inside ∙ sym (ap (link_of X S) (root_word γ.tree.states));
      chain = γ.blank.chains 0 inside ∙ sym (ap (chain_of X) (root_word γ.tree.states));
    };
    known = λ s l h. absurd (h (γ.blank.borders s l));
    entries = λ i l. subst (λ (s : ℕ). s < length S) (sym (first i l)) inside;
    seen = seen;
    rising = λ i j l h. rw (first i (omega arith), first j h) (omega arith);
    count = omega (arith, inside, unsettled_all t (length S - 1) (λ s l h. γ.blank.borders s (omega (arith, inside))));
  };
  low = omega arith;
  done = λ i l. absurd (omega arith);
  limit = λ h i l. rw (first i l) (omega arith);
}
  where
    inside : 0 < length S
    inside = root_inside γ.tree.states

    first : (i : ℕ) → i < 1 → get_or alone i 0 ≡ 0
    first i l = let z : i ≡ 0 = omega arith in rw z

    seen : (s : ℕ) → s < length S → (s ≡ 0) ⊎ Settled t s → (i : ℕ) × (i < 1) × (get_or alone i 0 ≡ s)
    seen s l (inl z) = (0, omega arith, sym z)
    seen s l (inr h) = absurd (h (γ.blank.borders s l))

pub queue_fits : {X S : Words} {t : List ℕ} {index : ChildIndex} {q : List ℕ} → Queued X S t index q → length q ≤ most_states
queue_fits κ = omega (arith, κ.count, κ.tree.states.few)
