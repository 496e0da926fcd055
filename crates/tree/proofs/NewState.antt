-- What one new state, the child of u by the letter a, changes of the states and of the pointers to children: of these one.
use mathlib.Core.Path.{◌≡◌, refl, sym, ◌∙◌}
use mathlib.Core.Logic.{◌≢◌, ⊎_elim}
use mathlib.Core.Option.{none, some}
use Prim.Native.Nat.{ℕ, suc, ◌≤◌, ◌<◌}
use native.Mathlib.Decide.{dec_lt}
use native.Mathlib.Omega.{arith}
use Rattle.std.specs.Prelude.{Option}
use Rattle.meaning.specs.Words.{Word, Words, snoc, find}
use Rattle.meaning.specs.Table.{child_from, first_child, next_sibling}
use Rattle.meaning.proofs.Lists.{trichotomy, Snoc, nothing, last, snoc_view}
use Rattle.meaning.proofs.Find.{Alike, alike, apart, compare, none_or_some}
use Rattle.meaning.proofs.Children.{NoChild, child_from_elsewhere, child_from_above, child_from_before, sibling_snoc}
use Rattle.tree.specs.Insertion.{Holder, own, child}

-- the pointer to the child from `from` on is the one that changes; each other stays
module _ (S : Words) (u : Word) {a from : ℕ} {before : Option ℕ} (fresh : find S (snoc u a) ≡ none) (h : Holder S u from before) (low : from ≤ a)
    (gap : NoChild S u from a) where
  pointer_kept : {b : ℕ} {o : Option ℕ} → Holder S u b o → b ≢ from → child_from (snoc S (snoc u a)) u b ≡ child_from S u b
  pointer_kept {b} k d = go (dec_lt b from)
    where
      lower : {f : ℕ} {o : Option ℕ} → Holder S u f o → f ≤ a → b < f → child_from (snoc S (snoc u a)) u b ≡ child_from S u b
      lower own l i = absurd (omega arith)
      lower (child f q e) l i = child_from_before S u a b f q (omega arith) (omega arith) e

      beyond : (e q : ℕ) → find S (snoc u e) ≡ some q → from ≤ e → a < e
      beyond e q f i =
          ⊎_elim
          (λ z. none_or_some (rw (← z) at fresh) f)
          (⊎_elim (λ l. none_or_some (gap e i l) f) (λ l. l))
          (trichotomy e a)

      higher : {c : ℕ} {o : Option ℕ} → Holder S u c o → from < c → child_from (snoc S (snoc u a)) u c ≡ child_from S u c
      higher own i = absurd (omega arith)
      higher (child e q f) i =
          let l = beyond e q f (omega arith) in
          child_from_above S u a (suc e) (omega arith)

      go : Dec (b < from) → child_from (snoc S (snoc u a)) u b ≡ child_from S u b
      go (yes l) = lower h low l
      go (no l) = higher k (omega arith)

  pub first_kept : (v : Word) → (u ≡ v → from ≢ 0) → first_child (snoc S (snoc u a)) v ≡ first_child S v
  first_kept v d = go (compare u v)
    where
      go : Alike u v → first_child (snoc S (snoc u a)) v ≡ first_child S v
      go (alike e) = rw (← e) (pointer_kept own (λ z. d e (sym z)))
      go (apart n) = child_from_elsewhere S u a v 0 n

  pub next_kept : (v : Word) (s : ℕ) → find S v ≡ some s → ((b : ℕ) → snoc u b ≡ v → from ≢ suc b)
      → next_sibling (snoc S (snoc u a)) v ≡ next_sibling S v
  next_kept v s f d = go v (snoc_view v) f d
    where
      R : Words
      R = snoc S (snoc u a)

      by : (w : Word) (e : ℕ) → find S (snoc w e) ≡ some s → ((b : ℕ) → snoc u b ≡ snoc w e → from ≢ suc b) → Alike u w
          → child_from R w (suc e) ≡ child_from S w (suc e)
      by w e f d (alike q) = rw (← q) (pointer_kept (child e s (rw (← q) at f)) (λ z. d e (rw q) (sym z)))
      by w e f d (apart n) = child_from_elsewhere S u a w (suc e) n

      go : (v : Word) → Snoc v → find S v ≡ some s → ((b : ℕ) → snoc u b ≡ v → from ≢ suc b)
          → next_sibling R v ≡ next_sibling S v
      go v nothing f d = refl
      go v (last w e) f d = sibling_snoc R w e ∙ by w e f d (compare u w) ∙ sym (sibling_snoc S w e)
