-- The turns of the loop that compares lent columns with those of the text.
use mathlib.Core.Path.{◌≡◌, refl, sym, ap, ◌∙◌}
use mathlib.Core.Bool.{Bool, true, false, true≢false}
use mathlib.Core.Logic.{◌↔◌}
use mathlib.Core.List.{List}
use Prim.Native.Nat.{ℕ, suc, ◌+◌, ◌≤◌, ◌<◌}
use native.Mathlib.Numerals.{add-one}
use native.Mathlib.Omega.{arith}
use lib.ListN.{length, get_or, take}
use lib.Seq.{take-suc}
use borrow.Author.Tests.{eqb-true, eq-eqb}
use Rattle.std.specs.Prelude.{if◌then◌else◌}
use Rattle.meaning.specs.Words.{Word, Words, snoc, same}
use Rattle.meaning.specs.Automaton.{states}
use Rattle.meaning.specs.Readings.{state_at, count_at, up_to, state_column, count_column}
use Rattle.meaning.proofs.Find.{Tested, pass, fail, test, same_refl, same_true}
use Rattle.meaning.proofs.Columns.{column_at}
use Rattle.tree.specs.declared.index.ChildIndex.{ChildIndex}
use Rattle.tree.specs.Index.{Indexed}
use Rattle.columns.specs.Columns.{Columns}
use Rattle.columns.specs.Entries.{Reached, IsEntry}
use Rattle.columns.specs.Scans.{Room, holds_at, are_columns}
use Rattle.columns.proofs.Filling.{state_zero}

-- both of two tests
both_true : {a b : Bool} → (if a then b else false) ≡ true → (a ≡ true) × (b ≡ true)
both_true {a = true} e = (refl, e)
both_true {a = false} e = let z : ◌≡◌ {A = ℕ} 0 1 = cc in absurd (omega arith)

true_both : {a b : Bool} → a ≡ true → b ≡ true → (if a then b else false) ≡ true
true_both e f = rw (e, f)

-- the test is true exactly where the lists begin with the columns
module _ (X : Words) (t : Word) (ss cs : List ℕ) where
  pub are_columns_is : (are_columns X t ss cs ≡ true) ↔ Columns X t ss cs
  are_columns_is = (
    λ e. let (a, b) = both_true e in
        record {
          states = same_true (take (suc (length t)) ss) (state_column X t) a;
          counts = same_true (take (suc (length t)) cs) (count_column X t) b;
        },
    λ κ. true_both
        (ap (λ (l : List ℕ). same l (state_column X t)) κ.states ∙ same_refl (state_column X t))
        (ap (λ (l : List ℕ). same l (count_column X t)) κ.counts ∙ same_refl (count_column X t)),
  )

  pub columns_true : Columns X t ss cs → true ≡ are_columns X t ss cs
  columns_true κ = sym (are_columns_is.1 κ)

  pub columns_false : (Columns X t ss cs → ⊥) → false ≡ are_columns X t ss cs
  columns_false d = go (test (are_columns X t ss cs))
    where
      go : Tested (are_columns X t ss cs) → false ≡ are_columns X t ss cs
      go (pass e) = absurd (d (are_columns_is.0 e))
      go (fail e) = sym e

-- what a position holds, by the test
holds : (ss cs : List ℕ) (i s c : ℕ) → holds_at ss cs i s c ≡ true → (get_or ss i 0 ≡ s) × (get_or cs i 0 ≡ c)
holds ss cs i s c e = let (p, q) = both_true e in (eqb-true (get_or ss i 0) s p, eqb-true (get_or cs i 0) c q)

-- columns hold the entry of each position
columns_hold : {X : Words} {t : Word} {ss cs : List ℕ} → Columns X t ss cs → (i s c : ℕ) → i ≤ length t
    → s ≡ state_at X t i → c ≡ count_at X t i → holds_at ss cs i s c ≡ true
columns_hold {X} {t} {ss} {cs} κ i s c l a b =
    true_both
    (eq-eqb (get_or ss i 0) s (column_at (state_at X t) (suc (length t)) ss κ.states i (omega arith) ∙ sym a))
    (eq-eqb (get_or cs i 0) c (column_at (count_at X t) (suc (length t)) cs κ.counts i (omega arith) ∙ sym b))

-- the entries up to position i are right, and s is the state there
pub record Agree (X : Words) (t : Word) (ss cs : List ℕ) (s i : ℕ) : Type 0 where
  pub low : i ≤ length t
  pub states : take (suc i) ss ≡ up_to (state_at X t) (suc i)
  pub counts : take (suc i) cs ≡ up_to (count_at X t) (suc i)
  pub state : s ≡ state_at X t i

column_more : (g : ℕ → ℕ) (n : ℕ) (l : List ℕ) → n < length l → take n l ≡ up_to g n → get_or l n 0 ≡ g n
    → take (suc n) l ≡ up_to g (suc n)
column_more g n l h e q = take-suc l n 0 h ∙ ap (λ (x : List ℕ). snoc x (get_or l n 0)) e ∙ ap (snoc (up_to g n)) q

module _ {X : Words} {t : Word} {tb ss cs : List ℕ} (ρ : Room X t tb ss cs) where
  -- the first entries: the test b told whether they are right
  module _ {b : Bool} (e : b ≡ holds_at ss cs 0 0 1) where
    pub first_differs : b ≡ false → false ≡ are_columns X t ss cs
    first_differs f =
        columns_false X t ss cs (λ κ. true≢false (sym (columns_hold κ 0 0 1 (omega arith) (sym (state_zero X t)) refl) ∙ sym e ∙ f))

    pub agree_first : b ≡ true → Agree X t ss cs 0 0
    agree_first f =
        let h = holds ss cs 0 0 1 (sym e ∙ f) in
        record {
          low = omega arith;
          states = column_more (state_at X t) 0 ss (omega (arith, ρ.states)) refl (h.0 ∙ sym (state_zero X t));
          counts = column_more (count_at X t) 0 cs (omega (arith, ρ.counts)) refl h.1;
          state = sym (state_zero X t);
        }

  module _ {s i : ℕ} (φ : Agree X t ss cs s i) where
    pub agree_reached : {index : ChildIndex} → Indexed (states X) index → i < length t → Reached X t tb index cs s i
    agree_reached h l = record { table = ρ.table; indexed = h; place = l; state = φ.state; counts = φ.counts }

    -- the next ones
    module _ (l : i < length t) {v c k : ℕ} (ε : IsEntry X t (suc i) v c k) {b : Bool} (e : b ≡ holds_at ss cs (i + 1) v c) where
      next : b ≡ holds_at ss cs (suc i) v c
      next = rw (add-one i) at e

      pub next_differs : b ≡ false → false ≡ are_columns X t ss cs
      next_differs f =
          columns_false X t ss cs (λ κ. true≢false (sym (columns_hold κ (suc i) v c l ε.state ε.count) ∙ sym next ∙ f))

      pub agree_on : b ≡ true → Agree X t ss cs v (i + 1)
      agree_on f =
          let h = holds ss cs (suc i) v c (sym next ∙ f) in
          rw (add-one i) (record {
            low = l;
            states = column_more (state_at X t) (suc i) ss (omega (arith, ρ.states)) φ.states (h.0 ∙ ε.state);
            counts = column_more (count_at X t) (suc i) cs (omega (arith, ρ.counts)) φ.counts (h.1 ∙ ε.count);
            state = ε.state;
          })

    pub agree_all : length t ≤ i → Columns X t ss cs
    agree_all h =
        let e : length t ≡ i = omega (arith, φ.low) in
        record { states = rw e φ.states; counts = rw e φ.counts }
