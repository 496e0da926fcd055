-- A column written over lent numbers, entry after entry.
use mathlib.Core.Path.{◌≡◌, sym, ap, ◌∙◌}
use mathlib.Core.List.{List, [], ◌∷◌, ◌++◌}
use Prim.Native.Nat.{ℕ, suc, ◌≤◌, ◌<◌}
use native.Mathlib.Omega.{arith}
use lib.ListN.{length, get_or, take, drop, set, length-append, length-drop}
use lib.Seq.{take_at, drop-cons, drop-set-lt, set-append_seam, append_snoc}
use Rattle.meaning.specs.Words.{snoc}
use Rattle.meaning.specs.Table.{over}
use Rattle.meaning.specs.Readings.{up_to}
use Rattle.meaning.proofs.Columns.{up_to-length}

-- the first n entries of the column g are written over the numbers b
pub record Written (g : ℕ → ℕ) (n : ℕ) (b a : List ℕ) : Type 0 where
  pub is : a ≡ over (up_to g n) b

pub written_first : (g : ℕ → ℕ) (l : List ℕ) {v : ℕ} → 0 < length l → v ≡ g 0 → Written g 1 (set l 0 v) (set l 0 v)
written_first g [] h e = absurd (omega arith)
written_first g (x ∷ l) h e = record { is = ap (λ (y : ℕ). y ∷ l) e }

module _ {g : ℕ → ℕ} {n : ℕ} {b a : List ℕ} (w : Written g n b a) where
  pub written-length : n ≤ length b → length a ≡ length b
  written-length h = omega (
    arith,
    ap length w.is,
    up_to-length g n,
    length-append (up_to g n) (drop (length (up_to g n)) b),
    length-drop (length (up_to g n)) b,
  )

  pub written_column : take n a ≡ up_to g n
  written_column = ap (take n) w.is ∙ take_at (up_to g n) (drop (length (up_to g n)) b) n (up_to-length g n)

  -- one entry more
  pub written_on : n < length b → {v : ℕ} → v ≡ g n → Written g (suc n) b (set a n v)
  written_on h {v} e = record { is = more }
    where
      more : set a n v ≡ over (up_to g (suc n)) b
      more =
          ap (λ (l : List ℕ). set l n v) w.is
          ∙ ap (λ (k : ℕ). set (up_to g n ++ drop k b) n v) (up_to-length g n)
          ∙ ap (λ (l : List ℕ). set (up_to g n ++ l) n v) (drop-cons b n 0 h)
          ∙ ap (λ (k : ℕ). set (up_to g n ++ get_or b n 0 ∷ drop (suc n) b) k v) (sym (up_to-length g n))
          ∙ set-append_seam (up_to g n) (get_or b n 0) (drop (suc n) b) v
          ∙ sym (append_snoc (up_to g n) v (drop (suc n) b))
          ∙ ap (λ (x : ℕ). snoc (up_to g n) x ++ drop (suc n) b) e
          ∙ ap (λ (k : ℕ). up_to g (suc n) ++ drop k b) (sym (up_to-length g (suc n)))

-- the numbers written over do not show what was written first
pub written_over : {g : ℕ → ℕ} {n : ℕ} (l : List ℕ) (v : ℕ) {a : List ℕ} → Written g (suc n) (set l 0 v) a → a ≡ over (up_to g (suc n)) l
written_over {g} {n} l v w =
    w.is
    ∙ ap (λ (r : List ℕ). up_to g (suc n) ++ r)
    (drop-set-lt (length (up_to g (suc n))) l 0 v (omega (arith, up_to-length g (suc n))))
