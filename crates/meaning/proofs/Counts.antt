-- Counts: the column's recurrence, as a loop computes it, and what the greatest count says.
use mathlib.Core.Path.{◌≡◌, refl, sym, ap, ap₂, ◌∙◌}
use mathlib.Core.Bool.{true, false, true≢false}
use mathlib.Core.List.{List, [], ◌∷◌, map}
use mathlib.Core.Logic.{◌↔◌, ◌≢◌}
use Prim.Native.Nat.{ℕ, zero, suc, ◌+◌, ◌-◌, ◌≤◌, ◌<◌}
use native.Mathlib.Omega.{arith}
use lib.ListN.{length, take, length-append, length-map}
use lib.Seq.{length-take-le, take-take}
use Rattle.meaning.specs.Numbers.{most_counted}
use Rattle.meaning.specs.Words.{Word, Words, Reading, snoc, size}
use Rattle.meaning.specs.Automaton.{chain}
use Rattle.meaning.specs.Readings.{ending_with, readings_in, readings_to, readings, is_nonempty, readable, capped, count_at}
use Rattle.meaning.proofs.Readings.{ending_with_cong, readings_to_suc}

-- the readings at a position are those of the letters before it, whatever comes after
readings_in-take : (X : Words) (t : Word) (k f i : ℕ) → i ≤ k → readings_in X t f i ≡ readings_in X (take k t) f i
readings_in-take X t k zero zero h = refl
readings_in-take X t k zero (suc j) h = refl
readings_in-take X t k (suc f) zero h = refl
readings_in-take X t k (suc f) (suc j) h =
    ending_with_cong X (readings_in X t f) (readings_in X (take k t) f) (suc j) (chain X (take (suc j) t))
    (λ n m. readings_in-take X t k f (suc j - size X n) (omega arith))
    ∙ ap (λ (u : Word). ending_with X (readings_in X (take k t) f) (suc j) (chain X u)) (sym (take-take (suc j) k t h))

pub readings_of_prefix : (X : Words) (t : Word) (i : ℕ) → i ≤ length t → readings_to X t i ≡ readings X (take i t)
readings_of_prefix X t i h =
    readings_in-take X t i i i (omega arith) ∙ ap (readings_to X (take i t)) (sym (length-take-le i t h))

-- f summed over ns
abbrev pub sum_over : (ℕ → ℕ) → List ℕ → ℕ
sum_over f [] = 0
sum_over f (n ∷ ns) = f n + sum_over f ns

-- the same as a loop with a saturating addition makes it, from acc on
abbrev pub capped_sum : (ℕ → ℕ) → ℕ → List ℕ → ℕ
capped_sum f acc [] = acc
capped_sum f acc (n ∷ ns) = capped_sum f (capped (acc + f n)) ns

pub length-ending_with : (X : Words) (b : ℕ → List Reading) (i : ℕ) (c : List ℕ)
    → length (ending_with X b i c) ≡ sum_over (λ n. length (b (i - size X n))) c
length-ending_with X b i [] = refl
length-ending_with X b i (n ∷ c) =
    length-append (map (λ ws. snoc ws n) (b (i - size X n))) (ending_with X b i c)
    ∙ ap₂ ◌+◌ (length-map (b (i - size X n)) (λ ws. snoc ws n)) (length-ending_with X b i c)

capped_add : (a b : ℕ) → capped (a + b) ≡ capped (capped a + capped b)
capped_add a b = omega arith

-- capping each term and each sum is capping the whole
pub capped_sum_lem : (f : ℕ → ℕ) (a : ℕ) (ns : List ℕ) → capped_sum (λ n. capped (f n)) (capped a) ns ≡ capped (a + sum_over f ns)
capped_sum_lem f a [] = ap capped (omega arith)
capped_sum_lem f a (n ∷ ns) =
    ap (λ x. capped_sum (λ m. capped (f m)) x ns) (sym (capped_add a (f n)))
    ∙ capped_sum_lem f (a + f n) ns
    ∙ ap capped (omega arith)

-- the count column: 1 at position 0, and at j + 1 the counts before the words of the chain, added up with saturation
pub count_zero : (X : Words) (t : Word) → count_at X t 0 ≡ 1
count_zero X t = refl

pub count_suc : (X : Words) (t : Word) (j : ℕ)
    → count_at X t (suc j) ≡ capped_sum (λ n. count_at X t (suc j - size X n)) 0 (chain X (take (suc j) t))
count_suc X t j =
    ap (λ (l : List Reading). capped (length l)) (readings_to_suc X t j)
    ∙ ap capped (length-ending_with X (readings_to X t) (suc j) (chain X (take (suc j) t)))
    ∙ ap capped (omega arith)
    ∙ sym (capped_sum_lem (λ n. length (readings_to X t (suc j - size X n))) 0 (chain X (take (suc j) t)))

-- the greatest count stands for itself and all above, every other for itself
pub count_greatest : (X : Words) (t : Word) (i : ℕ) → (count_at X t i ≡ most_counted) ↔ (most_counted ≤ length (readings_to X t i))
count_greatest X t i = (λ e. omega arith, λ h. omega arith)

pub count_exact : (X : Words) (t : Word) (i : ℕ) → count_at X t i ≢ most_counted → count_at X t i ≡ length (readings_to X t i)
count_exact X t i d = omega arith

pub count_fits : (X : Words) (t : Word) (i : ℕ) → count_at X t i ≤ most_counted
count_fits X t i = omega arith

-- a position has a reading exactly when its count is not 0
pub count_readable : (X : Words) (t : Word) (i : ℕ) → (readable X t i ≡ true) ↔ (0 < count_at X t i)
count_readable X t i = go (readings_to X t i)
  where
    go : (l : List Reading) → (is_nonempty l ≡ true) ↔ (0 < capped (length l))
    go [] = (λ e. absurd (true≢false (sym e)), λ h. absurd (omega arith))
    go (x ∷ l) = (λ e. omega arith, λ h. refl)

pub count_unreadable : (X : Words) (t : Word) (i : ℕ) → (readable X t i ≡ false) ↔ (count_at X t i ≡ 0)
count_unreadable X t i = go (readings_to X t i)
  where
    go : (l : List Reading) → (is_nonempty l ≡ false) ↔ (capped (length l) ≡ 0)
    go [] = (λ e. refl, λ h. refl)
    go (x ∷ l) = (λ e. absurd (true≢false e), λ h. absurd (omega arith))
