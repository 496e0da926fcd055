-- Letters, and parts of the bytes.
use mathlib.Core.Path.{◌≡◌, refl, ap, ap₂, ◌∙◌}
use mathlib.Core.Bool.{true, false}
use mathlib.Core.List.{List, [], ◌∷◌}
use Prim.Native.Nat.{ℕ, zero, suc, ◌+◌, ◌-◌, ◌<◌, ◌≤◌}
use native.Mathlib.Numerals.{add-one}
use native.Mathlib.Decide.{dec_lt}
use native.Mathlib.Omega.{arith}
use lib.ListN.{length, get_or, length-map, length-take, length-drop, get_or-eq_default}
use borrow.Author.Tests.{eq-eqb, ne_eqb}
use Rattle.meaning.specs.Numbers.{letter_values}
use Rattle.meaning.specs.Words.{same}
use Rattle.meaning.specs.Plain.{LettersBelow}
use lib.Seq.{drop-cons}
use lib.Dec.{eqb}
use Rattle.letters.specs.Letters.{letter, mapped, count_from, identity, part}
use Rattle.letters.proofs.Cases.{picked}

pub part_length : (b : List ℕ) (p n : ℕ) → p + n ≤ length b → length (part b p n) ≡ n
part_length b p n h = simp (length-take, length-drop) (omega arith)

pub mapped-length : (m b : List ℕ) (p n : ℕ) → p + n ≤ length b → length (mapped m (part b p n)) ≡ n
mapped-length m b p n h = rw length-map (part_length b p n h)

-- a part is its first byte and the part after it
part_cons : (b : List ℕ) (p n : ℕ) → p < length b → 0 < n → part b p n ≡ get_or b p 0 ∷ part b (p + 1) (n - 1)
part_cons b p zero h k = absurd (omega arith)
part_cons b p (suc n) h k = let e : suc n - 1 ≡ n = omega arith in rw (e, add-one, drop-cons b p 0)

pub part_two : (b : List ℕ) (p : ℕ) → p + 2 ≤ length b → part b p 2 ≡ get_or b p 0 ∷ get_or b (p + 1) 0 ∷ []
part_two b p h =
    part_cons b p 2 (omega arith) (omega arith) ∙ ap (get_or b p 0 ∷◌) (part_cons b (p + 1) 1 (omega arith) (omega arith))

-- words of one length are the same where each letter is, and not where one differs
pub each_same : (m u v : List ℕ) → length u ≡ length v → ((k : ℕ) → k < length u → letter m (get_or u k 0) ≡ letter m (get_or v k 0))
    → same (mapped m u) (mapped m v) ≡ true
each_same m [] [] e h = refl
each_same m [] (y ∷ v) e h = absurd (omega (arith, e))
each_same m (x ∷ u) [] e h = absurd (omega (arith, e))
each_same m (x ∷ u) (y ∷ v) e h = rw (eq-eqb _ _ (h 0 (omega arith))) (each_same m u v (omega (arith, e)) (λ k l. h (suc k) (omega arith)))

pub one_other : (m u v : List ℕ) (k : ℕ) → k < length u → k < length v → (letter m (get_or u k 0) ≡ letter m (get_or v k 0) → ⊥)
    → same (mapped m u) (mapped m v) ≡ false
one_other m [] v k h l other = absurd (omega arith)
one_other m (x ∷ u) [] k h l other = refl
one_other m (x ∷ u) (y ∷ v) zero h l other = rw (ne_eqb _ _ other) refl
one_other m (x ∷ u) (y ∷ v) (suc k) h l other =
    picked (λ t. t ≡ false) (eqb (letter m x) (letter m y)) (λ e. one_other m u v k (omega arith) (omega arith) other) (λ e. refl)

pub mapped_at : (m u : List ℕ) (i : ℕ) → i < length u → get_or (mapped m u) i 0 ≡ letter m (get_or u i 0)
mapped_at m [] i h = absurd (omega arith)
mapped_at m (x ∷ u) zero h = refl
mapped_at m (x ∷ u) (suc i) h = mapped_at m u i (omega arith)

-- letters are below 256 where the map's are
pub mapped_below : (m : List ℕ) → ((x : ℕ) → letter m x < letter_values) → (u : List ℕ) → LettersBelow letter_values (mapped m u)
mapped_below m h [] i l = absurd (omega arith)
mapped_below m h (x ∷ u) zero l = h x
mapped_below m h (x ∷ u) (suc i) l = mapped_below m h u i (omega arith)

-- the identity
count-length : (k n : ℕ) → length (count_from k n) ≡ n
count-length k zero = refl
count-length k (suc n) = ap suc (count-length (suc k) n)

count_at_lem : (k n i : ℕ) → i < n → get_or (count_from k n) i 0 ≡ k + i
count_at_lem k zero i h = absurd (omega arith)
count_at_lem k (suc n) zero h = omega arith
count_at_lem k (suc n) (suc i) h = count_at_lem (suc k) n i (omega arith) ∙ omega arith

pub identity-length : length identity ≡ letter_values
unfolding identity
identity-length = count-length 0 letter_values

pub identity_at : (x : ℕ) → x < letter_values → letter identity x ≡ x
unfolding identity
identity_at x h = count_at_lem 0 letter_values x h ∙ omega arith

pub identity_below : (x : ℕ) → letter identity x < letter_values
identity_below x =
    elim (dec_lt x letter_values) [
      | yes l ↦ rw (identity_at x l) l
      | no l ↦ let h : length identity ≤ x = omega (arith, identity-length) in rw (get_or-eq_default identity 0 h) (omega arith)
    ]

-- under the identity a word is its bytes
pub mapped_identity : (u : List ℕ) → LettersBelow letter_values u → mapped identity u ≡ u
mapped_identity [] h = refl
mapped_identity (x ∷ u) h = ap₂ ◌∷◌ (identity_at x (h 0 (omega arith))) (mapped_identity u (λ i l. h (suc i) (omega arith)))
