-- What an accepted dictionary is: its words are allowed, and where each stands.
use mathlib.Core.Path.{◌≡◌, refl, ap, sym, ◌∙◌, subst}
use mathlib.Core.Bool.{Bool, false}
use mathlib.Core.List.{List, [], ◌∷◌}
use Prim.Native.Nat.{ℕ, zero, suc, ◌+◌, ◌*◌, ◌-◌, ◌≤◌, ◌<◌}
use native.Mathlib.Omega.{arith}
use lib.ListN.{length, get_or, drop}
use lib.Seq.{take-length, get_or-take, get_or-drop}
use Rattle.meaning.specs.Numbers.{letter_values}
use Rattle.meaning.specs.Plain.{Storable, Allowed, LettersBelow}
use Rattle.meaning.specs.Words.{Word as Letters, Words, word, total}
use Rattle.meaning.proofs.Find.{once_distinct}
use Rattle.letters.specs.Letters.{letter, part, mapped}
use Rattle.letters.specs.Record.{word_len, word_at}
use Rattle.letters.proofs.Bytes.{part_length, mapped_at, mapped_below}
use Rattle.letters.proofs.Records.{FitsWord, word_fits, word_size}
use Rattle.records.specs.Run.{ran, run, dictionary, past_words}
use Rattle.records.specs.Stored.{Stands, stop, step, place, Holds}
use Rattle.records.proofs.Run.{stands_end, holds, Good, Ended, Ends, run_ended}
use Rattle.records.proofs.Walking.{past_next}

ended : (in_book : Bool) (m b : List ℕ) {X : Words} {at : ℕ} → run in_book (mapped m) b ≡ ran X at → Ended m b in_book X at
ended in_book m b e = subst (Ends m b in_book) e (run_ended m b in_book)

pub accepted : (in_book : Bool) (m b : List ℕ) {X : Words} {at : ℕ} → run in_book (mapped m) b ≡ ran X at → Good m b X at
accepted in_book m b e = (ended in_book m b e).good

-- a dictionary by itself is its records and nothing else
pub whole : (m b : List ℕ) {X : Words} {at : ℕ} → dictionary m b ≡ ran X at → at ≡ length b
whole m b e = (ended false m b e).whole refl

-- word k's record stands at its place
stands_at : {m b : List ℕ} {e p : ℕ} {X : Words} → Stands m b e p X → (k : ℕ) → k < length X → Holds m b (p + place X k) (word X k)
stands_at stop k h = absurd (omega arith)
stands_at {m} {b} {p = p} (step {n = n} {X} q s) zero h =
    let i : p ≡ p + (3 * 0 + 0) = omega arith in
    subst (λ (j : ℕ). Holds m b j (word_at (mapped m) b p n)) i (holds m b p n q)
stands_at {m} {b} {p = p} (step {n = n} {X} q s) (suc k) h =
    let l = word_size m b p n q in
    let i : p + 3 + n + place X k ≡ p + place (word_at (mapped m) b p n ∷ X) (suc k) = omega arith in
    subst (λ (j : ℕ). Holds m b j (word X k)) i (stands_at s k (omega arith))

pub word_stands : {m b : List ℕ} {X : Words} {at : ℕ} → Good m b X at → (k : ℕ) → k < length X → Holds m b (place X k) (word X k)
word_stands {m} {b} {X} g k h =
    let i : 0 + place X k ≡ place X k = omega arith in
    subst (λ (j : ℕ). Holds m b j (word X k)) i (stands_at g.stands k h)

-- its letters are those of the bytes there
pub letter_stands : {m b : List ℕ} {at : ℕ} {w : Letters} → Holds m b at w → (i : ℕ) → i < length w
    → get_or w i 0 ≡ letter m (get_or b (at + 3 + i) 0)
letter_stands {m} {b} {at} {w} h i l =
    let n = length w in
    let u = part b (at + 3) n in
    let k : i < length u = omega (arith, part_length b (at + 3) n h.within) in
    ap (λ (v : Letters). get_or v i 0) h.letters ∙ mapped_at m u i k
    ∙ ap (letter m) (get_or-take n (drop (at + 3) b) i 0 l ∙ get_or-drop (at + 3) b i 0)

-- `word_place` gives it; the place past the last word is where the words end
past_place : {m b : List ℕ} {e p : ℕ} {X : Words} → Stands m b e p X → (k : ℕ) → k ≤ length X → past_words b k p ≡ p + place X k
past_place s zero h = omega arith
past_place stop (suc k) h = absurd (omega arith)
past_place {m} {b} {e} {p} (step {n = n} {X} q s) (suc k) h =
    let f : FitsWord b p n = word_fits q in
    let l = word_size m b p n q in
    let i : suc k - 1 ≡ k = omega arith in
    past_next b (suc k) p n (omega arith) (sym (ap word_len q)) (λ z. absurd (omega (arith, f.nonempty)))
    ∙ ap (λ (j : ℕ). past_words b j (p + 3 + n)) i ∙ past_place {p = p + 3 + n} s k (omega arith) ∙ omega arith

pub past_words_lem : {m b : List ℕ} {X : Words} {at : ℕ} → Good m b X at → (k : ℕ) → k ≤ length X → past_words b k 0 ≡ place X k
past_words_lem g k h = past_place g.stands k h ∙ omega arith

pub place_next : (X : Words) (k : ℕ) → k < length X → place X (suc k) ≡ place X k + 3 + length (word X k)
place_next [] k h = absurd (omega arith)
place_next (w ∷ X) zero h = omega arith
place_next (w ∷ X) (suc k) h = omega (arith, place_next X k (omega arith))

pub place_end : {m b : List ℕ} {X : Words} {at : ℕ} → Good m b X at → place X (length X) ≡ at
place_end {X = X} g = ap (λ (Y : Words). 3 * length X + total Y) (take-length X) ∙ omega (arith, stands_end g.stands)

-- the words are a dictionary's, and allowed where the map's numbers are bytes
pub storable : {m b : List ℕ} {X : Words} {at : ℕ} → Good m b X at → Storable X
storable {X = X} g = record {
  dictionary = record { nonempty = λ n l. (word_stands g n l).nonempty; distinct = once_distinct X g.found };
  short = λ n l. (word_stands g n l).short;
  few = g.few;
  small = g.small;
}

pub allowed : {m b : List ℕ} {X : Words} {at : ℕ} → ((x : ℕ) → letter m x < letter_values) → Good m b X at → Allowed X
allowed {m} {b} {X} h g =
    record { storable = storable g; letters = letters }
  where
    letters : (n : ℕ) → n < length X → LettersBelow letter_values (word X n)
    letters n l =
        let w = word_stands g n l in
        rw w.letters (mapped_below m h (part b (place X n + 3) (length (word X n))))
