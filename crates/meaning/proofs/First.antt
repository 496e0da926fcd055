-- The first reading, word by word, is the head of the list.
use mathlib.Core.Path.{◌≡◌, refl, sym, ap, ◌∙◌, subst}
use mathlib.Core.Bool.{Bool, true, false, false≢true}
use mathlib.Core.Option.{Option, none, some, none-ne-some}
use mathlib.Core.List.Memᴰ
use mathlib.Core.List.{List, [], ◌∷◌, ◌++◌, map, head?, Memᴰ}
use Prim.Native.Nat.{ℕ, zero, suc, ◌-◌, ◌≤◌, ◌<◌}
use native.Mathlib.Nat.{not-suc-le-zero}
use native.Mathlib.Omega.{arith}
use lib.ListN.{length, take}
use Rattle.std.specs.Prelude.{if◌then◌else◌}
use Rattle.meaning.specs.Words.{Word, Words, Reading, snoc, size}
use Rattle.meaning.specs.Automaton.{chain}
use Rattle.meaning.specs.Readings.{ending_with, readings_to, readings, is_nonempty, readable, accepted}
use Rattle.meaning.specs.Listing.{pick, with_word, first_in, first_reading, first_with}
use Rattle.meaning.proofs.Lists.{strong_induction, snoc-length}
use Rattle.meaning.proofs.Chains.{chain_fits}
use Rattle.meaning.proofs.Readings.{readings_to_suc}

-- the two cases of `pick`
pub pick_here : (X : Words) (t : Word) (i n : ℕ) (c : List ℕ) → readable X t (i - size X n) ≡ true → pick X t i (n ∷ c) ≡ some n
pick_here X t i n c e = ap (λ b. if b then some n else pick X t i c) e

pub pick_past : (X : Words) (t : Word) (i n : ℕ) (c : List ℕ) → readable X t (i - size X n) ≡ false
    → pick X t i (n ∷ c) ≡ pick X t i c
pick_past X t i n c e = ap (λ b. if b then some n else pick X t i c) e

-- what an answer of `pick X t i c` says
abbrev pub Picks : Words → Word → ℕ → List ℕ → Option ℕ → Type 0
Picks X t i c none = (n : ℕ) → Memᴰ n c → readable X t (i - size X n) ≡ false
Picks X t i c (some n) = Memᴰ n c × (readable X t (i - size X n) ≡ true)

pub pick_picks : (X : Words) (t : Word) (i : ℕ) (c : List ℕ) → Picks X t i c (pick X t i c)
pick_picks X t i [] = λ n m. absurd (Memᴰ.not-nil m)
pick_picks X t i (n ∷ c) = go (readable X t (i - size X n)) refl (pick X t i c) (pick_picks X t i c)
  where
    missing : readable X t (i - size X n) ≡ false → Picks X t i c none → Picks X t i (n ∷ c) none
    missing e f m (Memᴰ.head p) = rw p e
    missing e f m (Memᴰ.tail k) = f m k

    go : (b : Bool) → readable X t (i - size X n) ≡ b → (o : Option ℕ) → Picks X t i c o → Picks X t i (n ∷ c) (if b then some n else o)
    go true e o p = (Memᴰ.head refl, e)
    go false e none p = missing e p
    go false e (some m) p = (Memᴰ.tail p.0, p.1)

-- the word picked at a position, and all that is known of it
abbrev last_picks : Words → Word → ℕ → Option ℕ → Type 0
last_picks X t i o = Picks X t i (chain X (take i t)) o

first_in_fuel : (X : Words) (t : Word) (f g i : ℕ) → i ≤ f → i ≤ g → first_in X t f i ≡ first_in X t g i
first_in_fuel X t zero zero i h k = refl
first_in_fuel X t zero (suc g) zero h k = refl
first_in_fuel X t zero (suc g) (suc j) h k = absurd (not-suc-le-zero h)
first_in_fuel X t (suc f) zero zero h k = refl
first_in_fuel X t (suc f) zero (suc j) h k = absurd (not-suc-le-zero k)
first_in_fuel X t (suc f) (suc g) zero h k = refl
first_in_fuel X t (suc f) (suc g) (suc j) h k =
    go (pick X t (suc j) (chain X (take (suc j) t))) (pick_picks X t (suc j) (chain X (take (suc j) t))) (λ i. first_in_fuel X t f g i)
  where
    go : (o : Option ℕ) → last_picks X t (suc j) o → ((i : ℕ) → i ≤ f → i ≤ g → first_in X t f i ≡ first_in X t g i)
        → with_word (λ n. first_in X t f (suc j - size X n)) o ≡ with_word (λ n. first_in X t g (suc j - size X n)) o
    go none p e = refl
    go (some n) p e =
        let l = chain_fits X t (suc j) p.0 in
        ap (λ r. snoc r n) (e (suc j - size X n) (omega arith) (omega arith))

-- a first reading has at most as many words as letters
first_in_short : (X : Words) (t : Word) (f i : ℕ) → length (first_in X t f i) ≤ i
first_in_short X t zero i = omega arith
first_in_short X t (suc f) zero = omega arith
first_in_short X t (suc f) (suc j) =
    go (pick X t (suc j) (chain X (take (suc j) t))) (pick_picks X t (suc j) (chain X (take (suc j) t))) (first_in_short X t f)
  where
    go : (o : Option ℕ) → last_picks X t (suc j) o → ((i : ℕ) → length (first_in X t f i) ≤ i)
        → length (with_word (λ n. first_in X t f (suc j - size X n)) o) ≤ suc j
    go none p h = omega arith
    go (some n) p h =
        let l = chain_fits X t (suc j) p.0 in
        omega (arith, h (suc j - size X n), snoc-length (first_in X t f (suc j - size X n)) n)

pub first_short : (X : Words) (t : Word) (i : ℕ) → length (first_reading X t i) ≤ i
first_short X t i = first_in_short X t i i

-- the head of the list is the first reading, where there is one
abbrev pub HeadIsFirst : Words → Word → ℕ → Type 0
HeadIsFirst X t i = readable X t i ≡ true → head? (readings_to X t i) ≡ some (first_reading X t i)

head-ending_with_if : (X : Words) (t : Word) (i : ℕ) (c : List ℕ) → ((n : ℕ) → Memᴰ n c → HeadIsFirst X t (i - size X n))
    → head? (ending_with X (readings_to X t) i c) ≡ first_with X t i (pick X t i c)
head-ending_with_if X t i [] h = refl
head-ending_with_if X t i (n ∷ c) h =
    go (readings_to X t (i - size X n)) (h n (Memᴰ.head refl)) (head-ending_with_if X t i c (λ m k. h m (Memᴰ.tail k)))
  where
    go : (l : List Reading) → (is_nonempty l ≡ true → head? l ≡ some (first_reading X t (i - size X n)))
        → head? (ending_with X (readings_to X t) i c) ≡ first_with X t i (pick X t i c)
        → head? (map (λ ws. snoc ws n) l ++ ending_with X (readings_to X t) i c)
        ≡ first_with X t i (if is_nonempty l then some n else pick X t i c)
    go [] f e = e
    go (x ∷ l) f e = ap (λ o. elim o [ none ↦ none | some r ↦ some (snoc r n) ]) (f refl)

head_is_first : (X : Words) (t : Word) (i : ℕ) → HeadIsFirst X t i
head_is_first X t = strong_induction (HeadIsFirst X t) step
  where
    step : (i : ℕ) → ((j : ℕ) → j < i → HeadIsFirst X t j) → HeadIsFirst X t i
    step zero ih e = refl
    step (suc j) ih e =
        rw (readings_to_suc X t j)
        (go (pick X t (suc j) c) (pick_picks X t (suc j) c) (ending_with X (readings_to X t) (suc j) c)
        (head-ending_with_if X t (suc j) c (λ n m. let l = chain_fits X t (suc j) m in ih (suc j - size X n) (omega arith)))
        (rw (readings_to_suc X t j) at e))
      where
        c : List ℕ
        c = chain X (take (suc j) t)

        go : (o : Option ℕ) → Picks X t (suc j) c o → (l : List Reading) → head? l ≡ first_with X t (suc j) o → is_nonempty l ≡ true
            → head? l ≡ some (with_word (λ n. first_in X t j (suc j - size X n)) o)
        go none p [] q f = absurd (false≢true f)
        go none p (x ∷ l) q f = absurd (none-ne-some x (sym q))
        go (some n) p l q f =
            let k = chain_fits X t (suc j) p.0 in
            q ∙ ap (λ r. some (snoc r n)) (first_in_fuel X t (suc j - size X n) j (suc j - size X n) (omega arith) (omega arith))

pub first_is-head : (X : Words) (t : Word) → accepted X t ≡ true → head? (readings X t) ≡ some (first_reading X t (length t))
first_is-head X t = head_is_first X t (length t)

-- the first of the readings that end with one of the words c
pub head-ending_with : (X : Words) (t : Word) (i : ℕ) (c : List ℕ)
    → head? (ending_with X (readings_to X t) i c) ≡ first_with X t i (pick X t i c)
head-ending_with X t i c = head-ending_with_if X t i c (λ n m. head_is_first X t (i - size X n))

-- one step of the first reading: the word picked, and the first reading before it
pub record FirstStep (X : Words) (t : Word) (i n : ℕ) : Type 0 where
  pub in_chain : Memᴰ n (chain X (take i t))
  pub before : readable X t (i - size X n) ≡ true
  pub splits : first_reading X t i ≡ snoc (first_reading X t (i - size X n)) n

pub first_step : (X : Words) (t : Word) (j n : ℕ) → pick X t (suc j) (chain X (take (suc j) t)) ≡ some n → FirstStep X t (suc j) n
first_step X t j n e = record {
  in_chain = picked.0;
  before = picked.1;
  splits =
      ap (with_word (λ m. first_in X t j (suc j - size X m))) e
      ∙ ap (λ r. snoc r n)
      (first_in_fuel X t j (suc j - size X n) (suc j - size X n) (omega (arith, chain_fits X t (suc j) picked.0)) (omega arith));
}
  where
    picked : last_picks X t (suc j) (some n)
    picked = subst (last_picks X t (suc j)) e (pick_picks X t (suc j) (chain X (take (suc j) t)))

-- where there is a reading, there is a word to pick
pub first_picks : (X : Words) (t : Word) (j : ℕ) → readable X t (suc j) ≡ true
    → (n : ℕ) × (pick X t (suc j) (chain X (take (suc j) t)) ≡ some n)
first_picks X t j e =
    go (pick X t (suc j) c) refl (sym (head_is_first X t (suc j) e) ∙ ap head? (readings_to_suc X t j) ∙ head-ending_with X t (suc j) c)
  where
    c : List ℕ
    c = chain X (take (suc j) t)

    go : (o : Option ℕ) → pick X t (suc j) c ≡ o → some (first_reading X t (suc j)) ≡ first_with X t (suc j) (pick X t (suc j) c)
        → (n : ℕ) × (pick X t (suc j) c ≡ some n)
    go none p q = absurd (none-ne-some (first_reading X t (suc j)) (sym (q ∙ ap (first_with X t (suc j)) p)))
    go (some n) p q = (n, p)
