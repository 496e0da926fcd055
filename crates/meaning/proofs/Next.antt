-- The next reading, word by word, is the one that stands behind the given one in the list.
use mathlib.Core.Path.{◌≡◌, refl, sym, ap, ap₂, ◌∙◌}
use mathlib.Core.Logic.{⊎_elim, ◌↔◌}
use mathlib.Core.Option.{Option, none, some}
use mathlib.Core.List.Memᴰ
use mathlib.Core.List.{List, [], ◌∷◌, ◌++◌, map, head?, append-nil, append_assoc, nil≢cons, head-eq_of_cons-eq, tail-eq_of_cons-eq, Memᴰ}
use Prim.Native.Nat.{ℕ, zero, suc, ◌+◌, ◌-◌, ◌≤◌, ◌<◌}
use native.Mathlib.Omega.{arith}
use borrow.Author.Tests.{eq-eqb, ne_eqb}
use lib.ListN.{length, get_or, get_elem?, take, drop, length-append}
use lib.Seq.{split_at, length-take-le}
use Rattle.meaning.specs.Words.{Word, Words, Reading, snoc, word, size, joined}
use Rattle.meaning.specs.Automaton.{chain}
use Rattle.meaning.specs.Readings.{ending_with, readings_to, readings}
use Rattle.meaning.specs.Listing.{behind, changed, keeping, next_from, next_reading}
use Rattle.meaning.specs.Plain.{Dictionary, Ordered, Shorter, IsReading}
use Rattle.meaning.proofs.Lists.{strong_induction, index_of, none_at, split_append, split_map, head-drop}
use Rattle.meaning.proofs.Chains.{chain_fits, chain_falls}
use Rattle.meaning.proofs.Readings.{readings_to_suc, readings_to_sound, readings_are}
use Rattle.meaning.proofs.First.{head-ending_with}

-- the two cases of `behind`
pub behind_here : (n : ℕ) (c : List ℕ) → behind n (n ∷ c) ≡ c
behind_here n c = rw (eq-eqb n n refl)

pub behind_past : (n m : ℕ) (c : List ℕ) → (m ≡ n → ⊥) → behind n (m ∷ c) ≡ behind n c
behind_past n m c d = rw (ne_eqb m n d)

-- a reading ns with bs behind it in the list of those that end with one of the words c: by its last word
pub record Located (X : Words) (b : ℕ → List Reading) (i : ℕ) (c : List ℕ) (ns : Reading) (bs : List Reading) : Type 0 where
  pub n : ℕ
  pub front : Reading
  pub earlier : List Reading
  pub later : List Reading
  pub in_chain : Memᴰ n c
  pub ends : ns ≡ snoc front n
  pub stands : b (i - size X n) ≡ earlier ++ front ∷ later
  pub follows : bs ≡ map (λ ws. snoc ws n) later ++ ending_with X b i (behind n c)

pub locate : (X : Words) (b : ℕ → List Reading) (i : ℕ) (c : List ℕ) → Ordered (Shorter X) c
    → (ls : List Reading) (ns : Reading) (bs : List Reading) → ending_with X b i c ≡ ls ++ ns ∷ bs → Located X b i c ns bs
locate X b i [] o [] ns bs e = absurd (nil≢cons e)
locate X b i [] o (a ∷ ls) ns bs e = absurd (nil≢cons e)
locate X b i (n ∷ c) o ls ns bs e =
    ⊎_elim here (λ h. there (locate X b i c o.1 h.0 ns bs h.1)) (split_append block (ending_with X b i c) ls ns bs e)
  where
    block : List Reading
    block = map (λ ws. snoc ws n) (b (i - size X n))

    here : ((cs : List Reading) × (block ≡ ls ++ ns ∷ cs) × (bs ≡ cs ++ ending_with X b i c)) → Located X b i (n ∷ c) ns bs
    here h =
        let (ds, y, cs, p, q, r, w) = split_map (λ ws. snoc ws n) (b (i - size X n)) ls ns h.0 h.1 in
        record {
          n = n;
          front = y;
          earlier = ds;
          later = cs;
          in_chain = Memᴰ.head refl;
          ends = q;
          stands = p;
          follows = h.2 ∙ ap₂ (λ l k. l ++ ending_with X b i k) r (sym (behind_here n c));
        }

    there : Located X b i c ns bs → Located X b i (n ∷ c) ns bs
    there l = record {
      n = l.n;
      front = l.front;
      earlier = l.earlier;
      later = l.later;
      in_chain = Memᴰ.tail l.in_chain;
      ends = l.ends;
      stands = l.stands;
      follows = l.follows ∙ ap (λ k. map (λ ws. snoc ws l.n) l.later ++ ending_with X b i k) (sym (behind_past l.n n c differs));
    }
      where
        differs : n ≡ l.n → ⊥
        differs e = omega (arith, ap (size X) e, o.0 l.n l.in_chain)

-- the words of a reading of the first i letters are i letters long
located_length : (X : Words) (t : Word) (i : ℕ) → i ≤ length t → (ls : List Reading) (ns : Reading) (bs : List Reading)
    → readings_to X t i ≡ ls ++ ns ∷ bs → length (joined X ns) ≡ i
located_length X t i h ls ns bs e =
    ap length (readings_to_sound X t i h ns (rw e (Memᴰ.append_right ls (Memᴰ.head refl)))).joins ∙ length-take-le i t h

-- the last word n kept where the words before it have a next reading, and else changed
abbrev pub keep_last : Option Reading → ℕ → Option Reading → Option Reading
keep_last none n other = other
keep_last (some ws) n other = some (snoc ws n)

-- the next reading by its last word, which ends at q
pub next_snoc : (X : Words) (t : Word) (p : ℕ) (ns : Reading) (n q : ℕ) → p + length (joined X (snoc ns n)) ≡ q
    → next_from X t p (snoc ns n) ≡ keep_last (next_from X t p ns) n (changed X t q n)
next_snoc X t p [] n q e = go (changed X t (p + size X n) n) ∙ ap (λ i. changed X t i n) at_end_lem
  where
    at_end_lem : p + size X n ≡ q
    at_end_lem = omega (arith, length-append (word X n) [])

    go : (o : Option Reading) → keeping o [] none ≡ o
    go none = refl
    go (some r) = ap some (append-nil r)
next_snoc X t p (k ∷ ns) n q e =
    go (changed X t (p + size X k) k)
    (next_snoc X t (p + size X k) ns n q (omega (arith, length-append (word X k) (joined X (snoc ns n)))))
  where
    go : (o : Option Reading) → next_from X t (p + size X k) (snoc ns n) ≡ keep_last (next_from X t (p + size X k) ns) n (changed X t q n)
        → keeping o (snoc ns n) (next_from X t (p + size X k) (snoc ns n))
        ≡ keep_last (keeping o ns (next_from X t (p + size X k) ns)) n (changed X t q n)
    go none f = f
    go (some r) f = ap some (sym (append_assoc r ns (n ∷ [])))

abbrev NextIsBehind : Words → Word → ℕ → Type 0
NextIsBehind X t i = i ≤ length t → (ls : List Reading) (ns : Reading) (bs : List Reading)
    → readings_to X t i ≡ ls ++ ns ∷ bs → next_reading X t ns ≡ head? bs

next_is_behind : (X : Words) (t : Word) (i : ℕ) → NextIsBehind X t i
next_is_behind X t = strong_induction (NextIsBehind X t) step
  where
    step : (i : ℕ) → ((j : ℕ) → j < i → NextIsBehind X t j) → NextIsBehind X t i
    step zero ih h [] ns bs e = sym (ap (next_reading X t) (head-eq_of_cons-eq e)) ∙ ap head? (tail-eq_of_cons-eq e)
    step zero ih h (a ∷ []) ns bs e = absurd (nil≢cons (tail-eq_of_cons-eq e))
    step zero ih h (a ∷ b ∷ ls) ns bs e = absurd (nil≢cons (tail-eq_of_cons-eq e))
    step (suc j) ih h ls ns bs e =
        follow (locate X (readings_to X t) (suc j) c (chain_falls X (take (suc j) t)) ls ns bs (sym (readings_to_suc X t j) ∙ e))
      where
        c : List ℕ
        c = chain X (take (suc j) t)

        follow : Located X (readings_to X t) (suc j) c ns bs → next_reading X t ns ≡ head? bs
        follow l =
            ap (next_reading X t) l.ends
            ∙ next_snoc X t 0 l.front l.n (suc j)
            (omega (arith, ap (λ r. length (joined X r)) l.ends, located_length X t (suc j) h ls ns bs e))
            ∙ ap (λ o. keep_last o l.n (changed X t (suc j) l.n))
            (ih (suc j - size X l.n) (omega (arith, fits)) (omega (arith, fits)) l.earlier l.front l.later l.stands)
            ∙ joins l.later
            ∙ sym (ap head? l.follows)
          where
            fits : (1 ≤ size X l.n) × (size X l.n ≤ suc j)
            fits = chain_fits X t (suc j) l.in_chain

            joins : (k : List Reading) → keep_last (head? k) l.n (changed X t (suc j) l.n)
                ≡ head? (map (λ ws. snoc ws l.n) k ++ ending_with X (readings_to X t) (suc j) (behind l.n c))
            joins [] = sym (head-ending_with X t (suc j) (behind l.n c))
            joins (x ∷ k) = refl

-- the next of the k-th reading is the one after it in the list
pub next_at : (X : Words) (t : Word) (k : ℕ) → k < length (readings X t)
    → next_reading X t (get_or (readings X t) k []) ≡ get_elem? (readings X t) (suc k)
next_at X t k h =
    next_is_behind X t (length t) (omega arith) (take k (readings X t)) (get_or (readings X t) k []) (drop (suc k) (readings X t))
    (split_at (readings X t) k [] h)
    ∙ head-drop (readings X t) (suc k)

-- so there is none exactly after the last
pub next_ends : (X : Words) (t : Word) (k : ℕ) → k < length (readings X t)
    → (next_reading X t (get_or (readings X t) k []) ≡ none) ↔ (suc k ≡ length (readings X t))
next_ends X t k h =
    let (f, g) = none_at (readings X t) (suc k) in
    (λ e. omega (arith, f (sym (next_at X t k h) ∙ e)), λ e. next_at X t k h ∙ g (omega arith))

-- the same of a reading: it stands at some k, and its next one at k + 1
pub next_of_reading : (X : Words) → Dictionary X → (t : Word) (ns : Reading) → IsReading X t ns
    → (k : ℕ) × (k < length (readings X t)) × (get_or (readings X t) k [] ≡ ns) × (next_reading X t ns ≡ get_elem? (readings X t) (suc k))
next_of_reading X D t ns r =
    let (k, h, e) = index_of [] ((readings_are X D t ns).1 r) in
    (k, h, e, ap (next_reading X t) (sym e) ∙ next_at X t k h)
