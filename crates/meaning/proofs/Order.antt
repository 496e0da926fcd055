-- The list `readings` is in the order of document 01, and no other list is.
use mathlib.Core.Path.{◌≡◌, refl, sym, ap, ◌∙◌, subst₂}
use mathlib.Core.List.Memᴰ
use mathlib.Core.List.{List, [], ◌∷◌, ◌++◌, map, append_assoc, append_cancel_right, Memᴰ}
use mathlib.Core.Logic.{◌⊎◌, ⊎_elim, ⊎_map, ◌↔◌}
use Prim.Native.Nat.{ℕ, zero, suc, ◌-◌, ◌≤◌, ◌<◌}
use native.Mathlib.Omega.{arith}
use lib.ListN.{length, get_or, take}
use Rattle.meaning.specs.Words.{Word, Words, Reading, snoc, size}
use Rattle.meaning.specs.Automaton.{chain}
use Rattle.meaning.specs.Readings.{ending_with, readings_to, readings}
use Rattle.meaning.specs.Plain.{Dictionary, Ordered, Shorter, IsReading, Before}
use Rattle.meaning.proofs.Lists.{strong_induction, trichotomy, le_or_le, mem_map, index_of, ordered_map, ordered_append, ordered_at, ordered_unique, Snoc, nothing, last, snoc_view, snoc_inj, ends_nest}
use Rattle.meaning.proofs.Chains.{chain_falls, chain_fits}
use Rattle.meaning.proofs.Readings.{readings_to_suc, mem_ending_with, readings_are}

before_snoc : (X : Words) (n : ℕ) (ns ms : Reading) → Before X ns ms → Before X (snoc ns n) (snoc ms n)
before_snoc X n ns ms b = record {
  front₁ = b.front₁;
  front₂ = b.front₂;
  n = b.n;
  m = b.m;
  rest = snoc b.rest n;
  first = ap (λ l. snoc l n) b.first ∙ append_assoc b.front₁ (b.n ∷ b.rest) (n ∷ []);
  second = ap (λ l. snoc l n) b.second ∙ append_assoc b.front₂ (b.m ∷ b.rest) (n ∷ []);
  longer = b.longer;
}

before_by_last : (X : Words) (n m : ℕ) (ns ms : Reading) → Shorter X n m → Before X (snoc ns n) (snoc ms m)
before_by_last X n m ns ms h = record { front₁ = ns; front₂ = ms; n = n; m = m; rest = []; first = refl; second = refl; longer = h }

-- `Before` is not both ways round
before_clash : (X : Words) (ns ms : Reading) (b : Before X ns ms) (c : Before X ms ns) → length b.rest ≤ length c.rest → ⊥
before_clash X ns ms b c h =
    clash (snoc_view r)
    (same_end b.front₁ b.n c.front₂ c.m (sym b.first ∙ c.second))
    (same_end b.front₂ b.m c.front₁ c.n (sym b.second ∙ c.first))
  where
    nested : (r : Reading) × (c.rest ≡ r ++ b.rest)
    nested = ends_nest (snoc c.front₂ c.m) c.rest (snoc b.front₁ b.n) b.rest
        (append_assoc c.front₂ (c.m ∷ []) c.rest ∙ sym c.second ∙ b.first ∙ sym (append_assoc b.front₁ (b.n ∷ []) b.rest)) h

    r : Reading
    r = nested.0

    same_end : (f : Reading) (x : ℕ) (g : Reading) (y : ℕ) → f ++ x ∷ b.rest ≡ g ++ y ∷ c.rest → snoc f x ≡ g ++ y ∷ r
    same_end f x g y e = append_cancel_right (snoc f x) (g ++ y ∷ r) b.rest
        (append_assoc f (x ∷ []) b.rest ∙ e ∙ ap (λ k. g ++ y ∷ k) nested.1 ∙ sym (append_assoc g (y ∷ r) b.rest))

    clash : {k : Reading} → Snoc k → snoc b.front₁ b.n ≡ c.front₂ ++ c.m ∷ k → snoc b.front₂ b.m ≡ c.front₁ ++ c.n ∷ k → ⊥
    clash nothing p q =
        omega (
          arith,
          b.longer,
          c.longer,
          ap (size X) (snoc_inj b.front₁ c.front₂ p).1,
          ap (size X) (snoc_inj b.front₂ c.front₁ q).1,
        )
    clash (last k x) p q =
        omega (
          arith,
          b.longer,
          ap (size X) (snoc_inj b.front₁ (c.front₂ ++ c.m ∷ k) (p ∙ sym (append_assoc c.front₂ (c.m ∷ k) (x ∷ [])))).1,
          ap (size X) (snoc_inj b.front₂ (c.front₁ ++ c.n ∷ k) (q ∙ sym (append_assoc c.front₁ (c.n ∷ k) (x ∷ [])))).1,
        )

pub before_asymmetric : (X : Words) (ns ms : Reading) → Before X ns ms → Before X ms ns → ⊥
before_asymmetric X ns ms b c = ⊎_elim (before_clash X ns ms b c) (before_clash X ms ns c b) (le_or_le (length b.rest) (length c.rest))

ending_with_ordered : (X : Words) (b : ℕ → List Reading) (i : ℕ) (c : List ℕ) → Ordered (Shorter X) c
    → ((n : ℕ) → Memᴰ n c → Ordered (Before X) (b (i - size X n))) → Ordered (Before X) (ending_with X b i c)
ending_with_ordered X b i [] o h = tt
ending_with_ordered X b i (n ∷ c) o h =
    ordered_append (Before X) (map (λ ws. snoc ws n) (b (i - size X n))) (ending_with X b i c)
    (ordered_map (Before X) (Before X) (λ ws. snoc ws n) (before_snoc X n) (b (i - size X n)) (h n (Memᴰ.head refl)))
    (ending_with_ordered X b i c o.1 (λ m k. h m (Memᴰ.tail k)))
    across
  where
    across : (x y : Reading) → Memᴰ x (map (λ ws. snoc ws n) (b (i - size X n))) → Memᴰ y (ending_with X b i c) → Before X x y
    across x y k l =
        let (xs, p, e) = mem_map (λ ws. snoc ws n) (b (i - size X n)) k in
        let (m, ys, q, r, f) = mem_ending_with X b i c l in
        subst₂ (Before X) (sym e) (sym f) (before_by_last X n m xs ys (o.0 m q))

readings_to_ordered : (X : Words) (t : Word) (i : ℕ) → Ordered (Before X) (readings_to X t i)
readings_to_ordered X t = strong_induction (λ i. Ordered (Before X) (readings_to X t i)) step
  where
    step : (i : ℕ) → ((j : ℕ) → j < i → Ordered (Before X) (readings_to X t j)) → Ordered (Before X) (readings_to X t i)
    step zero ih = (λ ns m. absurd (Memᴰ.not-nil m), tt)
    step (suc j) ih = rw (readings_to_suc X t j)
        (ending_with_ordered X (readings_to X t) (suc j) (chain X (take (suc j) t)) (chain_falls X (take (suc j) t))
        (λ n m. let f = chain_fits X t (suc j) m in ih (suc j - size X n) (omega arith)))

pub readings_ordered : (X : Words) (t : Word) → Ordered (Before X) (readings X t)
readings_ordered X t = readings_to_ordered X t (length t)

-- for i < j the i-th reading comes before the j-th
pub readings_in_order : (X : Words) (t : Word) (i j : ℕ) → i < j → j < length (readings X t)
    → Before X (get_or (readings X t) i []) (get_or (readings X t) j [])
readings_in_order X t = ordered_at (Before X) (readings X t) [] (readings_ordered X t)

-- no reading stands twice
pub readings_once : (X : Words) (t : Word) (i j : ℕ) → i < j → j < length (readings X t)
    → get_or (readings X t) i [] ≡ get_or (readings X t) j [] → ⊥
readings_once X t i j h k e =
    let b = rw e at (readings_in_order X t i j h k) in
    before_asymmetric X (get_or (readings X t) j []) (get_or (readings X t) j []) b b

-- of two readings one comes first, or they are one
pub readings_compare : (X : Words) → Dictionary X → (t : Word) (ns ms : Reading) → IsReading X t ns → IsReading X t ms
    → (ns ≡ ms) ⊎ (Before X ns ms ⊎ Before X ms ns)
readings_compare X D t ns ms p q =
    let (i, h, e) = index_of [] ((readings_are X D t ns).1 p) in
    let (j, k, f) = index_of [] ((readings_are X D t ms).1 q) in
    ⊎_map
    (λ s. sym e ∙ ap (λ n. get_or (readings X t) n []) s ∙ f)
    (⊎_map (λ s. subst₂ (Before X) e f (readings_in_order X t i j s k)) (λ s. subst₂ (Before X) f e (readings_in_order X t j i s h)))
    (trichotomy i j)

-- a list that holds exactly the readings, in order and so each once, is this list
pub readings_determined : (X : Words) → Dictionary X → (t : Word) (l : List Reading) → Ordered (Before X) l
    → ((ns : Reading) → Memᴰ ns l ↔ IsReading X t ns) → l ≡ readings X t
readings_determined X D t l o h =
    ordered_unique (Before X) (before_asymmetric X) l (readings X t) o (readings_ordered X t)
    (λ ns m. (readings_are X D t ns).1 ((h ns).0 m)) (λ ns m. (h ns).1 ((readings_are X D t ns).0 m))
