-- The list `readings` holds exactly the readings of the text.
use mathlib.Core.Path.{◌≡◌, refl, sym, ap, ap₂, ◌∙◌, subst, subst₂}
use mathlib.Core.Bool.{true, false≢true}
use mathlib.Core.List.Memᴰ
use mathlib.Core.List.{List, [], ◌∷◌, ◌++◌, map, append_assoc, append-nil, append_cancel_right, Memᴰ}
use mathlib.Core.Logic.{⊎_elim, ◌↔◌}
use Prim.Native.Nat.{ℕ, zero, suc, ◌-◌, ◌≤◌, ◌<◌}
use native.Mathlib.Nat.{not-suc-le-zero}
use native.Mathlib.Omega.{arith}
use borrow.Author.Tests.{ltb-true, lt-ltb}
use lib.Dec.{ltb}
use lib.ListN.{length, take, length-take}
use lib.Seq.{take-length}
use Rattle.meaning.specs.Words.{Word, Words, Reading, snoc, word, size, joined}
use Rattle.meaning.specs.Automaton.{chain}
use Rattle.meaning.specs.Readings.{ending_with, readings_in, readings_to, readings, is_nonempty, accepted}
use Rattle.meaning.specs.Listing.{all_below, is_reading}
use Rattle.meaning.specs.Plain.{Dictionary, EndsWith, IsReading, Star}
use Rattle.meaning.proofs.Lists.{mem_map, map_mem, Snoc, nothing, last, snoc_view, strong_induction}
use Rattle.meaning.proofs.Find.{Tested, pass, fail, test, same_refl, same_true, find_some, has_word}
use Rattle.meaning.proofs.Chains.{chain_ends, chain_fits, chain_splits, chain_is}

-- the bound on the number of words does not matter once it is large enough
pub ending_with_cong : (X : Words) (b c : ℕ → List Reading) (i : ℕ) (ns : List ℕ)
    → ((n : ℕ) → Memᴰ n ns → b (i - size X n) ≡ c (i - size X n)) → ending_with X b i ns ≡ ending_with X c i ns
ending_with_cong X b c i [] h = refl
ending_with_cong X b c i (n ∷ ns) h =
    ap₂ (λ r l. map (λ ws. snoc ws n) r ++ l) (h n (Memᴰ.head refl)) (ending_with_cong X b c i ns (λ m k. h m (Memᴰ.tail k)))

readings_in_fuel : (X : Words) (t : Word) (f g i : ℕ) → i ≤ f → i ≤ g → readings_in X t f i ≡ readings_in X t g i
readings_in_fuel X t zero zero zero h k = refl
readings_in_fuel X t zero (suc g) zero h k = refl
readings_in_fuel X t (suc f) zero zero h k = refl
readings_in_fuel X t (suc f) (suc g) zero h k = refl
readings_in_fuel X t zero g (suc j) h k = absurd (not-suc-le-zero h)
readings_in_fuel X t (suc f) zero (suc j) h k = absurd (not-suc-le-zero k)
readings_in_fuel X t (suc f) (suc g) (suc j) h k =
    ending_with_cong X (readings_in X t f) (readings_in X t g) (suc j) (chain X (take (suc j) t))
    (λ n m. let e = chain_fits X t (suc j) m in readings_in_fuel X t f g (suc j - size X n) (omega arith) (omega arith))

-- the readings of the first j + 1 letters, from those of fewer
pub readings_to_suc : (X : Words) (t : Word) (j : ℕ)
    → readings_to X t (suc j) ≡ ending_with X (readings_to X t) (suc j) (chain X (take (suc j) t))
readings_to_suc X t j =
    ending_with_cong X (readings_in X t j) (readings_to X t) (suc j) (chain X (take (suc j) t))
    (λ n m. let e = chain_fits X t (suc j) m in readings_in_fuel X t j (suc j - size X n) (suc j - size X n) (omega arith) (omega arith))

pub joined-append : (X : Words) (ns ms : Reading) → joined X (ns ++ ms) ≡ joined X ns ++ joined X ms
joined-append X [] ms = refl
joined-append X (n ∷ ns) ms =
    ap (λ u. word X n ++ u) (joined-append X ns ms) ∙ sym (append_assoc (word X n) (joined X ns) (joined X ms))

pub joined_snoc : (X : Words) (ns : Reading) (n : ℕ) → joined X (snoc ns n) ≡ joined X ns ++ word X n
joined_snoc X ns n = joined-append X ns (n ∷ []) ∙ ap (λ u. joined X ns ++ u) (append-nil (word X n))

-- where an element of `ending_with` comes from
pub mem_ending_with : (X : Words) (b : ℕ → List Reading) (i : ℕ) (c : List ℕ) {ns : Reading} → Memᴰ ns (ending_with X b i c)
    → (n : ℕ) × (ms : Reading) × Memᴰ n c × Memᴰ ms (b (i - size X n)) × (ns ≡ snoc ms n)
mem_ending_with X b i [] m = elim m [ ]
mem_ending_with X b i (n ∷ c) {ns} m =
    ⊎_elim
    (λ k. let (ms, h, e) = mem_map (λ ws. snoc ws n) (b (i - size X n)) k in (n, ms, Memᴰ.head refl, h, e))
    (λ k. let (o, ms, h, l, e) = mem_ending_with X b i c k in (o, ms, Memᴰ.tail h, l, e))
    (Memᴰ.append_cases (map (λ ws. snoc ws n) (b (i - size X n))) m)

ending_with_mem : (X : Words) (b : ℕ → List Reading) (i : ℕ) (c : List ℕ) {n : ℕ} → Memᴰ n c → {ms : Reading}
    → Memᴰ ms (b (i - size X n)) → Memᴰ (snoc ms n) (ending_with X b i c)
ending_with_mem X b i [] m h = elim m [ ]
ending_with_mem X b i (k ∷ c) {n} m {ms} h =
    ⊎_elim
    (λ e. Memᴰ.append_left (ending_with X b i c) (found e))
    (λ j. Memᴰ.append_right (map (λ ws. snoc ws k) (b (i - size X k))) (ending_with_mem X b i c j h))
    (Memᴰ.cases_cons m)
  where
    found : n ≡ k → Memᴰ (snoc ms n) (map (λ ws. snoc ws k) (b (i - size X k)))
    found e = rw e (map_mem (λ ws. snoc ws k) (rw e at h))

-- readings by their ends
pub is_reading_snoc : {X : Words} {u : Word} {ns : Reading} {n : ℕ} → IsReading X u ns → n < length X
    → IsReading X (u ++ word X n) (snoc ns n)
is_reading_snoc {X} {u} {ns} {n} r h = record {
  below = λ m k. ⊎_elim (r.below m) (λ j. subst (λ k. k < length X) (sym (Memᴰ.eq_of_singleton j)) h) (Memᴰ.append_cases ns k);
  joins = joined_snoc X ns n ∙ ap (λ v. v ++ word X n) r.joins;
}

is_reading_front : (X : Words) (u : Word) (ns : Reading) (n : ℕ) → IsReading X (u ++ word X n) (snoc ns n) → IsReading X u ns
is_reading_front X u ns n r = record {
  below = λ m k. r.below m (Memᴰ.append_left (n ∷ []) k);
  joins = append_cancel_right (joined X ns) u (word X n) (sym (joined_snoc X ns n) ∙ r.joins);
}

pub is_reading_tail : {X : Words} {u : Word} {n : ℕ} {ns : Reading} → IsReading X u (n ∷ ns) → IsReading X (joined X ns) ns
is_reading_tail r = record { below = λ m k. r.below m (Memᴰ.tail k); joins = refl }

pub is_reading_last : (X : Words) → Dictionary X → (t : Word) (i : ℕ) → i ≤ length t → (ms : Reading) (n : ℕ)
    → IsReading X (take i t) (snoc ms n) ↔ (Memᴰ n (chain X (take i t)) × IsReading X (take (i - size X n) t) ms)
is_reading_last X D t i h ms n = (forth, back)
  where
    ends : IsReading X (take i t) (snoc ms n) → EndsWith X (take i t) n
    ends r = record {
      below = r.below n (Memᴰ.append_right ms (Memᴰ.head refl));
      suffix = record { before = joined X ms; joins = sym (joined_snoc X ms n) ∙ r.joins };
    }

    forth : IsReading X (take i t) (snoc ms n) → Memᴰ n (chain X (take i t)) × IsReading X (take (i - size X n) t) ms
    forth r =
        let k = (chain_is X D (take i t) n).1 (ends r) in
        (k, is_reading_front X (take (i - size X n) t) ms n (rw (chain_splits X t i h k) r))

    back : Memᴰ n (chain X (take i t)) × IsReading X (take (i - size X n) t) ms → IsReading X (take i t) (snoc ms n)
    back (k, r) =
        subst (λ (u : Word). IsReading X u (snoc ms n)) (chain_splits X t i h k)
        (is_reading_snoc r (chain_ends X (take i t) k).below)

pub no_words : (X : Words) → IsReading X [] []
no_words X = record { below = λ n m. absurd (Memᴰ.not-nil m); joins = refl }

-- the test of a word sequence says just that
all_below_is : (c : ℕ) (ns : List ℕ) → (all_below c ns ≡ true) ↔ ((n : ℕ) → Memᴰ n ns → n < c)
all_below_is c [] = (λ e n m. absurd (Memᴰ.not-nil m), λ h. refl)
all_below_is c (k ∷ ns) = go (all_below_is c ns) (test (ltb k c))
  where
    go : (all_below c ns ≡ true) ↔ ((n : ℕ) → Memᴰ n ns → n < c) → Tested (ltb k c)
        → (all_below c (k ∷ ns) ≡ true) ↔ ((n : ℕ) → Memᴰ n (k ∷ ns) → n < c)
    go (f, g) (pass t) = (
      λ e n m. ⊎_elim (λ q. subst (λ j. j < c) (sym q) (ltb-true k c t)) (f (rw t at e) n) (Memᴰ.cases_cons m),
      λ h. rw t (g (λ n m. h n (Memᴰ.tail m))),
    )
    go (f, g) (fail t) = (
      λ e. absurd (false≢true (rw t at e)),
      λ h. absurd (false≢true (sym t ∙ lt-ltb k c (h k (Memᴰ.head refl)))),
    )

pub is_reading_is : (X : Words) (t : Word) (ns : Reading) → (is_reading X t ns ≡ true) ↔ IsReading X t ns
is_reading_is X t ns = go (test (all_below (length X) ns))
  where
    go : Tested (all_below (length X) ns) → (is_reading X t ns ≡ true) ↔ IsReading X t ns
    go (pass e) = (
      λ q. record { below = (all_below_is (length X) ns).0 e; joins = same_true (joined X ns) t (rw e at q) },
      λ r. rw e (rw r.joins (same_refl t)),
    )
    go (fail e) = (
      λ q. absurd (false≢true (rw e at q)),
      λ r. absurd (false≢true (sym e ∙ (all_below_is (length X) ns).1 r.below)),
    )

-- every element of the list is a reading
pub readings_to_sound : (X : Words) (t : Word) (i : ℕ) → i ≤ length t → (ns : Reading) → Memᴰ ns (readings_to X t i)
    → IsReading X (take i t) ns
readings_to_sound X t = strong_induction Sound step
  where
    Sound : ℕ → Type 0
    Sound i = i ≤ length t → (ns : Reading) → Memᴰ ns (readings_to X t i) → IsReading X (take i t) ns

    step : (i : ℕ) → ((j : ℕ) → j < i → Sound j) → Sound i
    step zero ih h ns m = rw (Memᴰ.eq_of_singleton m) (no_words X)
    step (suc j) ih h ns m =
        let (n, ms, k, l, e) = mem_ending_with X (readings_to X t) (suc j) (chain X (take (suc j) t)) (rw (readings_to_suc X t j) at m) in
        let f = chain_fits X t (suc j) k in
        subst₂ (IsReading X) (chain_splits X t (suc j) h k) (sym e)
        (is_reading_snoc (ih (suc j - size X n) (omega arith) (omega arith) ms l) (chain_ends X (take (suc j) t) k).below)

-- every reading is in the list
pub readings_to_complete : (X : Words) → Dictionary X → (t : Word) (i : ℕ) → i ≤ length t → (ns : Reading) → IsReading X (take i t) ns
    → Memᴰ ns (readings_to X t i)
readings_to_complete X D t = strong_induction Complete step
  where
    Complete : ℕ → Type 0
    Complete i = i ≤ length t → (ns : Reading) → IsReading X (take i t) ns → Memᴰ ns (readings_to X t i)

    step : (i : ℕ) → ((j : ℕ) → j < i → Complete j) → Complete i
    step zero ih h ns r = go (snoc_view ns) r
      where
        go : {ms : Reading} → Snoc ms → IsReading X [] ms → Memᴰ ms ([] ∷ [])
        go nothing q = Memᴰ.head refl
        go (last ms n) q = absurd (omega (arith, chain_fits X t zero ((is_reading_last X D t zero h ms n).0 q).0))
    step (suc j) ih h ns r = rw (readings_to_suc X t j) (go (snoc_view ns) r)
      where
        go : {ms : Reading} → Snoc ms → IsReading X (take (suc j) t) ms
            → Memᴰ ms (ending_with X (readings_to X t) (suc j) (chain X (take (suc j) t)))
        go nothing q = absurd (omega (arith, ap length q.joins, length-take (suc j) t))
        go (last ms n) q =
            let (k, p) = (is_reading_last X D t (suc j) h ms n).0 q in
            let f = chain_fits X t (suc j) k in
            ending_with_mem X (readings_to X t) (suc j) (chain X (take (suc j) t)) k (ih (suc j - size X n) (omega arith) (omega arith) ms p)

pub readings_are : (X : Words) → Dictionary X → (t : Word) (ns : Reading) → Memᴰ ns (readings X t) ↔ IsReading X t ns
readings_are X D t ns = (
  λ m. rw (take-length t) at (readings_to_sound X t (length t) (omega arith) ns m),
  λ r. readings_to_complete X D t (length t) (omega arith) ns (rw (take-length t) r),
)

-- the empty text has exactly one reading, of no words, under every dictionary
pub readings_empty : (X : Words) → readings X [] ≡ [] ∷ []
readings_empty X = refl

pub empty_reading : (X : Words) → Dictionary X → (ns : Reading) → IsReading X [] ns ↔ (ns ≡ [])
empty_reading X D ns = (λ r. Memᴰ.eq_of_singleton ((readings_are X D [] ns).1 r), λ e. rw e (no_words X))

-- accepted means that there is a reading, and so that the text is in X*
nonempty_mem : {A : Type 0} (l : List A) → is_nonempty l ≡ true → (x : A) × Memᴰ x l
nonempty_mem [] e = absurd (false≢true e)
nonempty_mem (x ∷ l) e = (x, Memᴰ.head refl)

mem_nonempty : {A : Type 0} (x : A) (l : List A) → Memᴰ x l → is_nonempty l ≡ true
mem_nonempty x [] m = absurd (Memᴰ.not-nil m)
mem_nonempty x (y ∷ l) m = refl

pub accepted_has_reading : (X : Words) → Dictionary X → (t : Word) → (accepted X t ≡ true) ↔ ((ns : Reading) × IsReading X t ns)
accepted_has_reading X D t = (
  λ e. let (ns, m) = nonempty_mem (readings X t) e in (ns, (readings_are X D t ns).0 m),
  λ p. mem_nonempty p.0 (readings X t) ((readings_are X D t p.0).1 p.1),
)

reading_star : (X : Words) (u : Word) (ns : Reading) → IsReading X u ns → Star X u
reading_star X u [] r = rw (← r.joins) Star.empty
reading_star X u (n ∷ ns) r =
    Star.more (has_word X n (r.below n (Memᴰ.head refl)))
    (reading_star X (joined X ns) ns (is_reading_tail r)) (sym r.joins)

star_reading : (X : Words) {u : Word} → Star X u → (ns : Reading) × IsReading X u ns
star_reading X Star.empty = ([], no_words X)
star_reading X (Star.more {w} m s e) =
    let (ns, r) = star_reading X s in
    let f = find_some X w m.place m.found in (
      m.place ∷ ns,
      record {
        below = λ k j. ⊎_elim (λ p. subst (λ q. q < length X) (sym p) f.inside) (r.below k) (Memᴰ.cases_cons j);
        joins = ap₂ ◌++◌ f.reads r.joins ∙ sym e;
      },
    )

pub accepted_is_star : (X : Words) → Dictionary X → (t : Word) → (accepted X t ≡ true) ↔ Star X t
accepted_is_star X D t = (
  λ e. let (ns, r) = (accepted_has_reading X D t).0 e in reading_star X t ns r,
  λ s. (accepted_has_reading X D t).1 (star_reading X s),
)
