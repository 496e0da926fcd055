-- Dictionaries that leave no text two readings: no word is a proper suffix of another, or none a proper prefix.
use mathlib.Core.Path.{◌≡◌, refl, sym, ap, ap₂, ◌∙◌}
use mathlib.Core.Logic.{◌↔◌, ⊎_elim}
use mathlib.Core.Option.{none}
use mathlib.Core.List.Memᴰ
use mathlib.Core.List.{List, [], ◌∷◌, ◌++◌, map, reverse, append_assoc, append_cancel_left, append_cancel_right, reverse-append, reverse-reverse, Memᴰ}
use Prim.Native.Nat.{ℕ, suc, ◌≤◌, ◌<◌}
use native.Mathlib.Omega.{arith}
use lib.ListN.{length, get_or, take, length-append, length-map, get_or-map}
use Rattle.meaning.specs.Words.{Word, Words, Reading, word, joined}
use Rattle.meaning.specs.Automaton.{states, chain, longest_chain}
use Rattle.meaning.specs.Readings.{readings, count_at}
use Rattle.meaning.specs.Listing.{next_reading}
use Rattle.meaning.specs.Plain.{Dictionary, Ordered, Prefix, ProperPrefix, ProperSuffix, NoneIs, EndsWith, Shorter, IsReading, Unambiguous, Before}
use Rattle.meaning.proofs.Lists.{none_at}
use Rattle.meaning.proofs.Find.{Alike, alike, apart, compare}
use Rattle.meaning.proofs.Suffixes.{suffix_whole, suffix_inner}
use Rattle.meaning.proofs.Chains.{chain_ends, chain_is, chain_falls, chain_within_r, r_attained}
use Rattle.meaning.proofs.Readings.{joined-append, is_reading_tail, readings_are}
use Rattle.meaning.proofs.Order.{readings_once, readings_compare}
use Rattle.meaning.proofs.Counts.{readings_of_prefix}
use Rattle.meaning.proofs.Farthest.{overlap}
use Rattle.meaning.proofs.Next.{next_of_reading}

-- that no word is so to another: of what f makes of the words, and of the words
pub none_map : (So : Word → Word → Type 0) (f : Word → Word) → f [] ≡ [] → (X : Words)
    → NoneIs So (map f X) ↔ NoneIs (λ v u. So (f v) (f u)) X
none_map So f e X = (
  λ h i j k l s. h i j (omega (arith, length-map X f)) (omega (arith, length-map X f)) (rw (at i, at j) s),
  λ h i j k l s. h i j (omega (arith, length-map X f)) (omega (arith, length-map X f)) (rw (← at i, ← at j) s),
)
  where
    at : (n : ℕ) → word (map f X) n ≡ f (word X n)
    at n = ap (get_or (map f X) n) (sym e) ∙ get_or-map f X n []

-- written backwards, prefixes are suffixes
backwards : (v u : Word) → ProperPrefix v u ↔ ProperSuffix (reverse v) (reverse u)
backwards v u = (
  λ p. record {
    suffix = record { before = reverse p.prefix.after; joins = sym (reverse-append v p.prefix.after) ∙ ap reverse p.prefix.joins };
    proper = λ e. p.proper (back e);
  },
  λ s. record {
    prefix = record {
      after = reverse s.suffix.before;
      joins = ap (λ (w : Word). w ++ reverse s.suffix.before) (sym (reverse-reverse v))
          ∙ sym (reverse-append s.suffix.before (reverse v))
          ∙ ap reverse s.suffix.joins
          ∙ reverse-reverse u;
    };
    proper = λ e. s.proper (ap reverse e);
  },
)
  where
    back : reverse v ≡ reverse u → v ≡ u
    back e = sym (reverse-reverse v) ∙ ap reverse e ∙ reverse-reverse u

module _ (X : Words) where
  -- no word is a proper suffix of another: no text has two words that end it
  module _ (free : NoneIs ProperSuffix X) where
    no_shorter : {u : Word} {n m : ℕ} → EndsWith X u n → EndsWith X u m → Shorter X n m → ⊥
    no_shorter {n = n} {m} e f s = free m n f.below e.below (suffix_inner f.suffix e.suffix s)

    suffix_free_chain : (u : Word) → length (chain X u) ≤ 1
    suffix_free_chain u = short (chain X u) (λ n m. chain_ends X u m) (chain_falls X u)
      where
        short : (c : List ℕ) → ((n : ℕ) → Memᴰ n c → EndsWith X u n) → Ordered (Shorter X) c → length c ≤ 1
        short [] h o = omega arith
        short (n ∷ []) h o = omega arith
        short (n ∷ m ∷ c) h o =
            absurd (no_shorter (h n (Memᴰ.head refl)) (h m (Memᴰ.tail (Memᴰ.head refl))) (o.0 m (Memᴰ.head refl)))

    -- .. so of two readings none comes first
    no_order : {t : Word} {ns ms : Reading} → IsReading X t ns → IsReading X t ms → Before X ns ms → ⊥
    no_order {t} {ns} {ms} p q b =
        no_shorter (ends p b.front₁ b.n b.first refl) (ends q b.front₂ b.m b.second same) b.longer
      where
        spell : (f : Reading) (n : ℕ) → joined X (f ++ n ∷ b.rest) ≡ (joined X f ++ word X n) ++ joined X b.rest
        spell f n = joined-append X f (n ∷ b.rest) ∙ sym (append_assoc (joined X f) (word X n) (joined X b.rest))

        same : joined X b.front₂ ++ word X b.m ≡ joined X b.front₁ ++ word X b.n
        same = append_cancel_right _ _ (joined X b.rest)
            (sym (spell b.front₂ b.m) ∙ ap (joined X) (sym b.second) ∙ q.joins
            ∙ sym p.joins ∙ ap (joined X) b.first ∙ spell b.front₁ b.n)

        ends : {ks : Reading} → IsReading X t ks → (f : Reading) (n : ℕ) → ks ≡ f ++ n ∷ b.rest
            → {u : Word} → joined X f ++ word X n ≡ u → EndsWith X u n
        ends r f n e j = record {
          below = r.below n (rw e (Memᴰ.append_right f (Memᴰ.head refl)));
          suffix = record { before = joined X f; joins = j };
        }

  -- .. and no chain two words: r is at most 1, exactly there
  pub suffix_free_r : Dictionary X → NoneIs ProperSuffix X ↔ (longest_chain X ≤ 1)
  suffix_free_r D = (
    λ free. let (n, l, e) = r_attained X in omega (arith, suffix_free_chain free (word (states X) n)),
    λ h i j k l s. let w = word X j in
        let c = chain_is X D w in
        s.proper (ap (word X) (only (chain X w) (omega (arith, chain_within_r X w))
        ((c i).1 (record { below = k; suffix = s.suffix })) ((c j).1 (record { below = l; suffix = suffix_whole w })))),
  )
    where
      only : (c : List ℕ) → length c ≤ 1 → {i j : ℕ} → Memᴰ i c → Memᴰ j c → i ≡ j
      only [] h m n = absurd (Memᴰ.not-nil m)
      only (a ∷ []) h m n = Memᴰ.eq_of_singleton m ∙ sym (Memᴰ.eq_of_singleton n)
      only (a ∷ b ∷ c) h m n = absurd (omega arith)

  pub suffix_free_unambiguous : Dictionary X → NoneIs ProperSuffix X → Unambiguous X
  suffix_free_unambiguous D free t ns ms p q =
      ⊎_elim (λ e. e) (λ o. absurd (⊎_elim (no_order free p q) (no_order free q p) o)) (readings_compare X D t ns ms p q)

  -- no word is a proper prefix of another: no text has two words that begin it, since one would be a prefix of the other
  pub prefix_free_unambiguous : Dictionary X → NoneIs ProperPrefix X → Unambiguous X
  prefix_free_unambiguous D free = unique
    where
      prefix_one : (n m : ℕ) → n < length X → m < length X → Prefix (word X n) (word X m) → n ≡ m
      prefix_one n m h k p = go (compare (word X n) (word X m))
        where
          go : Alike (word X n) (word X m) → n ≡ m
          go (alike e) = D.distinct n m h k e
          go (apart d) = absurd (free n m h k (record { prefix = p; proper = d }))

      first_one : (n m : ℕ) → n < length X → m < length X → (p q : Word) → word X n ++ p ≡ word X m ++ q → n ≡ m
      first_one n m h k p q e =
          ⊎_elim (prefix_one n m h k) (λ r. sym (prefix_one m n k h (record { after = r.0; joins = r.1 }))) (overlap (word X n) p (word X m) q e)

      longer : {t : Word} {n : ℕ} {ns : Reading} → IsReading X t (n ∷ ns) → 1 ≤ length t
      longer {n = n} {ns} r =
          omega (arith, D.nonempty n (r.below n (Memᴰ.head refl)), length-append (word X n) (joined X ns), ap length r.joins)

      unique : Unambiguous X
      unique t [] [] p q = refl
      unique t [] (m ∷ ms) p q = absurd (omega (arith, longer q, ap length p.joins))
      unique t (n ∷ ns) [] p q = absurd (omega (arith, longer p, ap length q.joins))
      unique t (n ∷ ns) (m ∷ ms) p q =
          let e = p.joins ∙ sym q.joins in
          let same = first_one n m (p.below n (Memᴰ.head refl)) (q.below m (Memᴰ.head refl)) (joined X ns) (joined X ms) e in
          let rest : joined X ns ≡ joined X ms =
          append_cancel_left (word X m) (joined X ns) (joined X ms) (ap (λ (k : ℕ). word X k ++ joined X ns) (sym same) ∙ e) in
          ap₂ ◌∷◌ same (unique (joined X ns) ns ms (is_reading_tail p) (rw rest (is_reading_tail q)))

  -- what follows where no text has two readings
  module _ (D : Dictionary X) (one : Unambiguous X) where
    pub at_most_one : (t : Word) → length (readings X t) ≤ 1
    at_most_one t = go (readings X t) refl
      where
        go : (l : List Reading) → readings X t ≡ l → length l ≤ 1
        go [] e = omega arith
        go (ns ∷ []) e = omega arith
        go (ns ∷ ms ∷ l) e =
            let stands : (ks : Reading) → Memᴰ ks (ns ∷ ms ∷ l) → IsReading X t ks = λ ks m. (readings_are X D t ks).0 (rw e m) in
            let same = one t ns ms (stands ns (Memᴰ.head refl)) (stands ms (Memᴰ.tail (Memᴰ.head refl))) in
            absurd (readings_once X t 0 1 (omega arith) (omega (arith, ap length e)) (rw e same))

    pub count_at_most_one : (t : Word) (i : ℕ) → i ≤ length t → count_at X t i ≤ 1
    count_at_most_one t i h = omega (arith, at_most_one (take i t), ap length (readings_of_prefix X t i h))

    pub none_after : (t : Word) (ns : Reading) → IsReading X t ns → next_reading X t ns ≡ none
    none_after t ns r =
        let (k, h, e, next) = next_of_reading X D t ns r in
        next ∙ (none_at (readings X t) (suc k)).1 (omega (arith, at_most_one t))

-- what r tells of prefixes: that of the words written backwards
pub prefix_free_r : (X : Words) → Dictionary (map reverse X) → NoneIs ProperPrefix X ↔ (longest_chain (map reverse X) ≤ 1)
prefix_free_r X D =
    let (f, g) = none_map ProperSuffix reverse refl X in
    let (h, k) = suffix_free_r (map reverse X) D in (
      λ free. h (g (λ i j l m s. free i j l m ((backwards (word X i) (word X j)).1 s))),
      λ r i j l m p. f (k r) i j l m ((backwards (word X i) (word X j)).0 p),
    )
