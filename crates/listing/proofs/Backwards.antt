-- The words of a buffer read from the last one back.
use mathlib.Core.Path.{◌≡◌, refl, sym, ap, ◌∙◌, subst}
use mathlib.Core.Bool.{false}
use mathlib.Core.Logic.{◌↔◌}
use mathlib.Core.List.{List, [], ◌∷◌, ◌++◌, Memᴰ}
use Prim.Native.Nat.{ℕ, suc, ◌-◌, ◌≤◌, ◌<◌}
use native.Mathlib.Decide.{ℕ_discrete}
use native.Mathlib.Omega.{arith}
use borrow.Author.Tests.{eq-eqb, ne_eqb}
use lib.Dec.{eqb}
use lib.ListN.{length, get_or, take, drop, length-take, length-append}
use lib.Seq.{drop-length, take-suc, drop-cons, get_or-take, take-take, take_at, get_or_at, take-length, length-take-le}
use Rattle.meaning.specs.Words.{Word, Words, Reading, snoc, size}
use Rattle.meaning.specs.Automaton.{chain}
use Rattle.meaning.specs.Table.{depth_field}
use Rattle.meaning.specs.Listing.{is_reading}
use Rattle.meaning.specs.Plain.{IsReading}
use Rattle.meaning.proofs.Find.{Tested, pass, fail, test}
use Rattle.meaning.proofs.Chains.{chain_fits}
use Rattle.meaning.proofs.Readings.{is_reading_last, is_reading_is, no_words}
use Rattle.tree.specs.Layout.{field_at}
use Rattle.listing.specs.Positions.{IsWord, Placed, Given}
use Rattle.listing.proofs.Steps.{word_size}

pub take_last : (l : List ℕ) {j n : ℕ} → 0 < j → j ≤ length l → n ≡ get_or l (j - 1) 0 → take j l ≡ snoc (take (j - 1) l) n
take_last l {j} f h e =
    let q : j ≡ suc (j - 1) = omega (arith, f) in
    ap (λ (k : ℕ). take k l) q ∙ take-suc l (j - 1) 0 (omega (arith, f)) ∙ ap (snoc (take (j - 1) l)) (sym e)

-- the words from entry j on, of the first k: none at first, and then one more
pub drop_all : (l : List ℕ) (k : ℕ) → k ≤ length l → drop k (take k l) ≡ []
drop_all l k h = ap (λ (i : ℕ). drop i (take k l)) (sym (length-take-le k l h)) ∙ drop-length (take k l)

pub drop_last : (l : List ℕ) (j k : ℕ) {n : ℕ} → 0 < j → j ≤ k → k ≤ length l → n ≡ get_or l (j - 1) 0
    → drop (j - 1) (take k l) ≡ n ∷ drop j (take k l)
drop_last l j k f low room e =
    let q : suc (j - 1) ≡ j = omega (arith, f) in
    drop-cons (take k l) (j - 1) 0 (omega (arith, f, length-take k l))
    ∙ rw (q, get_or-take k l (j - 1) 0 (omega (arith, f)), e)

-- a word that ends at a position, and the position before it
module _ {X : Words} {t : Word} {tb ss : List ℕ} {i n v d : ℕ} (α : Placed X t tb ss i)
    (m : Memᴰ n (chain X (take i t))) (w : IsWord X v n) (e : d ≡ field_at tb v depth_field) where
  pub there_fits : d ≤ i
  there_fits = let k = chain_fits X t i m in omega (arith, word_size α.stated.table w e)

  pub place_before : Placed X t tb ss (i - d)
  place_before = record { stated = α.stated; place = omega (arith, α.place) }

-- a reading by its last entry
pub by_last : {X : Words} {t : Word} {tb ss : List ℕ} {i : ℕ} (α : Placed X t tb ss i) (l : List ℕ) {j n : ℕ} → 0 < j
    → j ≤ length l → n ≡ get_or l (j - 1) 0
    → IsReading X (take i t) (take j l) ↔ (Memᴰ n (chain X (take i t)) × IsReading X (take (i - size X n) t) (take (j - 1) l))
by_last {X} {t} {i = i} α l {j} {n} f h e =
    rw (take_last l f h e) (is_reading_last X α.stated.table.allowed.storable.dictionary t i α.place (take (j - 1) l) n)

-- the words before entry j have to read the first i letters
pub record Back (X : Words) (t : Word) (tb ss l : List ℕ) (k i j : ℕ) : Type 0 where
  pub at : Placed X t tb ss i
  pub low : j ≤ k
  pub same : IsReading X (take i t) (take j l) ↔ IsReading X t (take k l)

pub back_all : {X : Words} {t : Word} {tb ss l : List ℕ} {m k : ℕ} → Given X t tb ss m l k → Back X t tb ss l k m k
back_all {X} {t} {m = m} g = record {
  at = record { stated = g.stated; place = omega (arith, g.long) };
  low = omega arith;
  same = let e : take m t ≡ t = ap (λ (i : ℕ). take i t) g.long ∙ take-length t in rw e (λ r. r, λ r. r);
}

-- the test says what is so
module _ (X : Words) (t : Word) (ns : Reading) where
  says_false : (IsReading X t ns → ⊥) → false ≡ is_reading X t ns
  says_false f = go (test (is_reading X t ns))
    where
      go : Tested (is_reading X t ns) → false ≡ is_reading X t ns
      go (pass e) = absurd (f ((is_reading_is X t ns).0 e))
      go (fail e) = sym e

  says : (i : ℕ) → (i ≡ 0) ↔ IsReading X t ns → eqb i 0 ≡ is_reading X t ns
  says i (f, g) = go (ℕ_discrete i 0)
    where
      go : Dec (i ≡ 0) → eqb i 0 ≡ is_reading X t ns
      go (yes e) = eq-eqb i 0 e ∙ sym ((is_reading_is X t ns).1 (f e))
      go (no d) = ne_eqb i 0 d ∙ says_false (λ r. d (g r))

pub back_end : {X : Words} {t : Word} {tb ss l : List ℕ} {k i j : ℕ} → Back X t tb ss l k i j → j ≡ 0 → eqb i 0 ≡ is_reading X t (take k l)
back_end {X} {t} {l = l} {k} {i} β z = says X t (take k l) i (
  λ e. β.same.0 (rw (z, e) (no_words X)),
  λ r. let q = subst (λ (j : ℕ). IsReading X (take i t) (take j l)) z (β.same.1 r) in
      omega (arith, ap length q.joins, length-take i t, β.at.place),
)

module _ {X : Words} {t : Word} {tb ss l : List ℕ} {k i j n : ℕ} (β : Back X t tb ss l k i j) (room : k ≤ length l)
    (f : 0 < j) (e : n ≡ get_or l (j - 1) 0) where
  inside : j ≤ length l
  inside = omega (arith, β.low)

  pub back_stops : (Memᴰ n (chain X (take i t)) → ⊥) → false ≡ is_reading X t (take k l)
  back_stops g = says_false X t (take k l) (λ r. g ((by_last β.at l f inside e).0 (β.same.1 r)).0)

  pub back_on : {v d : ℕ} → Memᴰ n (chain X (take i t)) → IsWord X v n → d ≡ field_at tb v depth_field
      → Back X t tb ss l k (i - d) (j - 1)
  back_on {d = d} m w q =
      let s : d ≡ size X n = word_size β.at.stated.table w q in
      record {
        at = place_before β.at m w q;
        low = omega (arith, β.low);
        same = (
          λ r. β.same.0 ((by_last β.at l f inside e).1 (m, rw s at r)),
          λ r. rw s ((by_last β.at l f inside e).0 (β.same.1 r)).1,
        );
      }

-- the words still to be read: the first of the buffer
pub record Left (l rest : List ℕ) : Type 0 where
  pub is : rest ≡ take (length rest) l

pub left_all : (l : List ℕ) {k : ℕ} {rest : List ℕ} → k ≤ length l → rest ≡ take k l → Left l rest × (length rest ≡ k)
left_all l {k} {rest} h e =
    let long : length rest ≡ k = ap length e ∙ length-take-le k l h in
    (record { is = rw long e }, long)

-- the last of them is taken off
module _ {l rest : List ℕ} (more : List ℕ) (n : ℕ) (λ₁ : Left l rest) (e : rest ≡ more ++ n ∷ []) where
  pub left_some : length rest ≡ suc (length more)
  left_some = ap length e ∙ omega (arith, length-append more (n ∷ []))

  pub left_shorter : length rest - 1 ≡ length more
  left_shorter = omega (arith, left_some)

  whole : more ++ n ∷ [] ≡ take (suc (length more)) l
  whole = sym e ∙ λ₁.is ∙ ap (λ (k : ℕ). take k l) left_some

  pub left_last : n ≡ get_or l (length rest - 1) 0
  left_last =
      rw left_shorter (sym (get_or_at more n [] 0 (length more) refl) ∙ ap (λ (x : List ℕ). get_or x (length more) 0) whole
      ∙ get_or-take (suc (length more)) l (length more) 0 (omega arith))

  pub left_on : Left l more
  left_on = record { is = sym (take_at more (n ∷ []) (length more) refl) ∙ ap (take (length more)) whole ∙ take-take (length more) (suc (length more)) l (omega arith) }
