-- Under any letter map the words are the bytes' words, and equal is equal under the map.
use mathlib.Core.Path.{◌≡◌, refl, ap, ap₂, sym, ◌∙◌}
use mathlib.Core.Logic.{◌↔◌}
use mathlib.Core.List.{List, [], ◌∷◌, ◌++◌, map, map-append, cons≢nil, head-eq_of_cons-eq, tail-eq_of_cons-eq}
use Prim.Native.Nat.{ℕ, ◌<◌}
use native.Mathlib.Omega.{arith}
use lib.ListN.{length, length-map, get_or-map}
use Rattle.meaning.specs.Words.{Word as Letters, Words, Reading, word, joined}
use Rattle.meaning.specs.Plain.{Storable, Prefix, Suffix, NoneIs, IsReading}
use Rattle.meaning.proofs.Unique.{none_map}
use Rattle.letters.specs.Letters.{letter, mapped, Alike, Under, ReadsUnder}

-- words joined, and mapped
mapped-append : (m u v : List ℕ) → mapped m (u ++ v) ≡ mapped m u ++ mapped m v
mapped-append m = map-append (letter m)

word_mapped : (m : List ℕ) (W : Words) (n : ℕ) → word (map (mapped m) W) n ≡ mapped m (word W n)
word_mapped m W n = get_or-map (mapped m) W n []

joined_mapped : (m : List ℕ) (W : Words) (ns : Reading) → joined (map (mapped m) W) ns ≡ mapped m (joined W ns)
joined_mapped m W [] = refl
joined_mapped m W (n ∷ ns) = ap₂ ◌++◌ (word_mapped m W n) (joined_mapped m W ns) ∙ sym (mapped-append m (word W n) (joined W ns))

-- readings of the mapped text in the mapped words: the words' bytes, joined, equal the text's under the map
pub reads_under : (m : List ℕ) (W : Words) (u : List ℕ) (ns : Reading) → IsReading (map (mapped m) W) (mapped m u) ns ↔ ReadsUnder m W u ns
reads_under m W u ns = (
  λ r. record { below = λ n i. omega (arith, r.below n i, length-map W (mapped m)); joins = sym (joined_mapped m W ns) ∙ r.joins },
  λ r. record { below = λ n i. omega (arith, r.below n i, length-map W (mapped m)); joins = joined_mapped m W ns ∙ r.joins },
)

-- no two words of a dictionary are equal under the map
pub unlike : (m : List ℕ) (W : Words) → Storable (map (mapped m) W) → (i j : ℕ) → i < length W → j < length W
    → Alike m (word W i) (word W j) → i ≡ j
unlike m W s i j h k e =
    s.dictionary.distinct i j (omega (arith, length-map W (mapped m))) (omega (arith, length-map W (mapped m)))
    (word_mapped m W i ∙ e ∙ sym (word_mapped m W j))

-- no word is so to another under the map: of the words' bytes, and of the words
pub none_under : (So : Letters → Letters → Type 0) (m : List ℕ) (W : Words) → NoneIs So (map (mapped m) W) ↔ NoneIs (Under So m) W
none_under So m W = none_map So (mapped m) refl W

-- letters of bytes, in two parts: each is the letters of bytes
mapped_split : (m u l k : List ℕ) → l ++ k ≡ mapped m u → ((v : List ℕ) × (mapped m v ≡ l)) × ((w : List ℕ) × (mapped m w ≡ k))
mapped_split m u [] k e = (([], refl), (u, sym e))
mapped_split m [] (a ∷ l) k e = absurd (cons≢nil e)
mapped_split m (x ∷ u) (a ∷ l) k e =
    let (p, q) = mapped_split m u l k (tail-eq_of_cons-eq e) in
    ((x ∷ p.0, ap₂ ◌∷◌ (sym (head-eq_of_cons-eq e)) p.1), q)

-- a prefix under the map: some bytes after it make it equal under the map; and so of a suffix
pub prefix_under : (m v u : List ℕ) → Under Prefix m v u ↔ ((after : List ℕ) × Alike m (v ++ after) u)
prefix_under m v u = (
  λ p. let (w, e) = (mapped_split m u (mapped m v) p.after p.joins).1 in
      (w, mapped-append m v w ∙ ap (mapped m v ++◌) e ∙ p.joins),
  λ (w, e). record { after = mapped m w; joins = sym (mapped-append m v w) ∙ e },
)

pub suffix_under : (m v u : List ℕ) → Under Suffix m v u ↔ ((before : List ℕ) × Alike m (before ++ v) u)
suffix_under m v u = (
  λ s. let (w, e) = (mapped_split m u s.before (mapped m v) s.joins).0 in
      (w, mapped-append m w v ∙ ap (◌++ mapped m v) e ∙ s.joins),
  λ (w, e). record { before = mapped m w; joins = sym (mapped-append m w v) ∙ e },
)
