-- The search for a word among those of its class.
use mathlib.Core.Path.{◌≡◌, ap, sym, ◌∙◌, subst}
use mathlib.Core.Logic.{◌≢◌}
use mathlib.Core.Bool.{true, false}
use mathlib.Core.List.{List}
use Rattle.std.specs.Prelude.{Ok}
use Prim.Native.Nat.{ℕ, ◌+◌, ◌-◌, ◌≤◌, ◌<◌}
use native.Mathlib.Decide.{dec_lt}
use native.Mathlib.Omega.{arith}
use lib.ListN.{length, get_or}
use Rattle.meaning.specs.Words.{Word as Letters, Words, same, find, is_some, has, word}
use Rattle.meaning.proofs.Find.{same_true, same_false, not_same, none_unless, find_some, find_at}
use Rattle.letters.specs.Letters.{mapped}
use Rattle.letters.specs.Record.{record_at, word_at}
use Rattle.letters.specs.declared.record.Record.TheVariants.{Word}
use Rattle.letters.proofs.Bytes.{mapped-length}
use Rattle.letters.proofs.Records.{FitsWord, word_fits}
use Rattle.records.specs.Stored.{Holds}
use Rattle.records.specs.declared.repeats.Index.{Index}
use Rattle.records.specs.Classes.{class_of, up_to_last, Indexed}
use Rattle.records.proofs.Classes.{class_below, last}

-- the record of a word, beside a word record of n letters at another offset
module _ {m b : List ℕ} {p at n : ℕ} {w : Letters} (h : Holds m b p w) (f : FitsWord b at n) where
  size : get_or b (p + 2) 0 ≡ length w
  size = let g : FitsWord b p (length w) = word_fits h.record_here in g.size

  pub other_size : get_or b (p + 2) 0 ≢ get_or b (at + 2) 0 → same w (word_at (mapped m) b at n) ≡ false
  other_size z = not_same w _ (λ d. z (size ∙ ap length d ∙ mapped-length m b (at + 3) n f.within ∙ sym f.size))

  module _ (z : get_or b (p + 2) 0 ≡ get_or b (at + 2) 0) where
    pub letters_there : p + 3 + n ≤ length b
    letters_there = omega (arith, h.within, size, f.size)

    pub same_size : same (word_at (mapped m) b p n) (word_at (mapped m) b at n) ≡ same w (word_at (mapped m) b at n)
    same_size =
        ap (λ (v : Letters). same v (word_at (mapped m) b at n))
        (sym (h.letters ∙ ap (word_at (mapped m) b p) (sym size ∙ z ∙ f.size)))

-- in search of the word whose record stands at an offset: among the words X it is none of those from q on, and the one before is
-- of its class
pub record Searching (m b : List ℕ) (index : Index) (at n : ℕ) (X : Words) (q : ℕ) : Type 0 where
  pub sought : record_at b at ≡ Ok (Word n)
  pub indexed : Indexed m b index X
  pub within : q ≤ length X
  pub its : 0 < q → class_of (word X (q - 1)) ≡ class_of (word_at (mapped m) b at n)
  pub others : (k : ℕ) → q ≤ k → k < length X → word X k ≢ word_at (mapped m) b at n

-- from the last of the first k words that are of the class, where it is none of the others
from_last : {m b : List ℕ} {index : Index} {at n : ℕ} {X : Words} (k : ℕ) → record_at b at ≡ Ok (Word n) → Indexed m b index X → k ≤ length X
    → ((j : ℕ) → k ≤ j → j < length X → word X j ≢ word_at (mapped m) b at n)
    → Searching m b index at n X (up_to_last X (class_of (word_at (mapped m) b at n)) k)
from_last {m} {b} {at = at} {n} {X} k r ι h f =
    let l = last X (class_of (word_at (mapped m) b at n)) k in
    record {
      sought = r;
      indexed = ι;
      within = omega (arith, l.within);
      its = l.its;
      others = λ j i u. elim (dec_lt j k) [ yes s ↦ λ e. l.others j i s (ap class_of e) | no s ↦ f j (omega arith) u ];
    }

pub search_starts : {m b : List ℕ} {index : Index} {at n c q : ℕ} {X : Words} → record_at b at ≡ Ok (Word n) → Indexed m b index X
    → c ≡ class_of (word_at (mapped m) b at n) → q ≡ get_or index.last c 0 → Searching m b index at n X q
search_starts {m} {b} {index} {at} {n} {X = X} r ι e z =
    let w = word_at (mapped m) b at n in
    subst (Searching m b index at n X) (sym (z ∙ ap (λ (d : ℕ). get_or index.last d 0) e ∙ ι.last (class_of w) (class_below w)))
    (from_last (length X) r ι (omega arith) (λ k h l. absurd (omega arith)))

module _ {m b : List ℕ} {index : Index} {at n : ℕ} {X : Words} {q : ℕ} (s : Searching m b index at n X q) where
  pub search_ends : q ≤ 0 → has X (word_at (mapped m) b at n) ≡ false
  search_ends h =
      ap is_some (none_unless (find X (word_at (mapped m) b at n)) (λ k e.
      let f = find_some X _ k e in
      s.others k (omega arith) f.inside f.reads))

  -- it goes on with the word before of the class
  module _ {q' : ℕ} (h : 0 < q) (z : q' ≡ get_or index.older (q - 1) 0) where
    before : q' ≡ up_to_last X (class_of (word_at (mapped m) b at n)) (q - 1)
    before =
        z ∙ s.indexed.older (q - 1) (omega (arith, s.within)) ∙ ap (λ (c : ℕ). up_to_last X c (q - 1)) (s.its h)

    pub search_less : q' < q
    search_less = omega (arith, before, (last X (class_of (word_at (mapped m) b at n)) (q - 1)).within)

    pub search_on : same (word X (q - 1)) (word_at (mapped m) b at n) ≡ false → Searching m b index at n X q'
    search_on t =
        subst (Searching m b index at n X) (sym before)
        (from_last (q - 1) s.sought s.indexed (omega (arith, s.within))
        (λ k i j. elim (dec_lt k q) [
          | yes l ↦ let g : k ≡ q - 1 = omega arith in rw g (same_false _ _ t)
          | no l ↦ s.others k (omega arith) j
        ]))

  -- at word q - 1, whose record stands at p
  module _ (h : 0 < q) where
    inside : q - 1 < length X
    inside = omega (arith, s.within)

    pub next_stands : {p : ℕ} → p ≡ get_or index.places (q - 1) 0 → Holds m b p (word X (q - 1))
    next_stands e =
        subst (λ (j : ℕ). Holds m b j (word X (q - 1))) (sym e) (s.indexed.places (q - 1) inside)

    pub search_finds : same (word X (q - 1)) (word_at (mapped m) b at n) ≡ true → has X (word_at (mapped m) b at n) ≡ true
    search_finds t = let (k, f, l) = find_at X (word_at (mapped m) b at n) (q - 1) inside (same_true _ _ t) in ap is_some f
