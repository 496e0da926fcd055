-- Classes of words, and the last word of a class.
use mathlib.Core.Path.{◌≡◌, refl, sym, ap, ◌∙◌}
use mathlib.Core.Logic.{◌≢◌}
use mathlib.Core.List.{List, [], ◌∷◌, ◌++◌, append_assoc}
use Prim.Native.Nat.{ℕ, zero, suc, ◌+◌, ◌*◌, ◌-◌, ◌≤◌, ◌<◌, ◌%◌}
use native.Mathlib.Decide.{dec_lt}
use native.Mathlib.Omega.{arith}
use lib.Dec.{eqb}
use lib.ListN.{length, get_or, get_or-append, take, drop, take-append-drop}
use lib.Seq.{get_or-append_seam, take-append_seam, drop-append_seam, take-length, drop-length}
use borrow.Author.Tests.{eq-eqb, ne_eqb, eqb-true, eqb-false}
use Rattle.meaning.specs.Words.{Word as Letters, Words, snoc, word}
use Rattle.meaning.proofs.Find.{Tested, pass, fail, test}
use Rattle.letters.specs.Letters.{letter, mapped}
use Rattle.records.specs.Classes.{classes, class_of, up_to_last}

pub class_below : (w : Letters) → class_of w < classes
unfolding class_of
class_below [] = omega arith
class_below (a ∷ w) = omega arith

-- bytes whose last ones, after `rest`, are taken off one by one from the front of these
pub record Behind (u rest : List ℕ) : Type 0 where
  pub is : rest ≡ take (length rest) u

pub behind_all : (u : List ℕ) → Behind u u × (drop (length u) u ≡ [])
behind_all u = (record { is = sym (take-length u) }, drop-length u)

module _ {u rest : List ℕ} (β : Behind u rest) (more : List ℕ) (x : ℕ) (e : rest ≡ more ++ x ∷ []) where
  whole : u ≡ more ++ x ∷ drop (length rest) u
  whole =
      sym (take-append-drop (length rest) u) ∙ ap (◌++ drop (length rest) u) (sym β.is ∙ e)
      ∙ append_assoc more (x ∷ []) (drop (length rest) u)

  pub behind_more : Behind u more
  behind_more = record { is = sym (ap (take (length more)) whole ∙ take-append_seam more (x ∷ drop (length rest) u)) }

  pub class_more : (m : List ℕ)
      → (letter m x + 5 * class_of (mapped m (drop (length rest) u))) % classes ≡ class_of (mapped m (drop (length more) u))
  unfolding class_of
  class_more m =
      sym (ap (λ (v : List ℕ). class_of (mapped m v)) (ap (drop (length more)) whole ∙ drop-append_seam more (x ∷ drop (length rest) u)))

-- what `up_to_last` gives: the word before it is of the class, and none from it on
pub record Last (X : Words) (c n q : ℕ) : Type 0 where
  pub within : q ≤ n
  pub its : 0 < q → class_of (word X (q - 1)) ≡ c
  pub others : (k : ℕ) → q ≤ k → k < n → class_of (word X k) ≢ c

pub last : (X : Words) (c n : ℕ) → Last X c n (up_to_last X c n)
last X c zero = record { within = omega arith; its = λ h. absurd (omega arith); others = λ k h l. absurd (omega arith) }
last X c (suc n) = go (last X c n) (test (eqb (class_of (word X n)) c))
  where
    go : Last X c n (up_to_last X c n) → Tested (eqb (class_of (word X n)) c) → Last X c (suc n) (up_to_last X c (suc n))
    go r (pass t) =
        let e : suc n - 1 ≡ n = omega arith in
        rw (t, up_to_last)
        (record { within = omega arith; its = λ h. rw e (eqb-true _ c t); others = λ k h l. absurd (omega arith) })
    go r (fail t) =
        rw (t, up_to_last)
        (record {
          within = omega (arith, r.within);
          its = r.its;
          others = λ k h l. elim (dec_lt k n) [ yes i ↦ r.others k h i | no i ↦ let e : k ≡ n = omega arith in rw e (eqb-false _ c t) ];
        })

-- one word more
pub last_kept : (X : Words) (w : Letters) (d n : ℕ) → n ≤ length X → up_to_last (snoc X w) d n ≡ up_to_last X d n
last_kept X w d zero h = refl
last_kept X w d (suc n) h =
    let l : n < length X = omega arith in
    rw (get_or-append X (w ∷ []) [] n l, last_kept X w d n (omega arith))

pub last_new : (X : Words) (w : Letters) → up_to_last (snoc X w) (class_of w) (suc (length X)) ≡ suc (length X)
last_new X w = rw (get_or-append_seam X w [] [], eq-eqb (class_of w) (class_of w) refl)

pub last_other : (X : Words) (w : Letters) (d : ℕ) → class_of w ≢ d → up_to_last (snoc X w) d (suc (length X)) ≡ up_to_last X d (length X)
last_other X w d f = rw (get_or-append_seam X w [] [], ne_eqb (class_of w) d f) (last_kept X w d (length X) (omega arith))
