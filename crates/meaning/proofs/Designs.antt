-- Three ways to make a dictionary in which no word is a proper suffix, or none a proper prefix, of another.
use mathlib.Core.Path.{◌≡◌, refl, sym, ap, ◌∙◌}
use mathlib.Core.List.Memᴰ
use mathlib.Core.List.{[], ◌∷◌, ◌++◌, append-nil, append_assoc, tail-eq_of_cons-eq, Memᴰ}
use Prim.Native.Nat.{ℕ}
use native.Mathlib.Omega.{arith}
use lib.ListN.{length, length-append}
use Rattle.meaning.specs.Words.{Word, Words, snoc, word}
use Rattle.meaning.specs.Plain.{Each, ProperPrefix, ProperSuffix, NoneIs}
use Rattle.meaning.proofs.Lists.{Snoc, nothing, last, snoc_view, snoc_inj}
use Rattle.meaning.proofs.Suffixes.{suffix_whole, suffix_one}

-- the letter a stands at the beginning of w, or at its end, and nowhere else in it
pub record BeginsWith (a : ℕ) (w : Word) : Type 0 where
  pub rest : Word
  pub joins : w ≡ a ∷ rest
  pub once : Memᴰ a rest → ⊥

pub record ClosesWith (a : ℕ) (w : Word) : Type 0 where
  pub rest : Word
  pub joins : w ≡ snoc rest a
  pub once : Memᴰ a rest → ⊥

-- words of one length
pub one_length : (X : Words) (n : ℕ) → Each (λ w. length w ≡ n) X → NoneIs ProperSuffix X × NoneIs ProperPrefix X
one_length X n long = (
  λ i j k l s. s.proper (suffix_one s.suffix (suffix_whole (word X j)) (long i (omega arith) ∙ sym (long j l))),
  λ i j k l p. p.proper (whole (word X i) p.prefix.after p.prefix.joins (long i (omega arith) ∙ sym (long j l))),
)
  where
    whole : (v r : Word) {u : Word} → v ++ r ≡ u → length v ≡ length u → v ≡ u
    whole v [] e h = sym (append-nil v) ∙ e
    whole v (x ∷ r) e h = absurd (omega (arith, ap length e, length-append v (x ∷ r)))

-- a letter that begins every word, and stands nowhere else in one
pub first_mark : (X : Words) (a : ℕ) → Each (BeginsWith a) X → NoneIs ProperSuffix X
first_mark X a marked i j k l s = go s.suffix.before s.suffix.joins
  where
    one : BeginsWith a (word X i)
    one = marked i (omega arith)

    go : (p : Word) → p ++ word X i ≡ word X j → ⊥
    go [] e = s.proper e
    go (b ∷ p) e =
        let rest : p ++ word X i ≡ (marked j l).rest = tail-eq_of_cons-eq (e ∙ (marked j l).joins) in
        (marked j l).once (rw (← rest, one.joins) (Memᴰ.append_right p (Memᴰ.head refl)))

-- .. that ends every word
pub last_mark : (X : Words) (a : ℕ) → Each (ClosesWith a) X → NoneIs ProperPrefix X
last_mark X a marked i j k l p = go (snoc_view p.prefix.after) p.prefix.joins
  where
    one : ClosesWith a (word X i)
    one = marked i (omega arith)

    go : {r : Word} → Snoc r → word X i ++ r ≡ word X j → ⊥
    go nothing e = p.proper (sym (append-nil (word X i)) ∙ e)
    go (last r x) e =
        let rest : word X i ++ r ≡ (marked j l).rest
        = (snoc_inj (word X i ++ r) (marked j l).rest (append_assoc (word X i) r (x ∷ []) ∙ e ∙ (marked j l).joins)).0 in
        (marked j l).once (rw (← rest, one.joins) (Memᴰ.append_left r (Memᴰ.append_right one.rest (Memᴰ.head refl))))
