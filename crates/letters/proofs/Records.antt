-- What a record that is no refusal tells of the bytes.
use mathlib.Core.Path.{◌≡◌, refl, ap, sym, subst}
use mathlib.Core.Bool.{true, false, not}
use mathlib.Core.List.{List, [], ◌∷◌}
use Rattle.std.specs.Prelude.{Option, None, Some, Result, Ok, Err}
use Prim.Native.Nat.{ℕ, ◌+◌, ◌*◌, ◌≤◌, ◌<◌}
use native.Mathlib.Omega.{arith}
use lib.ListN.{length, get_or, length-take, length-drop}
use lib.Dec.{ltb, leb, eqb}
use borrow.Author.Tests.{leb-true, ltb-false, eqb-false, lt-leb, le-ltb, ne_eqb, not-false}
use Rattle.meaning.specs.Numbers.{longest_word, longest_text}
use Rattle.meaning.specs.Words.{same}
use Rattle.meaning.proofs.Find.{same_true, not_same}
use Rattle.letters.specs.Letters.{part, mapped}
use Rattle.letters.specs.Record.{word_mark, block_mark, marked, record_at, word_len, Measured, word_at, block_at}
use Rattle.letters.specs.declared.record.Record.{Record}
use Rattle.letters.specs.declared.record.Record.TheVariants.{End, Block, Word}
use Rattle.letters.specs.declared.refusal.Reason.{Reason}
use Rattle.letters.proofs.Cases.{picked}
use Rattle.letters.proofs.Bytes.{mapped-length}

-- no mark stands where fewer than two bytes are left
pub unmarked : (x y : ℕ) (b : List ℕ) (at : ℕ) → length b < at + 2 → marked (x ∷ y ∷ []) b at ≡ false
unmarked x y b at h =
    not_same (part b at 2) (x ∷ y ∷ []) (λ e. let l = ap length e in omega (arith, simp (length-take, length-drop) at l))

-- a word record: its mark, its length byte, and 1 to 64 letters, all within the bytes
pub record FitsWord (b : List ℕ) (at n : ℕ) : Type 0 where
  pub mark : part b at 2 ≡ word_mark
  pub size : get_or b (at + 2) 0 ≡ n
  pub nonempty : 0 < n
  pub short : n ≤ longest_word
  pub within : at + 3 + n ≤ length b

abbrev Word-fits : List ℕ → ℕ → Result Record Reason → Type 0
Word-fits b at (Ok End) = length b ≤ at
Word-fits b at (Ok Block) = Unit
Word-fits b at (Ok (Word n)) = FitsWord b at n
Word-fits b at (Err reason) = Unit

not_zero : (n : ℕ) → (n ≡ 0 → ⊥) → 0 < n
not_zero n h = omega (arith, h)

record_fits : (b : List ℕ) (at : ℕ) → Word-fits b at (record_at b at)
record_fits b at =
    let P = Word-fits b at in
    let n = get_or b (at + 2) 0 in
    picked P (leb (length b) at) (leb-true (length b) at)
    (λ e. picked P (marked block_mark b at) (λ e. tt)
    (λ e. picked P (not (marked word_mark b at)) (λ e. tt)
    (λ mark. picked P (ltb (length b) (at + 3)) (λ e. tt)
    (λ e. picked P (eqb n 0) (λ e. tt)
    (λ some. picked P (ltb longest_word n) (λ e. tt)
    (λ long. picked P (ltb (length b) (at + 3 + n)) (λ e. tt)
    (λ past. record {
      mark = same_true (part b at 2) word_mark (not-false _ mark);
      size = refl;
      nonempty = not_zero n (eqb-false n 0 some);
      short = ltb-false longest_word n long;
      within = ltb-false _ _ past;
    })))))))

pub word_fits : {b : List ℕ} {at n : ℕ} → record_at b at ≡ Ok (Word n) → FitsWord b at n
word_fits {b} {at} {n} e = subst (Word-fits b at) e (record_fits b at)

pub word_size : (m b : List ℕ) (at n : ℕ) → record_at b at ≡ Ok (Word n) → length (word_at (mapped m) b at n) ≡ n
word_size m b at n e = let f : FitsWord b at n = word_fits e in mapped-length m b (at + 3) n f.within

pub word_end : (b : List ℕ) (at : ℕ) → record_at b at ≡ Ok End → length b ≤ at
word_end b at e = subst (Word-fits b at) e (record_fits b at)

pub word_record_lem : {b : List ℕ} {at n : ℕ} → FitsWord b at n → record_at b at ≡ Ok (Word n)
word_record_lem {b} {at} {n} f =
    let h : at < length b = omega (arith, f.within) in
    let l : at + 3 ≤ length b = omega (arith, f.within) in
    let z : n ≡ 0 → ⊥ = λ e. absurd (omega (arith, f.nonempty)) in
    let block : marked block_mark b at ≡ false = ap (λ (u : List ℕ). same u block_mark) f.mark in
    let word : marked word_mark b at ≡ true = ap (λ (u : List ℕ). same u word_mark) f.mark in
    simp (lt-leb _ _ h, block, word, le-ltb _ _ l, f.size, ne_eqb _ _ z, le-ltb _ _ f.short, le-ltb _ _ f.within)

-- how many letters the record at an offset has, from what it is
pub measured : (b : List ℕ) (at : ℕ) (r : Result Record Reason) → r ≡ record_at b at → Measured b at (word_len r)
measured b at (Ok End) e = record { is = ap word_len e; short = omega arith; within = λ h. absurd (omega arith) }
measured b at (Ok Block) e = record { is = ap word_len e; short = omega arith; within = λ h. absurd (omega arith) }
measured b at (Ok (Word n)) e =
    let f : FitsWord b at n = word_fits (sym e) in
    record { is = ap word_len e; short = f.short; within = λ h. f.within }
measured b at (Err reason) e = record { is = ap word_len e; short = omega arith; within = λ h. absurd (omega arith) }

-- a block record's text has at most 4,096 letters, all within the bytes
pub record FitsBlock (b : List ℕ) (at n : ℕ) : Type 0 where
  pub short : n ≤ longest_text
  pub within : at + 4 + n ≤ length b

abbrev Block-fits : List ℕ → ℕ → Result (Option ℕ) Reason → Type 0
Block-fits b at (Ok None) = Unit
Block-fits b at (Ok (Some n)) = FitsBlock b at n
Block-fits b at (Err reason) = Unit

block_record_fits : (b : List ℕ) (at : ℕ) → Block-fits b at (block_at b at)
block_record_fits b at =
    let P = Block-fits b at in
    let n = get_or b (at + 2) 0 + 256 * get_or b (at + 3) 0 in
    picked P (leb (length b) at) (λ e. tt)
    (λ e. picked P (not (marked block_mark b at)) (λ e. tt)
    (λ e. picked P (ltb (length b) (at + 4)) (λ e. tt)
    (λ e. picked P (ltb longest_text n) (λ e. tt)
    (λ long. picked P (ltb (length b) (at + 4 + n)) (λ e. tt)
    (λ past. record { short = ltb-false longest_text n long; within = ltb-false _ _ past })))))

pub block_fits : {b : List ℕ} {at n : ℕ} → block_at b at ≡ Ok (Some n) → FitsBlock b at n
block_fits {b} {at} {n} e = subst (Block-fits b at) e (block_record_fits b at)
