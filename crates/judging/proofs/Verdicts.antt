-- What the shared tests come to, test by test.
use mathlib.Core.Path.{◌≡◌, refl, sym, ap, ◌∙◌}
use mathlib.Core.Bool.{false}
use mathlib.Core.List.{List, [], ◌∷◌, cons≢nil}
use Prim.Native.Nat.{ℕ, zero, suc, ◌≤◌, ◌<◌}
use native.Mathlib.Omega.{arith}
use lib.ListN.{length}
use borrow.Author.Tests.{lt-ltb, le-ltb, le-leb, lt-leb}
use Rattle.meaning.specs.Numbers.{letter_values, longest_text}
use Rattle.meaning.specs.Words.{Word, Words}
use Rattle.meaning.specs.Plain.{Allowed}
use Rattle.letters.specs.Letters.{letter}
use Rattle.records.specs.Run.{Run, ran, refused}
use Rattle.records.proofs.Accepted.{accepted, allowed}
use Rattle.records.proofs.Determined.{RanAs}
use Rattle.automaton.specs.Building.{Accepted}
use Rattle.judging.specs.Under.{words_under}
use Rattle.judging.specs.Order.{◌and_then◌, text_refusal, room_refusal}
use Rattle.judging.specs.Judging.{passed, verdict}
use Rattle.letters.specs.Refusal.{number_of, at_start}
use Rattle.letters.specs.declared.refusal.Refusal.{Refusal}
use Rattle.letters.specs.declared.refusal.Reason.{Reason}
use Rattle.letters.proofs.Reasons.{some_number}
use lib.Dec.{eqb}
use Rattle.records.specs.Told.{refusal, answer, refusal_told}
use Rattle.records.proofs.Determined.{parts}
use Rattle.judging.proofs.Under.{under_ran}

-- the run that passes
pub record Passes (test : Words → ℕ) (run : Run) : Type 0 where
  pub X : Words
  pub end : ℕ
  pub is : run ≡ ran X end
  pub clear : test X ≡ 0

pub passes : (test : Words → ℕ) (run : Run) → answer (1 ∷ []) ≡ verdict test run → Passes test run
passes test (refused number place) e = absurd (cons≢nil (parts e).values)
passes test (ran X end) e = go (test X) refl e
  where
    go : (n : ℕ) → test X ≡ n → answer (1 ∷ []) ≡ passed n → Passes test (ran X end)
    go zero q f = record { X = X; end = end; is = refl; clear = q }
    go (suc n) q f = absurd (cons≢nil (parts f).values)

-- a test more: a refusal stays, and where there was none the new test decides
pub refused_before : (f g : Words → ℕ) (run : Run) {number place : ℕ} → refusal number place ≡ verdict f run
    → refusal number place ≡ verdict (λ X. f X and_then g X) run
refused_before f g (refused n p) e = e
refused_before f g (ran X end) {number} {place} e = go (f X) e
  where
    go : (n : ℕ) → refusal number place ≡ passed n → refusal number place ≡ passed (n and_then g X)
    go zero q = absurd (cons≢nil (sym (parts q).values))
    go (suc n) q = q

pub then_test : (f g : Words → ℕ) (run : Run) (p : Passes f run) {n : ℕ} → g p.X ≡ n → passed n ≡ verdict (λ X. f X and_then g X) run
then_test f g run p e =
    ap passed (sym e)
    ∙ ap (λ (k : ℕ). passed (k and_then g p.X)) (sym p.clear)
    ∙ ap (verdict (λ X. f X and_then g X)) (sym p.is)

-- a reason is told by its number, at place 0
pub passed_reason : (a : Reason) → passed (number_of a) ≡ refusal (number_of a) 0
passed_reason a = go (number_of a) (some_number a)
  where
    go : (n : ℕ) → eqb n 0 ≡ false → passed n ≡ refusal n 0
    go zero e = let z : ◌≡◌ {A = ℕ} 0 1 = cc in absurd (omega arith)
    go (suc n) e = refl

pub told_from : {a : Reason} {r : Refusal} → at_start a r → refusal_told r ≡ refusal (number_of a) 0
told_from e = ap refusal_told e

-- 9 and 10
module _ (t : Word) (ss cs : List ℕ) where
  abbrev sizes : ℕ
  sizes = text_refusal t and_then room_refusal t ss cs

  pub long_text : longest_text < length t → sizes ≡ 9
  long_text h = rw (lt-ltb _ _ h)

  pub short_states : length t ≤ longest_text → length ss ≤ length t → sizes ≡ 10
  short_states h l = rw (le-ltb longest_text (length t) h, le-leb (length ss) (length t) l)

  pub short_counts : length t ≤ longest_text → length t < length ss → length cs ≤ length t → sizes ≡ 10
  short_counts h k l = rw (le-ltb longest_text (length t) h, lt-leb (length ss) (length t) k, le-leb (length cs) (length t) l)

  pub sizes_fit : length t ≤ longest_text → length t < length ss → length t < length cs → sizes ≡ 0
  sizes_fit h k l = rw (le-ltb longest_text (length t) h, lt-leb (length ss) (length t) k, lt-leb (length cs) (length t) l)

-- an accepted dictionary, by what its check told
pub told_accepted : {m d : List ℕ} {words letters end : ℕ} → ((x : ℕ) → letter m x < letter_values)
    → (r : RanAs (words_under m d) words letters end) → Accepted r.X m d words
told_accepted {m} {d} {end = end} bytes r = record {
  allowed = allowed bytes (accepted false m d (under_ran m d r.is));
  end = end;
  runs = under_ran m d r.is;
  count = sym r.count;
}

pub passed_allowed : (m d : List ℕ) {test : Words → ℕ} → ((x : ℕ) → letter m x < letter_values) → (p : Passes test (words_under m d)) → Allowed p.X
passed_allowed m d bytes p = allowed bytes (accepted false m d (under_ran m d p.is))
