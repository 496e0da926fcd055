-- The walk over a run of word records, from record to record.
use mathlib.Core.Path.{◌≡◌, refl, ap, sym, ◌∙◌}
use mathlib.Core.Bool.{Bool}
use mathlib.Core.List.{List, [], ◌∷◌}
use Rattle.std.specs.Prelude.{Result, Ok}
use Rattle.letters.specs.declared.refusal.Reason.{Reason}
use Prim.Native.Nat.{ℕ, zero, suc, ◌+◌, ◌*◌, ◌-◌, ◌<◌}
use native.Mathlib.Omega.{arith}
use lib.ListN.{length}
use borrow.Author.Tests.{eq-eqb, ne_eqb}
use Rattle.meaning.specs.Numbers.{most_words}
use Rattle.meaning.specs.Words.{Words, snoc, total}
use Rattle.meaning.proofs.Lists.{snoc-length}
use Rattle.meaning.proofs.States.{total-append}
use Rattle.letters.specs.Letters.{mapped}
use Rattle.letters.specs.Record.{record_at, word_len, word_at}
use Rattle.letters.specs.declared.record.Record.{Record}
use Rattle.letters.specs.declared.record.Record.TheVariants.{Word}
use Rattle.letters.proofs.Records.{word_size}
use Rattle.records.specs.declared.repeats.Index.{Index}
use Rattle.records.specs.Run.{record_after, Run, ran, refused, on_record, run_from, run, past_words}
use Rattle.records.specs.Classes.{Indexed, Known, ReadAfter}
use Rattle.records.specs.Told.{answer, refusal, run_tells}
use Rattle.records.proofs.Run.{stands_end, Joins, joins, Good, good_none, good_more}

-- the walk has come to an offset, past so many words with so many letters, which the index has
pub record Walking (in_book : Bool) (m b : List ℕ) (index : Index) (words letters at : ℕ) : Type 0 where
  pub X : Words
  pub good : Good m b X at
  pub count : length X ≡ words
  pub sum : total X ≡ letters
  pub indexed : Indexed m b index X
  pub goes : run in_book (mapped m) b ≡ run_from in_book (mapped m) b (suc most_words - words) X at

pub starts : (in_book : Bool) (m b : List ℕ) {index : Index} → Indexed m b index [] → Walking in_book m b index 0 0 0
unfolding run
starts in_book m b ι = record { X = []; good = good_none m b; count = refl; sum = refl; indexed = ι; goes = refl }

module _ {in_book : Bool} {m b : List ℕ} {index : Index} {words letters at : ℕ} (w : Walking in_book m b index words letters at) where
  pub known : Known m b index at words letters w.X
  known = record {
    before = record { stands = w.good.stands; count = w.count; sum = w.sum };
    small = w.good.small;
    indexed = w.indexed;
  }

  pub offset : at ≡ 3 * words + letters
  offset = omega (arith, stands_end w.good.stands, w.count, w.sum)

  pub more : ℕ → Run
  more n = run_from in_book (mapped m) b (most_words - words) (snoc w.X (word_at (mapped m) b at n)) (at + 3 + n)

  -- what the run comes to, by the record here
  comes : (r : Result Record Reason) → r ≡ record_after (mapped m) b w.X at → run in_book (mapped m) b ≡ on_record in_book w.X at more r
  unfolding more
  comes r e =
      let f : suc most_words - words ≡ suc (most_words - words) = omega (arith, w.good.few, w.count) in
      w.goes ∙ ap (λ (k : ℕ). run_from in_book (mapped m) b k w.X at) f ∙ ap (on_record in_book w.X at more) (sym e)

  -- the record here ends the walk
  pub ended : {r : Result Record Reason} → r ≡ record_after (mapped m) b w.X at
      → on_record in_book w.X at more r ≡ ran w.X at
      → answer (words ∷ letters ∷ at ∷ []) ≡ run_tells (run in_book (mapped m) b)
  ended {r} e q = rw (comes r e, q, w.count, w.sum)

  pub stopped : {r : Result Record Reason} {number : ℕ} → r ≡ record_after (mapped m) b w.X at
      → on_record in_book w.X at more r ≡ refused number (length w.X)
      → refusal number words ≡ run_tells (run in_book (mapped m) b)
  stopped {r} e q = rw (comes r e, q, w.count)

  -- the record here is a word, which joins the index
  pub next : {index' : Index} (n : ℕ) → Ok (Word n) ≡ record_after (mapped m) b w.X at
      → Indexed m b index' (snoc w.X (word_at (mapped m) b at n))
      → Walking in_book m b index' (words + 1) (letters + n) (at + 3 + n)
  unfolding more
  next n e ι =
      let j : Joins m b w.X at n = joins m b w.X at n (sym e) in
      let v = word_at (mapped m) b at n in
      let fuel : most_words - words ≡ suc most_words - (words + 1) = omega arith in
      record {
        X = snoc w.X v;
        good = good_more m b w.X at n j w.good;
        count = omega (arith, snoc-length w.X v, w.count);
        sum = omega (arith, total-append w.X (v ∷ []), word_size m b at n j.stands, w.sum);
        indexed = ι;
        goes = comes (Ok (Word n)) e ∙ ap (λ (k : ℕ). run_from in_book (mapped m) b k (snoc w.X v) (at + 3 + n)) fuel;
      }

  pub read_word : {index' : Index} {r : Result Record Reason} (n : ℕ) → ReadAfter m b index' at w.X r → r ≡ Ok (Word n)
      → Walking in_book m b index' (words + 1) (letters + n) (at + 3 + n)
  read_word n a e = next n (sym e ∙ a.is) (a.indexed n e)

-- past the record at an offset: nothing where it is no word, else its bytes
pub past_stop : (b : List ℕ) (k at : ℕ) → 0 < k → word_len (record_at b at) ≡ 0 → past_words b k at ≡ at
past_stop b zero at h e = refl
past_stop b (suc k) at h e = rw (eq-eqb _ _ e)

pub past_next : (b : List ℕ) (k at n : ℕ) → 0 < k → n ≡ word_len (record_at b at) → (n ≡ 0 → ⊥)
    → past_words b k at ≡ past_words b (k - 1) (at + 3 + n)
past_next b zero at n h e d = absurd (omega arith)
past_next b (suc k) at n h e d = let f : suc k - 1 ≡ k = omega arith in rw (f, ← e, ne_eqb _ _ d)
