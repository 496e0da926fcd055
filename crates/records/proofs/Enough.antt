-- The numbers that bound the records read are large enough: with larger ones the definitions say the same.
use mathlib.Core.Path.{◌≡◌, refl}
use mathlib.Core.Bool.{Bool}
use mathlib.Core.List.{List, []}
use Prim.Native.Nat.{ℕ, zero, suc, ◌+◌, ◌≤◌, ◌<◌}
use native.Mathlib.Omega.{arith}
use lib.ListN.{length}
use Rattle.meaning.specs.Numbers.{most_words}
use Rattle.meaning.specs.Words.{Words, snoc}
use Rattle.meaning.proofs.Lists.{snoc-length}
use Rattle.letters.specs.Letters.{mapped}
use Rattle.letters.specs.Record.{word_at, block_at, text_at}
use Rattle.letters.specs.declared.record.Record.{Record}
use Rattle.letters.specs.declared.record.Record.TheVariants as word
use Rattle.letters.specs.declared.refusal.Reason.{Reason}
use Rattle.std.specs.Prelude.{Option, None, Some, Result, Ok, Err}
use Rattle.letters.proofs.Records.{FitsBlock, block_fits}
use Rattle.records.specs.Run.{record_after, Run, on_record, run_from, run}
use Rattle.records.specs.Book.{Blocks, on_block, blocks_from, blocks}
use Rattle.records.proofs.Run.{Joins, joins, Good, good_none, good_more}

module _ (in_book : Bool) (m b : List ℕ) (g : ℕ) where
  more_records : (f : ℕ) (X : Words) (at : ℕ) → length X + f ≡ suc most_words → Good m b X at
      → run_from in_book (mapped m) b (f + g) X at ≡ run_from in_book (mapped m) b f X at
  more_records zero X at l h = absurd (omega (arith, h.few))
  more_records (suc f) X at l h =
      let e : suc f + g ≡ suc (f + g) = omega arith in
      rw e (on
      (λ n j. more_records f _ _ (omega (arith, snoc-length X (word_at (mapped m) b at n))) (good_more m b X at n j h))
      (record_after (mapped m) b X at) refl)
    where
      more : ℕ → ℕ → Run
      more k n = run_from in_book (mapped m) b k (snoc X (word_at (mapped m) b at n)) (at + 3 + n)

      on : ((n : ℕ) → Joins m b X at n → more (f + g) n ≡ more f n) → (r : Result Record Reason) → record_after (mapped m) b X at ≡ r
          → on_record in_book X at (more (f + g)) r ≡ on_record in_book X at (more f) r
      on go (Ok word.End) j = refl
      on go (Ok word.Block) j = refl
      on go (Ok (word.Word n)) j = go n (joins m b X at n j)
      on go (Err reason) j = refl

  pub run_enough : run_from in_book (mapped m) b (suc most_words + g) [] 0 ≡ run in_book (mapped m) b
  unfolding run
  run_enough = more_records (suc most_words) [] 0 refl (good_none m b)

module _ (b : List ℕ) (g : ℕ) where
  more_blocks : (f : ℕ) (T : Words) (at : ℕ) → at ≤ length b → length b < at + f → blocks_from b (f + g) T at ≡ blocks_from b f T at
  more_blocks zero T at h l = absurd (omega arith)
  more_blocks (suc f) T at h l =
      let e : suc f + g ≡ suc (f + g) = omega arith in
      rw e (on (λ n j. more_blocks f (snoc T (text_at b at n)) (at + 4 + n) j.within (omega arith)) (block_at b at) refl)
    where
      more : ℕ → ℕ → Blocks
      more k n = blocks_from b k (snoc T (text_at b at n)) (at + 4 + n)

      on : ((n : ℕ) → FitsBlock b at n → more (f + g) n ≡ more f n) → (r : Result (Option ℕ) Reason) → block_at b at ≡ r
          → on_block T (more (f + g)) r ≡ on_block T (more f) r
      on go (Ok None) j = refl
      on go (Ok (Some n)) j = go n (block_fits j)
      on go (Err reason) j = refl

  pub blocks_enough : (start : ℕ) → start ≤ length b → blocks_from b (suc (length b) + g) [] start ≡ blocks b start
  unfolding blocks
  blocks_enough start h = more_blocks (suc (length b)) [] start h (omega arith)
