-- What holds of a book that is not refused, and what its parts tell.
use mathlib.Core.Path.{◌≡◌, refl, ap, sym, ◌∙◌, subst}
use mathlib.Core.Bool.{true}
use mathlib.Core.List.{List}
use Prim.Native.Nat.{ℕ, ◌≤◌}
use lib.ListN.{length}
use lib.Dec.{ltb}
use borrow.Author.Tests.{ltb-false}
use Rattle.meaning.specs.Numbers.{longest_book}
use Rattle.meaning.specs.Words.{Words}
use Rattle.letters.specs.Letters.{mapped}
use Rattle.letters.proofs.Cases.{picked}
use Rattle.records.specs.Run.{Run, ran, refused, run, book_words}
use Rattle.records.specs.Book.{Blocks, texts, bad, blocks, Opened, opened, shut, with_words, with_blocks, book}
use Rattle.records.specs.Told.{blocks_tell, book_tells}
use Rattle.records.proofs.Determined.{RanAs}
use Rattle.records.proofs.Run.{Good, Ends, run_ended}

-- the words of a book
pub record GoodWords (m b : List ℕ) (X : Words) (at : ℕ) : Type 0 where
  pub size : length b ≤ longest_book
  pub runs : run true (mapped m) b ≡ ran X at
  pub good : Good m b X at

abbrev Good-words : List ℕ → List ℕ → Run → Type 0
Good-words m b (ran X at) = GoodWords m b X at
Good-words m b (refused number place) = Unit

words_good : (m b : List ℕ) → Good-words m b (book_words m b)
words_good m b =
    picked (Good-words m b) (ltb longest_book (length b)) (λ e. tt) (λ e. on (ltb-false _ _ e) (run true (mapped m) b) refl (run_ended m b true))
  where
    on : length b ≤ longest_book → (r : Run) → run true (mapped m) b ≡ r → Ends m b true r → Good-words m b r
    on h (ran X at) e d = record { size = h; runs = e; good = d.good }
    on h (refused number place) e d = tt

pub words_accepted : (m b : List ℕ) {X : Words} {at : ℕ} → book_words m b ≡ ran X at → GoodWords m b X at
words_accepted m b e = subst (Good-words m b) e (words_good m b)

-- its words and blocks
pub record GoodBook (m b : List ℕ) (X : Words) (at : ℕ) (T : Words) : Type 0 where
  pub words : GoodWords m b X at
  pub are : blocks b at ≡ texts T

abbrev Good-book : List ℕ → List ℕ → Opened → Type 0
Good-book m b (opened X at T) = GoodBook m b X at T
Good-book m b (shut number place) = Unit

book_good : (m b : List ℕ) → Good-book m b (book m b)
book_good m b = on (book_words m b) (words_good m b)
  where
    with_words_lem : (X : Words) (at : ℕ) → GoodWords m b X at → (B : Blocks) → blocks b at ≡ B
        → Good-book m b (with_words X at B)
    with_words_lem X at g (texts T) e = record { words = g; are = e }
    with_words_lem X at g (bad number n) e = tt

    on : (r : Run) → Good-words m b r → Good-book m b (with_blocks b r)
    on (ran X at) g = with_words_lem X at g (blocks b at) refl
    on (refused number place) g = tt

pub book_accepted : (m b : List ℕ) {X T : Words} {at : ℕ} → book m b ≡ opened X at T → GoodBook m b X at T
book_accepted m b e = subst (Good-book m b) e (book_good m b)

-- what a book tells, from its words and its blocks
pub blocks_tell_lem : (b : List ℕ) {r : Run} {words letters at : ℕ} → RanAs r words letters at
    → blocks_tell words at (blocks b at) ≡ book_tells (with_blocks b r)
blocks_tell_lem b {r} {words} {letters} {at} d =
    rw (← d.count) (by_blocks d.X at (blocks b at) ∙ ap (λ (q : Run). book_tells (with_blocks b q)) (sym d.is))
  where
    by_blocks : (X : Words) (at : ℕ) (B : Blocks) → blocks_tell (length X) at B ≡ book_tells (with_words X at B)
    by_blocks X at (texts T) = refl
    by_blocks X at (bad number n) = refl
