-- Of two tests that refuse the earlier decides.
use mathlib.Core.Path.{◌≡◌}
use mathlib.Core.List.{List}
use Prim.Native.Nat.{ℕ, suc, ◌≤◌}
use borrow.Author.Tests.{eq-eqb}
use lib.ListN.{length}
use Rattle.meaning.specs.Numbers.{most_counted}
use Rattle.meaning.specs.Words.{Word, Words}
use Rattle.meaning.specs.Readings.{readings, count_at}
use Rattle.meaning.proofs.Counts.{count_greatest}
use Rattle.judging.specs.Order.{table_refusal, move_refusal, list_refusal, jump_refusal, place_refusal}

-- the input of a move before its destination
pub input_before : (T U input lent : List ℕ) {n : ℕ} → table_refusal T input ≡ suc n → move_refusal T U input lent ≡ suc n
input_before T U input lent e = rw e

-- 22 before 21, 14 and 13
module _ (X : Words) (tb : List ℕ) (t : Word) (ss cs : List ℕ) (lists : list_refusal X tb t ss cs ≡ 0) (h : most_counted ≤ length (readings X t)) where
  greatest : count_at X t (length t) ≡ most_counted
  greatest = (count_greatest X t (length t)).1 h

  pub greatest_before_number : (b : List ℕ) (n : ℕ) → jump_refusal X tb t ss cs b n ≡ 22
  greatest_before_number b n = rw (lists, eq-eqb _ _ greatest)

  pub greatest_before_words : (b : List ℕ) (k : ℕ) → place_refusal X tb t ss cs b k ≡ 22
  greatest_before_words b k = rw (lists, eq-eqb _ _ greatest)
