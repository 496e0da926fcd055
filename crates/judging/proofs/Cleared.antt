-- What is known where no test refuses.
use mathlib.Core.Path.{◌≡◌, refl, ◌∙◌}
use mathlib.Core.Bool.{Bool, true, false}
use mathlib.Core.List.{List}
use Prim.Native.Nat.{ℕ, zero, suc, ◌≤◌}
use native.Mathlib.Omega.{arith}
use lib.Dec.{eqb, leb, ltb}
use lib.ListN.{length, take}
use borrow.Author.Tests.{eqb-false, ltb-false, leb-false}
use Rattle.meaning.specs.Numbers.{longest_text, most_counted}
use Rattle.std.specs.Prelude.{if◌then◌else◌}
use Rattle.meaning.specs.Words.{Word, Words, same}
use Rattle.meaning.specs.Table.{table}
use Rattle.meaning.specs.Readings.{count_at, state_column, count_column}
use Rattle.meaning.specs.Plain.{Allowed}
use Rattle.meaning.proofs.Find.{same_true}
use Rattle.automaton.specs.Lending.{too_short}
use Rattle.tree.specs.Tree.{IsTable}
use Rattle.std.specs.Prelude.{Ok, Err}
use Rattle.letters.specs.declared.refusal.Reason.TheVariants.{ShortTable, OtherTable}
use Rattle.columns.specs.Columns.{Columns, Scanned}
use Rattle.columns.specs.Scans.{Room, are_columns}
use Rattle.numbering.specs.Numbers.{Exact, Exactly}
use Rattle.judging.specs.Order.{◌and_then◌, rows_number, table_refusal, text_refusal, room_refusal, columns_refusal, scan_refusal, list_refusal, greatest_refusal, counted_refusal}

pub none_first : (m n : ℕ) → m and_then n ≡ 0 → m ≡ 0
none_first zero n e = refl
none_first (suc m) n e = absurd (omega arith)

pub none_second : (m n : ℕ) → m and_then n ≡ 0 → n ≡ 0
none_second zero n e = e
none_second (suc m) n e = absurd (omega arith)

-- a test that refuses where it holds, and one that refuses where it doesn't
pub test_false : (b : Bool) (m n : ℕ) → (if b then suc m else n) ≡ 0 → b ≡ false
test_false true m n e = absurd (omega arith)
test_false false m n e = refl

pub test_true : (b : Bool) (m : ℕ) → (if b then 0 else suc m) ≡ 0 → b ≡ true
test_true true m e = refl
test_true false m e = absurd (omega arith)

rest : (b : Bool) (m n : ℕ) → (if b then suc m else n) ≡ 0 → n ≡ 0
rest true m n e = absurd (omega arith)
rest false m n e = e

rows_same : (b c : Bool) → rows_number (if b then Err ShortTable else if c then Ok tt else Err OtherTable) ≡ 0 → c ≡ true
rows_same true c e = absurd (omega arith)
rows_same false true e = refl
rows_same false false e = absurd (omega arith)

rows_fit : (b c : Bool) → rows_number (if b then Err ShortTable else if c then Ok tt else Err OtherTable) ≡ 0 → b ≡ false
rows_fit true c e = absurd (omega arith)
rows_fit false c e = refl

-- a lent table that should be T begins with it
module _ (T lent : List ℕ) (e : table_refusal T lent ≡ 0) where
  pub begins_with : take (length T) lent ≡ T
  begins_with = same_true _ _ (rows_same (too_short T lent) (same (take (length T) lent) T) e)

  pub long_enough : length T ≤ length lent
  long_enough = ltb-false (length lent) (length T) (rows_fit (too_short T lent) (same (take (length T) lent) T) e)

pub table_right : {X : Words} {tb : List ℕ} → Allowed X → table_refusal (table X) tb ≡ 0 → IsTable X tb
table_right {X} {tb} α e = record { allowed = α; rows = begins_with (table X) tb e }

sizes_clear : (X : Words) (tb : List ℕ) (t : Word) (ss cs : List ℕ) → scan_refusal X tb t ss cs ≡ 0 → text_refusal t and_then room_refusal t ss cs ≡ 0
sizes_clear X tb t ss cs e = none_second (table_refusal (table X) tb) (text_refusal t and_then room_refusal t ss cs) e

pub short_text : (X : Words) (tb : List ℕ) (t : Word) (ss cs : List ℕ) → list_refusal X tb t ss cs ≡ 0 → length t ≤ longest_text
short_text X tb t ss cs e =
    let scans = none_first (scan_refusal X tb t ss cs) (columns_refusal X t ss cs) e in
    ltb-false longest_text (length t)
    (test_false (ltb longest_text (length t)) 8 0
    (none_first (text_refusal t) (room_refusal t ss cs) (sizes_clear X tb t ss cs scans)))

module _ {X : Words} {tb : List ℕ} {t : Word} {ss cs : List ℕ} (α : Allowed X) where
  pub room : scan_refusal X tb t ss cs ≡ 0 → Room X t tb ss cs
  room e =
      let sizes = sizes_clear X tb t ss cs e in
      let fits = none_second (text_refusal t) (room_refusal t ss cs) sizes in
      let counted : ℕ = if leb (length cs) (length t) then 10 else 0 in
      record {
        table = table_right α (none_first (table_refusal (table X) tb) (text_refusal t and_then room_refusal t ss cs) e);
        short = ltb-false longest_text (length t) (test_false (ltb longest_text (length t)) 8 0 (none_first (text_refusal t) (room_refusal t ss cs) sizes));
        states = leb-false (length ss) (length t) (test_false (leb (length ss) (length t)) 9 counted fits);
        counts = leb-false (length cs) (length t) (test_false (leb (length cs) (length t)) 9 0 (rest (leb (length ss) (length t)) 9 counted fits));
      }

  pub scanned : list_refusal X tb t ss cs ≡ 0 → Scanned X t tb ss cs
  scanned e = record {
    table = (room (none_first (scan_refusal X tb t ss cs) (columns_refusal X t ss cs) e)).table;
    columns = both (same (take (suc (length t)) ss) (state_column X t)) (same (take (suc (length t)) cs) (count_column X t)) refl refl
        (test_true (are_columns X t ss cs) 10 (none_second (scan_refusal X tb t ss cs) (columns_refusal X t ss cs) e));
  }
    where
      both : (b c : Bool) → same (take (suc (length t)) ss) (state_column X t) ≡ b → same (take (suc (length t)) cs) (count_column X t) ≡ c
          → (if b then c else false) ≡ true → Columns X t ss cs
      both true c p q f = record { states = same_true _ _ p; counts = same_true _ _ (q ∙ f) }
      both false c p q f = let z : ◌≡◌ {A = ℕ} 0 1 = cc in absurd (omega arith)

-- the count at the end too
module _ (X : Words) (tb : List ℕ) (t : Word) (ss cs : List ℕ) (e : counted_refusal X tb t ss cs ≡ 0) where
  pub counted_lists : list_refusal X tb t ss cs ≡ 0
  counted_lists = none_first (list_refusal X tb t ss cs) (greatest_refusal X t) e

  pub counted_below : eqb (count_at X t (length t)) most_counted ≡ false
  counted_below =
      test_false (eqb (count_at X t (length t)) most_counted) 21 0 (none_second (list_refusal X tb t ss cs) (greatest_refusal X t) e)

  -- one that isn't the greatest is exact
  pub counted_exact : Exact X t (length t)
  counted_exact = omega (arith, eqb-false (count_at X t (length t)) most_counted counted_below)

  pub exactly : Allowed X → {m : ℕ} → m ≡ length t → Exactly X t tb ss cs m
  exactly α long = record { whole = record { scanned = scanned α counted_lists; long = long }; exact = counted_exact }
