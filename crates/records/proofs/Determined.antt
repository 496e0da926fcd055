-- What is told decides the answer: answers that tell the same are the same, and a run or a book is known by what it tells.
use mathlib.Core.Path.{◌≡◌, refl, sym, ap, ◌∙◌}
use mathlib.Core.List.{List, [], ◌∷◌}
use native.Mathlib.Omega.{arith}
use Prim.Native.Nat.{ℕ}
use lib.Dec.{eqb}
use lib.ListN.{length, get_or}
use Rattle.std.specs.Prelude.{Option, None, Some, Result, Ok, Err, if◌then◌else◌}
use Rattle.meaning.specs.Words.{Words, total}
use Rattle.letters.specs.declared.refusal.Reason.{Reason}
use Rattle.letters.specs.declared.refusal.Refusal.{Refusal}
use Rattle.letters.proofs.Reasons.{of_number, reason_is, some_number}
use Rattle.records.specs.Run.{Run, ran, refused}
use Rattle.records.specs.Book.{Opened, opened, shut}
use Rattle.records.specs.Told.{Told, refusal, answer, refusal_told, block_told, dictionary_told, run_tells, book_told, book_tells}
use Rattle.records.specs.declared.dictionary.Dictionary.{Dictionary}
use Rattle.records.specs.declared.book.Book.{Book}

-- what is told, part by part
pub record Same (s t : Told) : Type 0 where
  pub number : s.number ≡ t.number
  pub place : s.place ≡ t.place
  pub values : s.values ≡ t.values

pub parts : {s t : Told} → s ≡ t → Same s t
parts e = record {
  number = ap (λ (t : Told). t.number) e;
  place = ap (λ (t : Told). t.place) e;
  values = ap (λ (t : Told). t.values) e;
}

-- the answer that tells this, where what f makes of the values is what is answered
abbrev back : {A : Type 0} → (List ℕ → A) → Told → Result A Refusal
back f t = if eqb t.number 0 then Ok (f t.values) else Err (record { reason = of_number t.number; place = t.place })

refusal_back : {A : Type 0} (f : List ℕ → A) (r : Refusal) → back f (refusal_told r) ≡ Err r
refusal_back f r = rw (some_number r.reason, reason_is r.reason) refl

-- so answers are told apart by what they tell, if their values are
pub told_apart : {A : Type 0} (told : Result A Refusal → Told) (f : List ℕ → A) → ((x : A) → back f (told (Ok x)) ≡ Ok x)
    → ((r : Refusal) → told (Err r) ≡ refusal_told r) → (r s : Result A Refusal) → told r ≡ told s → r ≡ s
told_apart {A = A} told f values refusals r s e = sym (again r) ∙ ap (back f) e ∙ again s
  where
    again : (q : Result A Refusal) → back f (told q) ≡ q
    again (Ok x) = values x
    again (Err r) = ap (back f) (refusals r) ∙ refusal_back f r

pub dictionary_determined : (r s : Result Dictionary Refusal) → dictionary_told r ≡ dictionary_told s → r ≡ s
dictionary_determined =
    told_apart dictionary_told
    (λ v. record { words = get_or v 0 0; letters = get_or v 1 0; end = get_or v 2 0 })
    (λ d. refl)
    (λ r. refl)

pub book_determined : (r s : Result Book Refusal) → book_told r ≡ book_told s → r ≡ s
book_determined =
    told_apart book_told (λ v. record { words = get_or v 0 0; blocks = get_or v 1 0; start = get_or v 2 0 }) (λ b. refl) (λ r. refl)

-- the record that tells this: none or one, and its text's length
abbrev block_back : Told → Result (Option ℕ) Reason
block_back t =
    if eqb t.number 0 then Ok (if eqb (get_or t.values 0 0) 0 then None else Some (get_or t.values 1 0)) else Err (of_number t.number)

block_is : (r : Result (Option ℕ) Reason) → block_back (block_told r) ≡ r
block_is (Ok None) = refl
block_is (Ok (Some n)) = refl
block_is (Err reason) = rw (some_number reason, reason_is reason) refl

pub block_determined : (r s : Result (Option ℕ) Reason) → block_told r ≡ block_told s → r ≡ s
block_determined r s e = sym (block_is r) ∙ ap block_back e ∙ block_is s

-- a run, and a book, by what they tell
pub record RanAs (r : Run) (words letters end : ℕ) : Type 0 where
  pub X : Words
  pub is : r ≡ ran X end
  pub count : length X ≡ words
  pub sum : total X ≡ letters

pub told_ran : (r : Run) {words letters end : ℕ} → answer (words ∷ letters ∷ end ∷ []) ≡ run_tells r → RanAs r words letters end
told_ran (ran X at) e = let q = parts e in record { X = X; is = cc; count = cc; sum = cc }
told_ran (refused number place) e = let q = parts e in let z : ◌≡◌ {A = ℕ} 0 1 = cc in absurd (omega arith)

pub told_refused : (r : Run) {number place : ℕ} → refusal number place ≡ run_tells r → r ≡ refused number place
told_refused (ran X at) e = let q = parts e in cc
told_refused (refused number place) e = let q = parts e in cc

pub record OpenedAs (o : Opened) (words number start : ℕ) : Type 0 where
  pub X : Words
  pub T : Words
  pub is : o ≡ opened X start T
  pub count : length X ≡ words
  pub blocks : length T ≡ number

pub told_opened : (o : Opened) {words number start : ℕ} → answer (words ∷ number ∷ start ∷ []) ≡ book_tells o
    → OpenedAs o words number start
told_opened (opened X at T) e = let q = parts e in record { X = X; T = T; is = cc; count = cc; blocks = cc }
told_opened (shut number place) e = let q = parts e in let z : ◌≡◌ {A = ℕ} 0 1 = cc in absurd (omega arith)

pub told_shut : (o : Opened) {number place : ℕ} → refusal number place ≡ book_tells o → o ≡ shut number place
told_shut (opened X at T) e = let q = parts e in cc
told_shut (shut number place) e = let q = parts e in cc
