-- What first, next and jump tell and leave, by the reading that is to be written.
use mathlib.Core.Path.{◌≡◌, refl, sym, ap, ◌∙◌}
use mathlib.Core.Bool.{Bool, true, false}
use mathlib.Core.Option.{Option, none, some}
use mathlib.Core.List.{List, [], ◌∷◌, head?, Memᴰ}
use Prim.Native.Nat.{ℕ, zero, suc, ◌≤◌, ◌<◌}
use native.Mathlib.Decide.{dec_lt}
use native.Mathlib.Omega.{arith}
use borrow.Author.Tests.{ltb-false, lt-ltb, le-ltb}
use lib.Dec.{leb, ltb}
use lib.ListN.{length, get_or, get_elem?, take, length-append}
use Rattle.std.specs.Prelude.{if◌then◌else◌}
use Rattle.meaning.specs.Words.{Word, Words, Reading, word, joined}
use Rattle.meaning.specs.Table.{over}
use Rattle.meaning.specs.Readings.{readings, count_at}
use Rattle.meaning.specs.Listing.{is_reading, next_reading}
use Rattle.meaning.specs.Plain.{Dictionary, IsReading}
use Rattle.meaning.proofs.Lists.{none_at, some_at}
use Rattle.meaning.proofs.Readings.{readings_are}
use Rattle.meaning.proofs.Next.{next_of_reading}
use Rattle.records.specs.Run.{Run}
use Rattle.listing.specs.Answers.{Answers, answer, left}
use Rattle.std.specs.Prelude.{Option as Maybe, None, Some, Result, Ok, Err}
use Rattle.letters.specs.Refusal.{number_of as reason_number}
use Rattle.letters.specs.declared.refusal.Reason.{Reason}
use Rattle.letters.specs.declared.refusal.Reason.TheVariants.{ShortBuffer}
use Rattle.numbering.specs.Numbers.{Exact}
use Rattle.numbering.proofs.Stretches.{exact_count}
use Rattle.judging.specs.Order.{◌and_then◌, unread_refusal, is_given, fit_refusal, number_refusal}
use Rattle.orgamish.specs.Calls.{told_by, left_by, tells, leaves, length_of, listed}
use Rattle.judging.proofs.Verdicts.{Passes}
use Rattle.orgamish.proofs.Called.{Came, came_tells, came_leaves, then_comes}

-- the refusal's number, where having no reading is refused as k
abbrev pub Listed : Type 0
Listed = Result (Maybe ℕ) Reason

abbrev pub number_by : ℕ → Listed → ℕ
number_by k (Ok None) = k
number_by k (Ok (Some n)) = 0
number_by k (Err reason) = reason_number reason

abbrev pub values_by : Listed → List ℕ
values_by (Ok None) = 0 ∷ []
values_by (Ok (Some n)) = 1 ∷ n ∷ []
values_by (Err reason) = []

abbrev written : Bool → Reading → Listed
written q ws = if q then Ok (Some (length ws)) else Err ShortBuffer

fit_number : (k : ℕ) (ws : Reading) (b : List ℕ) → fit_refusal (some ws) b ≡ number_by k (answer (some ws) b)
fit_number k ws b = go (leb (length ws) (length b))
  where
    go : (q : Bool) → (if q then 0 else 14) ≡ number_by k (written q ws)
    go true = refl
    go false = refl

pub first_number : (o : Option Reading) (b : List ℕ) → unread_refusal o and_then fit_refusal o b ≡ number_by 12 (answer o b)
first_number none b = refl
first_number (some ws) b = fit_number 12 ws b

pub next_number : (o : Option Reading) (b : List ℕ) → fit_refusal o b ≡ number_by 0 (answer o b)
next_number none b = refl
next_number (some ws) b = fit_number 0 ws b

-- .. where the count is exact
pub jump_number : (X : Words) (t : Word) (n : ℕ) (b : List ℕ) → Exact X t (length t)
    → number_refusal X t n and_then fit_refusal (get_elem? (readings X t) n) b ≡ number_by 21 (answer (get_elem? (readings X t) n) b)
jump_number X t n b h = go (dec_lt n (length (readings X t)))
  where
    count : count_at X t (length t) ≡ length (readings X t)
    count = exact_count X t (length t) h

    go : Dec (n < length (readings X t))
        → number_refusal X t n and_then fit_refusal (get_elem? (readings X t) n) b ≡ number_by 21 (answer (get_elem? (readings X t) n) b)
    go (yes l) = rw (lt-ltb n (count_at X t (length t)) (omega (arith, count)), some_at (readings X t) n [] l) (fit_number 21 (get_or (readings X t) n []) b)
    go (no l) = rw (le-ltb n (count_at X t (length t)) (omega (arith, count)), (none_at (readings X t) n).1 (omega (arith, l)))

listing_told : (k : ℕ) (o : Option Reading) (b : List ℕ)
    → told_by (number_by k (answer o b)) (values_by (answer o b)) ≡ told_by (number_by k (answer o b)) (length_of o)
listing_told k none b = refl
listing_told k (some ws) b = go (leb (length ws) (length b))
  where
    go : (q : Bool) → let r = written q ws in
        told_by (number_by k r) (values_by r) ≡ told_by (number_by k r) (1 ∷ length ws ∷ [])
    go true = refl
    go false = refl

listing_left : (k : ℕ) (o : Option Reading) (b : List ℕ) → left o b ≡ left_by (number_by k (answer o b)) (listed o b) b
listing_left zero none b = refl
listing_left (suc k) none b = refl
listing_left k (some ws) b = go (leb (length ws) (length b))
  where
    go : (q : Bool) → (if q then over ws b else b)
        ≡ left_by (number_by k (written q ws)) (over ws b) b
    go true = refl
    go false = refl

-- the tests before pass, and the listing answers: what a call then tells and leaves
module _ (before rest : Words → ℕ) (chosen : Words → Option Reading) (b : List ℕ) {run : Run} (p : Passes before run) (k : ℕ)
    (comes : rest p.X ≡ number_by k (answer (chosen p.X) b)) {after : List ℕ} {r : Listed}
    (α : Answers (chosen p.X) b after r) where
  came : Came (λ X. before X and_then rest X) run p.X (number_by k (answer (chosen p.X) b))
  came = record { end = p.end; is = p.is; comes = then_comes (before p.X) (rest p.X) p.clear comes }

  pub answer_told : {q : Listed} → q ≡ r
      → told_by (number_by k q) (values_by q) ≡ tells (λ X. before X and_then rest X) (λ X. length_of (chosen X)) run
  answer_told e =
      ap (λ (q : Listed). told_by (number_by k q) (values_by q)) (e ∙ α.answers)
      ∙ listing_told k (chosen p.X) b
      ∙ came_tells came (λ X. length_of (chosen X))

  pub answer_left : after ≡ leaves (λ X. before X and_then rest X) (λ X. listed (chosen X) b) b run
  answer_left = α.buffer ∙ listing_left k (chosen p.X) b ∙ came_leaves came (λ X. listed (chosen X) b) b

-- the reading whose words were counted
pub answer_words : (o : Option Reading) (b : List ℕ) {n : ℕ} → Ok (Some n) ≡ answer o b → (ws : Reading) × (o ≡ some ws) × (n ≡ length ws)
answer_words none b e = let z : ◌≡◌ {A = ℕ} 0 1 = cc in absurd (omega arith)
answer_words (some ws) b {n} e = go (leb (length ws) (length b)) e
  where
    go : (q : Bool) → Ok (Some n) ≡ (written q ws)
        → (vs : Reading) × (some ws ≡ some vs) × (n ≡ length vs)
    go true f = (ws, refl, cc)
    go false f = let z : ◌≡◌ {A = ℕ} 0 1 = cc in absurd (omega arith)

-- no reading has more words than the text has letters
joined_long : (X : Words) → Dictionary X → (ns : Reading) → ((n : ℕ) → Memᴰ n ns → n < length X) → length ns ≤ length (joined X ns)
joined_long X D [] h = omega arith
joined_long X D (n ∷ ns) h =
    omega (
      arith,
      length-append (word X n) (joined X ns),
      D.nonempty n (h n (Memᴰ.head refl)),
      joined_long X D ns (λ m i. h m (Memᴰ.tail i)),
    )

pub reading_short : (X : Words) → Dictionary X → (t : Word) (ns : Reading) → IsReading X t ns → length ns ≤ length t
reading_short X D t ns r = omega (arith, joined_long X D ns r.below, ap length r.joins)

head_mem : {A : Type 0} (l : List A) (x : A) → head? l ≡ some x → Memᴰ x l
head_mem [] x e = let z : ◌≡◌ {A = ℕ} 0 1 = cc in absurd (omega arith)
head_mem (y ∷ l) x e = let q : x ≡ y = cc in Memᴰ.head q

elem_mem : {A : Type 0} (l : List A) (i : ℕ) (x : A) → get_elem? l i ≡ some x → Memᴰ x l
elem_mem [] i x e = let z : ◌≡◌ {A = ℕ} 0 1 = cc in absurd (omega arith)
elem_mem (y ∷ l) zero x e = let q : x ≡ y = cc in Memᴰ.head q
elem_mem (y ∷ l) (suc i) x e = Memᴰ.tail (elem_mem l i x e)

pub first_fits : (X : Words) → Dictionary X → (t : Word) (ws : Reading) → head? (readings X t) ≡ some ws → length ws ≤ length t
first_fits X D t ws e = reading_short X D t ws ((readings_are X D t ws).0 (head_mem (readings X t) ws e))

pub elem_fits : (X : Words) → Dictionary X → (t : Word) (n : ℕ) (ws : Reading) → get_elem? (readings X t) n ≡ some ws
    → length ws ≤ length t
elem_fits X D t n ws e = reading_short X D t ws ((readings_are X D t ws).0 (elem_mem (readings X t) n ws e))

pub next_fits : (X : Words) → Dictionary X → (t : Word) (ns ws : Reading) → IsReading X t ns → next_reading X t ns ≡ some ws
    → length ws ≤ length t
next_fits X D t ns ws r e =
    let (k, h, at, next) = next_of_reading X D t ns r in
    elem_fits X D t (suc k) ws (sym next ∙ e)

-- the given words, where they pass
pub given_reads : (X : Words) (t : Word) (b : List ℕ) (k : ℕ) → is_given X t b k ≡ true → (k ≤ length b) × (is_reading X t (take k b) ≡ true)
given_reads X t b k e = go (ltb (length b) k) refl e
  where
    go : (q : Bool) → ltb (length b) k ≡ q → (if q then false else is_reading X t (take k b)) ≡ true
        → (k ≤ length b) × (is_reading X t (take k b) ≡ true)
    go true p f = let z : ◌≡◌ {A = ℕ} 0 1 = cc in absurd (omega arith)
    go false p f = (ltb-false (length b) k p, f)
