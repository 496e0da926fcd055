-- What a call tells and leaves, by the tests that were made.
use mathlib.Core.Path.{◌≡◌, refl, sym, ap, ◌∙◌}
use mathlib.Core.Bool.{Bool, true, false}
use mathlib.Core.List.{List, ◌∷◌, cons≢nil}
use Prim.Native.Nat.{ℕ, zero, suc, ◌≤◌}
use native.Mathlib.Omega.{arith}
use lib.Dec.{ltb, eqb}
use Rattle.letters.specs.Refusal.{number_of}
use Rattle.letters.proofs.Reasons.{some_number}
use lib.ListN.{length}
use borrow.Author.Tests.{lt-ltb, le-ltb}
use Rattle.meaning.specs.Numbers.{longest_word}
use Rattle.std.specs.Prelude.{if◌then◌else◌, Result, Ok, Err}
use Rattle.meaning.specs.Words.{Word, Words, word}
use Rattle.meaning.specs.Automaton.{states, longest_chain}
use Rattle.meaning.specs.Readings.{accepted, count_at}
use Rattle.meaning.specs.Plain.{Allowed}
use Rattle.meaning.proofs.States.{allowed_bounded}
use Rattle.meaning.proofs.Chains.{chain_length, r_attained}
use Rattle.meaning.proofs.Counts.{count_readable, count_unreadable}
use Rattle.records.specs.Run.{Run, ran, refused}
use Rattle.records.specs.Told.{Told, refusal, answer}
use Rattle.automaton.specs.Lending.{too_short, wrote}
use Rattle.automaton.specs.declared.building.Built.{Built}
use Rattle.letters.specs.declared.refusal.Reason.{Reason}
use Rattle.letters.specs.declared.refusal.Reason.TheVariants.{ShortTable}
use Rattle.std.specs.Prelude.{Ok, Err}
use Rattle.records.proofs.Determined.{parts}
use Rattle.judging.specs.Order.{◌and_then◌}
use Rattle.judging.specs.Judging.{passed, verdict}
use Rattle.orgamish.specs.Calls.{told_by, left_by, tells, leaves}
use Rattle.judging.proofs.Verdicts.{Passes}

-- the dictionary is that of X, and the tests come to n
pub record Came (test : Words → ℕ) (run : Run) (X : Words) (n : ℕ) : Type 0 where
  pub end : ℕ
  pub is : run ≡ ran X end
  pub comes : test X ≡ n

module _ {test : Words → ℕ} {run : Run} {X : Words} {n : ℕ} (κ : Came test run X n) where
  pub came_tells : (values : Words → List ℕ) → told_by n (values X) ≡ tells test values run
  came_tells values = ap (λ (k : ℕ). told_by k (values X)) (sym κ.comes) ∙ ap (tells test values) (sym κ.is)

  pub came_leaves : (after : Words → List ℕ) (before : List ℕ) → left_by n (after X) before ≡ leaves test after before run
  came_leaves after before =
      ap (λ (k : ℕ). left_by k (after X) before) (sym κ.comes) ∙ ap (leaves test after before) (sym κ.is)

-- two errors that are the same are told alike
pub told_alike : {A : Type 0} {a b : Reason} → ◌≡◌ {A = Result A Reason} (Err a) (Err b) → refusal (number_of a) 0 ≡ refusal (number_of b) 0
told_alike {A} {a} e = ap told e
  where
    told : Result A Reason → Told
    told (Ok x) = refusal (number_of a) 0
    told (Err r) = refusal (number_of r) 0

-- a reason is told by its number, at place 0
pub told_reason : (a : Reason) (values : List ℕ) → told_by (number_of a) values ≡ refusal (number_of a) 0
told_reason a values = go (number_of a) (some_number a)
  where
    go : (n : ℕ) → eqb n 0 ≡ false → told_by n values ≡ refusal n 0
    go zero e = let z : ◌≡◌ {A = ℕ} 0 1 = cc in absurd (omega arith)
    go (suc n) e = refl

-- an answer whose number is 0 is no refusal
pub tells_clear : (test : Words → ℕ) (values : Words → List ℕ) {run : Run} {X : Words} {end : ℕ} → run ≡ ran X end
    → (tells test values run).number ≡ 0 → test X ≡ 0
tells_clear test values {X = X} is e = go (test X) (ap (λ (r : Run). (tells test values r).number) (sym is) ∙ e)
  where
    go : (n : ℕ) → (told_by n (values X)).number ≡ 0 → n ≡ 0
    go zero f = refl
    go (suc n) f = absurd (omega arith)

-- .. nor is one that tells values
pub tells_answer : (test : Words → ℕ) (values : Words → List ℕ) {run : Run} {X : Words} {end v : ℕ} {vs : List ℕ} → run ≡ ran X end
    → tells test values run ≡ answer (v ∷ vs) → (test X ≡ 0) × (values X ≡ v ∷ vs)
tells_answer test values {run} {X} {end} {v} {vs} is e = go (test X) refl (ap (tells test values) (sym is) ∙ e)
  where
    go : (n : ℕ) → test X ≡ n → told_by n (values X) ≡ answer (v ∷ vs) → (test X ≡ 0) × (values X ≡ v ∷ vs)
    go zero q f = (q, ap (λ (t : Told). t.values) f)
    go (suc n) q f = absurd (omega (arith, ap (λ (t : Told). length t.values) f))

-- the shared tests refuse
module _ (test : Words → ℕ) where
  pub tells_refused : (values : Words → List ℕ) (run : Run) {number place : ℕ} → refusal number place ≡ verdict test run
      → refusal number place ≡ tells test values run
  tells_refused values (refused n p) e = e
  tells_refused values (ran X end) {number} {place} e = go (test X) e
    where
      go : (k : ℕ) → refusal number place ≡ passed k → refusal number place ≡ told_by k (values X)
      go zero q = absurd (cons≢nil (sym (parts q).values))
      go (suc k) q = q

  pub leaves_refused : (after : Words → List ℕ) (before : List ℕ) (run : Run) {number place : ℕ} → refusal number place ≡ verdict test run
      → before ≡ leaves test after before run
  leaves_refused after before (refused n p) e = refl
  leaves_refused after before (ran X end) {number} {place} e = go (test X) e
    where
      go : (k : ℕ) → refusal number place ≡ passed k → before ≡ left_by k (after X) before
      go zero q = absurd (cons≢nil (sym (parts q).values))
      go (suc k) q = refl

-- the first tests pass, and so others decide
module _ (f g : Words → ℕ) (run : Run) (p : Passes f run) where
  pub then_tells : (values : Words → List ℕ) → tells g values run ≡ tells (λ X. f X and_then g X) values run
  then_tells values =
      ap (tells g values) p.is
      ∙ ap (λ (k : ℕ). told_by (k and_then g p.X) (values p.X)) (sym p.clear)
      ∙ ap (tells (λ X. f X and_then g X) values) (sym p.is)

  pub then_leaves : (after : Words → List ℕ) (before : List ℕ) → leaves g after before run ≡ leaves (λ X. f X and_then g X) after before run
  then_leaves after before =
      ap (leaves g after before) p.is
      ∙ ap (λ (k : ℕ). left_by (k and_then g p.X) (after p.X) before) (sym p.clear)
      ∙ ap (leaves (λ X. f X and_then g X) after before) (sym p.is)

pub then_comes : (m n : ℕ) {k : ℕ} → m ≡ 0 → n ≡ k → m and_then n ≡ k
then_comes m n e f = ap (λ (j : ℕ). j and_then n) e ∙ f

-- what became of a lent table
abbrev measured : Words → Built
measured X = record { states = length (states X); longest = longest_chain X }

pub wrote_short : (X : Words) (T tb : List ℕ) {a : Reason} → Err a ≡ wrote X T tb → (a ≡ ShortTable) × (too_short T tb ≡ true)
wrote_short X T tb {a} e = go (too_short T tb) e
  where
    go : (b : Bool) → Err a ≡ (if b then Err ShortTable else Ok (measured X)) → (a ≡ ShortTable) × (b ≡ true)
    go true q = (cc, refl)
    go false q = let z : ◌≡◌ {A = ℕ} 0 1 = cc in absurd (omega arith)

pub record WroteRows (X : Words) (T tb : List ℕ) (b : Built) : Type 0 where
  pub fits : too_short T tb ≡ false
  pub states : b.states ≡ length (states X)
  pub chain : b.longest ≡ longest_chain X

pub wrote_rows : (X : Words) (T tb : List ℕ) {b : Built} → Ok b ≡ wrote X T tb → WroteRows X T tb b
wrote_rows X T tb {b} e = go (too_short T tb) refl e
  where
    go : (q : Bool) → too_short T tb ≡ q → Ok b ≡ (if q then Err ShortTable else Ok (measured X)) → WroteRows X T tb b
    go true p f = let z : ◌≡◌ {A = ℕ} 0 1 = cc in absurd (omega arith)
    go false p f =
        let same : b ≡ measured X = cc in
        record { fits = p; states = ap (λ (k : Built). k.states) same; chain = ap (λ (k : Built). k.longest) same }

-- r is no more than the letters of a word
pub longest_small : (X : Words) → Allowed X → longest_chain X ≤ longest_word
longest_small X α =
    let (n, inside, e) = r_attained X in
    let β = allowed_bounded X α in
    omega (arith, e, chain_length X (word (states X) n), β.short (word (states X) n) n (β.trie.once n inside))

-- a text is accepted exactly where its count isn't 0
pub counted_accepted : (X : Words) (t : Word) → ltb 0 (count_at X t (length t)) ≡ accepted X t
counted_accepted X t = go (accepted X t) refl
  where
    go : (b : Bool) → accepted X t ≡ b → ltb 0 (count_at X t (length t)) ≡ b
    go true e = lt-ltb _ _ ((count_readable X t (length t)).0 e)
    go false e = le-ltb 0 (count_at X t (length t)) (omega (arith, (count_unreadable X t (length t)).0 e))
