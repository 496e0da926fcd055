-- What holds of the words of a run that is not refused.
use mathlib.Core.Path.{◌≡◌, refl, ap, sym, ◌∙◌, subst}
use mathlib.Core.Bool.{Bool, true, false}
use mathlib.Core.Option.{some}
use mathlib.Core.List.{List, [], ◌∷◌}
use Prim.Native.Nat.{ℕ, zero, suc, ◌+◌, ◌*◌, ◌≤◌, ◌<◌}
use native.Mathlib.Decide.{dec_lt}
use native.Mathlib.Omega.{arith}
use lib.ListN.{length, get_or-append}
use lib.Seq.{get_or-append_seam}
use lib.Dec.{leb, ltb}
use borrow.Author.Tests.{ltb-false, leb-false}
use Rattle.meaning.specs.Numbers.{most_words, most_letters}
use Rattle.meaning.specs.Words.{Word as Letters, Words, snoc, find, has, word, total}
use Rattle.meaning.proofs.Find.{has_false, find_kept, find_new}
use Rattle.meaning.proofs.Lists.{snoc-length}
use Rattle.meaning.proofs.States.{total-append}
use Rattle.letters.specs.Letters.{mapped}
use Rattle.letters.specs.Record.{record_at, word_at}
use Rattle.letters.specs.declared.record.Record.{Record}
use Rattle.letters.specs.declared.record.Record.TheVariants.{End, Block, Word}
use Rattle.letters.specs.declared.refusal.Reason.{Reason}
use Rattle.std.specs.Prelude.{Result, Ok, Err}
use Rattle.letters.proofs.Cases.{picked}
use Rattle.letters.proofs.Records.{FitsWord, word_fits, word_size, word_end}
use Rattle.records.specs.Run.{joined, record_after, Run, ran, refused, on_record, run_from, run}
use Rattle.records.specs.Stored.{Stands, stop, step, Holds}

stands_more : {m b : List ℕ} {e p : ℕ} (n : ℕ) {X : Words} → Stands m b e p X → record_at b e ≡ Ok (Word n)
    → Stands m b (e + 3 + n) p (snoc X (word_at (mapped m) b e n))
stands_more n stop r = step r stop
stands_more n (step q s) r = step q (stands_more n s r)

-- three bytes for each word besides its letters
pub stands_end : {m b : List ℕ} {e p : ℕ} {X : Words} → Stands m b e p X → p + 3 * length X + total X ≡ e
stands_end stop = omega arith
stands_end {m} {b} {e} {p} (step {n = n} q s) = omega (arith, word_size m b p n q, stands_end s)

-- where a word record is read the record of its word stands
pub holds : (m b : List ℕ) (p n : ℕ) → record_at b p ≡ Ok (Word n) → Holds m b p (word_at (mapped m) b p n)
holds m b p n q =
    let f : FitsWord b p n = word_fits q in
    let l : length (word_at (mapped m) b p n) ≡ n = word_size m b p n q in
    record {
      record_here = q ∙ ap (λ (k : ℕ). Ok (Word k)) (sym l);
      letters = ap (word_at (mapped m) b p) (sym l);
      nonempty = omega (arith, f.nonempty);
      short = omega (arith, f.short);
      within = omega (arith, f.within);
    }

-- each word is found where it stands: then no two are equal
abbrev pub Found : Words → Type 0
Found X = (k : ℕ) → k < length X → find X (word X k) ≡ some k

found_more : (X : Words) (w : Letters) → Found X → has X w ≡ false → Found (snoc X w)
found_more X w d new k h =
    elim (dec_lt k (length X)) [
      | yes l ↦ rw (get_or-append X (w ∷ []) [] k l) (find_kept X (w ∷ []) (word X k) k (d k l))
      | no l ↦
          let e : k ≡ length X = omega (arith, snoc-length X w) in
          rw (e, get_or-append_seam X w [] []) (find_new X w (has_false X w new))
    ]

-- a record whose word joins the words X
pub record Joins (m b : List ℕ) (X : Words) (at n : ℕ) : Type 0 where
  pub stands : record_at b at ≡ Ok (Word n)
  pub few : length X < most_words
  pub small : total X + n ≤ most_letters
  pub new : has X (word_at (mapped m) b at n) ≡ false

abbrev Joins-if : List ℕ → List ℕ → Words → ℕ → Result Record Reason → Type 0
Joins-if m b X at (Ok End) = length b ≤ at
Joins-if m b X at (Ok Block) = Unit
Joins-if m b X at (Ok (Word n)) = Joins m b X at n
Joins-if m b X at (Err reason) = Unit

joins_if : (m b : List ℕ) (X : Words) (at : ℕ) (r : Result Record Reason) → record_at b at ≡ r → Joins-if m b X at (joined (mapped m) b X at r)
joins_if m b X at (Ok End) e = word_end b at e
joins_if m b X at (Ok Block) e = tt
joins_if m b X at (Ok (Word n)) e =
    let P = Joins-if m b X at in
    picked P (leb most_words (length X)) (λ q. tt)
    (λ many. picked P (ltb most_letters (total X + n)) (λ q. tt)
    (λ long. picked P (has X (word_at (mapped m) b at n)) (λ q. tt)
    (λ new. record { stands = e; few = leb-false most_words _ many; small = ltb-false most_letters _ long; new = new })))
joins_if m b X at (Err reason) e = tt

pub joins : (m b : List ℕ) (X : Words) (at n : ℕ) → record_after (mapped m) b X at ≡ Ok (Word n) → Joins m b X at n
joins m b X at n e = subst (Joins-if m b X at) e (joins_if m b X at (record_at b at) refl)

at_end_lem : (m b : List ℕ) (X : Words) (at : ℕ) → record_after (mapped m) b X at ≡ Ok End → length b ≤ at
at_end_lem m b X at e = subst (Joins-if m b X at) e (joins_if m b X at (record_at b at) refl)

-- what holds of words read so far, up to an offset
pub record Good (m b : List ℕ) (X : Words) (at : ℕ) : Type 0 where
  pub stands : Stands m b at 0 X
  pub few : length X ≤ most_words
  pub small : total X ≤ most_letters
  pub found : Found X
  pub within : at ≤ length b

module _ (m b : List ℕ) where
  pub good_none : Good m b [] 0
  good_none = record {
    stands = stop;
    few = omega arith;
    small = omega arith;
    found = λ k h. absurd (omega arith);
    within = omega arith;
  }

  pub good_more : (X : Words) (at n : ℕ) → Joins m b X at n → Good m b X at → Good m b (snoc X (word_at (mapped m) b at n)) (at + 3 + n)
  good_more X at n j g =
      let w = word_at (mapped m) b at n in
      let f : FitsWord b at n = word_fits j.stands in
      record {
        stands = stands_more n g.stands j.stands;
        few = omega (arith, snoc-length X w, j.few);
        small = omega (arith, total-append X (w ∷ []), word_size m b at n j.stands, j.small);
        found = found_more X w g.found j.new;
        within = f.within;
      }

  -- the words of a run that is not refused; a dictionary by itself has nothing after them
  pub record Ended (in_book : Bool) (X : Words) (at : ℕ) : Type 0 where
    pub good : Good m b X at
    pub whole : in_book ≡ false → at ≡ length b

  abbrev pub Ends : Bool → Run → Type 0
  Ends in_book (ran X at) = Ended in_book X at
  Ends in_book (refused number place) = Unit

  -- by any bound on the records that the words so far leave room for
  run_ends : (in_book : Bool) (f : ℕ) (X : Words) (at : ℕ) → length X + f ≡ suc most_words → Good m b X at
      → Ends in_book (run_from in_book (mapped m) b f X at)
  run_ends in_book zero X at l g = absurd (omega (arith, g.few))
  run_ends in_book (suc f) X at l g =
      on
      (λ n j. run_ends in_book f _ _ (omega (arith, snoc-length X (word_at (mapped m) b at n))) (good_more X at n j g))
      (record_after (mapped m) b X at) refl
    where
      more : ℕ → Run
      more n = run_from in_book (mapped m) b f (snoc X (word_at (mapped m) b at n)) (at + 3 + n)

      not_both : {A : Type 0} (t : Bool) → t ≡ true → t ≡ false → A
      not_both t p q = let z : ◌≡◌ {A = ℕ} 0 1 = cc in absurd (omega arith)

      on : ((n : ℕ) → Joins m b X at n → Ends in_book (more n)) → (r : Result Record Reason) → record_after (mapped m) b X at ≡ r
          → Ends in_book (on_record in_book X at more r)
      on go (Ok End) e = let l = at_end_lem m b X at e in record { good = g; whole = λ q. omega (arith, g.within) }
      on go (Ok Block) e = picked (Ends in_book) in_book (λ p. record { good = g; whole = λ q. not_both in_book p q }) (λ q. tt)
      on go (Ok (Word n)) e = go n (joins m b X at n e)
      on go (Err reason) e = tt

  pub run_ended : (in_book : Bool) → Ends in_book (run in_book (mapped m) b)
  unfolding run
  run_ended in_book = run_ends in_book (suc most_words) [] 0 refl good_none
