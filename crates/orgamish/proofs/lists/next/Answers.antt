use Rattle.std.proofs.Common.{◌≡◌, ◌<◌, ℕ, Bool, true, List, [], take, arith, sym, ap, ◌∙◌}
use Rattle.std.proofs.lemmas.Result.{err_from_is_err_and}
use Rattle.std.specs.Prelude.{Ok, None, Some, if◌then◌else◌}
use mathlib.Core.Option.{Option}
use Rattle.meaning.specs.Numbers.{letter_values}
use Rattle.meaning.specs.Words.{Word, Words, Reading}
use Rattle.meaning.specs.Listing.{next_reading}
use Rattle.meaning.proofs.Readings.{is_reading_is}
use Rattle.letters.specs.Letters.{letter, mapped}
use Rattle.records.specs.Run.{Run}
use Rattle.listing.specs.Answers.{Answers}
use Rattle.listing.specs.Positions.{Whole, Giving}
use Rattle.judging.specs.Under.{words_under}
use Rattle.judging.specs.Order.{◌and_then◌, list_refusal, is_given, given_refusal, fit_refusal}
use Rattle.judging.proofs.Verdicts.{Passes, refused_before, told_from}
use Rattle.orgamish.specs.Calls.{told_by, length_of, listed, next_tells, next_leaves}
use Rattle.orgamish.proofs.Called.{Came, came_tells, came_leaves, tells_refused, leaves_refused, then_comes, told_reason}
use Rattle.orgamish.proofs.Listings.{Listed, number_by, values_by, next_number, answer_told, answer_left, answer_words, next_fits, given_reads}
use Rattle.orgamish.proofs.Asked.{may_list, listed_allowed, whole, stated, listed_short}
use Rattle.orgamish.proofs.lists.next.Goals as goal

-- the given words are a reading
giving : (X : Words) (t : Word) {tb ss cs : List ℕ} {n : ℕ} (b : List ℕ) (k : ℕ) → Whole X t tb ss cs n → is_given X t b k ≡ true
    → Giving X t tb ss cs n b k
giving X t b k w given =
    let (room, reads) = given_reads X t b k given in
    record { whole = w; room = room; reads = (is_reading_is X t (take k b)).0 reads }

module _ (run : Run) (tb : List ℕ) (t : Word) (ss cs b b' : List ℕ) (k : ℕ) (p : Passes (λ X. list_refusal X tb t ss cs) run) where
  abbrev before : Words → ℕ
  before X = list_refusal X tb t ss cs

  -- the reading that is to be written
  abbrev chosen : Words → Option Reading
  chosen X = next_reading X t (take k b)

  abbrev rest : Words → ℕ
  rest X = given_refusal X t b k and_then fit_refusal (chosen X) b

  -- what the test of the given words comes to
  by_given : {q : Bool} → is_given p.X t b k ≡ q → rest p.X ≡ (if q then 0 else 13) and_then fit_refusal (chosen p.X) b
  by_given e = ap (λ (q : Bool). (if q then 0 else 13) and_then fit_refusal (chosen p.X) b) e

  refused_so : {n : ℕ} → rest p.X ≡ n → Came (λ X. before X and_then rest X) run p.X n
  refused_so e = record { end = p.end; is = p.is; comes = then_comes (before p.X) (rest p.X) p.clear e }

  -- by what the listing told
  outcome : is_given p.X t b k ≡ true → {r : Listed} → Answers (chosen p.X) b b' r → (q : Listed) → q ≡ r
      → (told_by (number_by 0 q) (values_by q) ≡ next_tells run tb t ss cs b k) × (b' ≡ next_leaves run tb t ss cs b k)
  outcome given α q e =
      let n = by_given given ∙ next_number (chosen p.X) b in
      (answer_told before rest chosen b p 0 n α e, answer_left before rest chosen b p 0 n α)

pub returns-in_err-judge_list : goal.returns-in_err-judge_list
returns-in_err-judge_list c =
    let t = mapped c.args.map.now c.args.text.now in
    let b = c.args.reading.now in
    let run = words_under c.args.map.now c.args.dict.now in
    let before : Words → ℕ = λ X. list_refusal X c.args.table.now t c.args.states.now c.args.counts.now in
    let chosen : Words → Option Reading = λ X. next_reading X t (take c.args.given b) in
    let rest : Words → ℕ = λ X. given_refusal X t b c.args.given and_then fit_refusal (chosen X) b in
    let p = err_from_is_err_and c.from_residual.result c.from_residual.ensures.1 in
    let e = refused_before before rest run c.in_err-judge_list.ensures in
    rw (p.1, p.2) (
      tells_refused (λ X. before X and_then rest X) (λ X. length_of (chosen X)) run e,
      leaves_refused (λ X. before X and_then rest X) (λ X. listed (chosen X) b) b run e,
    )

pub is_given-requires : goal.is_given-requires
is_given-requires c =
    let m = c.args.map.now in
    let t = mapped m c.args.text.now in
    let bytes : (x : ℕ) → letter m x < letter_values = λ x. omega (arith, c.type_inv.map x) in
    let told = c.in_ok-judge_list.ensures in
    let p = may_list m c.args.dict.now c.args.table.now c.args.text.now c.args.states.now c.args.counts.now bytes told in
    (p.X, t, stated m c.args.dict.now c.args.table.now c.args.text.now c.args.states.now c.args.counts.now bytes told, (whole m c.args.dict.now c.args.table.now c.args.text.now c.args.states.now c.args.counts.now bytes told).long)

pub returns-then-not-is_given : goal.returns-then-not-is_given
returns-then-not-is_given c =
    let m = c.args.map.now in
    let t = mapped m c.args.text.now in
    let bytes : (x : ℕ) → letter m x < letter_values = λ x. omega (arith, c.type_inv.map x) in
    let told = c.in_ok-judge_list.ensures in
    let p = may_list m c.args.dict.now c.args.table.now c.args.text.now c.args.states.now c.args.counts.now bytes told in
    let b = c.args.reading.now in
    let no = sym (c.is_given.ensures p.X t (stated m c.args.dict.now c.args.table.now c.args.text.now c.args.states.now c.args.counts.now bytes told) (whole m c.args.dict.now c.args.table.now c.args.text.now c.args.states.now c.args.counts.now bytes told).long) ∙ c.if-not-is_given.true in
    let chosen : Words → Option Reading = λ X. next_reading X t (take c.args.given b) in
    let run = words_under m c.args.dict.now in
    let w = refused_so run c.args.table.now t c.args.states.now c.args.counts.now b b c.args.given p
    (by_given run c.args.table.now t c.args.states.now c.args.counts.now b b c.args.given p no) in
    (told_from c.from.ensures ∙ came_tells w (λ X. length_of (chosen X)), came_leaves w (λ X. listed (chosen X) b) b)

pub next-requires : goal.next-requires
next-requires c =
    let m = c.args.map.now in
    let t = mapped m c.args.text.now in
    let bytes : (x : ℕ) → letter m x < letter_values = λ x. omega (arith, c.type_inv.map x) in
    let told = c.in_ok-judge_list.ensures in
    let p = may_list m c.args.dict.now c.args.table.now c.args.text.now c.args.states.now c.args.counts.now bytes told in
    let s = stated m c.args.dict.now c.args.table.now c.args.text.now c.args.states.now c.args.counts.now bytes told in
    let given = sym (c.is_given.ensures p.X t s (whole m c.args.dict.now c.args.table.now c.args.text.now c.args.states.now c.args.counts.now bytes told).long) ∙ c.if-not-is_given.false in
    let g = giving p.X t c.args.reading.now c.args.given (whole m c.args.dict.now c.args.table.now c.args.text.now c.args.states.now c.args.counts.now bytes told) given in
    (p.X, t, g)

pub returns-in_err-words : goal.returns-in_err-words
returns-in_err-words c =
    let m = c.args.map.now in
    let t = mapped m c.args.text.now in
    let bytes : (x : ℕ) → letter m x < letter_values = λ x. omega (arith, c.type_inv.map x) in
    let told = c.in_ok-judge_list.ensures in
    let p = may_list m c.args.dict.now c.args.table.now c.args.text.now c.args.states.now c.args.counts.now bytes told in
    let s = stated m c.args.dict.now c.args.table.now c.args.text.now c.args.states.now c.args.counts.now bytes told in
    let given = sym (c.is_given.ensures p.X t s (whole m c.args.dict.now c.args.table.now c.args.text.now c.args.states.now c.args.counts.now bytes told).long) ∙ c.if-not-is_given.false in
    let g = giving p.X t c.args.reading.now c.args.given (whole m c.args.dict.now c.args.table.now c.args.text.now c.args.states.now c.args.counts.now bytes told) given in
    let q = err_from_is_err_and c.from_residual-in_err-words.result c.from_residual-in_err-words.ensures.1 in
    let o = outcome (words_under m c.args.dict.now) c.args.table.now t c.args.states.now c.args.counts.now c.args.reading.now c.next.new.reading c.args.given p given (c.next.ensures p.X t g) _ (sym c.in_err-words.was) in
    rw q.1 (told_from q.2 ∙ sym (told_reason _ []) ∙ o.0, o.1)

pub overflow_cast-result : goal.overflow_cast-result
overflow_cast-result c =
    let m = c.args.map.now in
    let t = mapped m c.args.text.now in
    let bytes : (x : ℕ) → letter m x < letter_values = λ x. omega (arith, c.type_inv.map x) in
    let told = c.in_ok-judge_list.ensures in
    let p = may_list m c.args.dict.now c.args.table.now c.args.text.now c.args.states.now c.args.counts.now bytes told in
    let s = stated m c.args.dict.now c.args.table.now c.args.text.now c.args.states.now c.args.counts.now bytes told in
    let given = sym (c.is_given.ensures p.X t s (whole m c.args.dict.now c.args.table.now c.args.text.now c.args.states.now c.args.counts.now bytes told).long) ∙ c.if-not-is_given.false in
    let g = giving p.X t c.args.reading.now c.args.given (whole m c.args.dict.now c.args.table.now c.args.text.now c.args.states.now c.args.counts.now bytes told) given in
    let written : Ok (Some c.in-Some.words) ≡ c.next.result = sym (c.in_ok-words.was ∙ ap Ok c.in-Some.is) in
    let short = listed_short m c.args.dict.now c.args.table.now c.args.text.now c.args.states.now c.args.counts.now bytes told in
    let α = listed_allowed m c.args.dict.now c.args.table.now c.args.text.now c.args.states.now c.args.counts.now bytes told in
    let (ws, is, n) = answer_words (next_reading p.X t (take c.args.given c.args.reading.now)) c.args.reading.now (written ∙ (c.next.ensures p.X t g).answers) in
    omega (arith, n, next_fits p.X α.storable.dictionary t (take c.args.given c.args.reading.now) ws g.reads is, short)

pub returns-in-Some : goal.returns-in-Some
returns-in-Some c =
    let m = c.args.map.now in
    let t = mapped m c.args.text.now in
    let bytes : (x : ℕ) → letter m x < letter_values = λ x. omega (arith, c.type_inv.map x) in
    let told = c.in_ok-judge_list.ensures in
    let p = may_list m c.args.dict.now c.args.table.now c.args.text.now c.args.states.now c.args.counts.now bytes told in
    let s = stated m c.args.dict.now c.args.table.now c.args.text.now c.args.states.now c.args.counts.now bytes told in
    let given = sym (c.is_given.ensures p.X t s (whole m c.args.dict.now c.args.table.now c.args.text.now c.args.states.now c.args.counts.now bytes told).long) ∙ c.if-not-is_given.false in
    let g = giving p.X t c.args.reading.now c.args.given (whole m c.args.dict.now c.args.table.now c.args.text.now c.args.states.now c.args.counts.now bytes told) given in
    let written : Ok (Some c.in-Some.words) ≡ c.next.result = sym (c.in_ok-words.was ∙ ap Ok c.in-Some.is) in
    outcome (words_under m c.args.dict.now) c.args.table.now t c.args.states.now c.args.counts.now c.args.reading.now c.next.new.reading c.args.given p given (c.next.ensures p.X t g) _ written

pub returns-in-None : goal.returns-in-None
returns-in-None c =
    let m = c.args.map.now in
    let t = mapped m c.args.text.now in
    let bytes : (x : ℕ) → letter m x < letter_values = λ x. omega (arith, c.type_inv.map x) in
    let told = c.in_ok-judge_list.ensures in
    let p = may_list m c.args.dict.now c.args.table.now c.args.text.now c.args.states.now c.args.counts.now bytes told in
    let s = stated m c.args.dict.now c.args.table.now c.args.text.now c.args.states.now c.args.counts.now bytes told in
    let given = sym (c.is_given.ensures p.X t s (whole m c.args.dict.now c.args.table.now c.args.text.now c.args.states.now c.args.counts.now bytes told).long) ∙ c.if-not-is_given.false in
    let g = giving p.X t c.args.reading.now c.args.given (whole m c.args.dict.now c.args.table.now c.args.text.now c.args.states.now c.args.counts.now bytes told) given in
    let none : Ok None ≡ c.next.result = sym (c.in_ok-words.was ∙ ap Ok c.in-None.is) in
    outcome (words_under m c.args.dict.now) c.args.table.now t c.args.states.now c.args.counts.now c.args.reading.now c.next.new.reading c.args.given p given (c.next.ensures p.X t g) _ none
