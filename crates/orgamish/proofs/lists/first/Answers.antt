use Rattle.std.proofs.Common.{◌≡◌, ◌<◌, ℕ, List, [], arith, sym, ap, ◌∙◌}
use Rattle.std.proofs.lemmas.Result.{err_from_is_err_and}
use Rattle.std.specs.Prelude.{Option as Maybe, Ok, Some}
use Rattle.std.specs.Result.{result_ok}
use Rattle.std.specs.Option.{ok_or}
use Rattle.letters.specs.declared.refusal.Reason.TheVariants.{NoReading}
use mathlib.Core.List.{head?}
use mathlib.Core.Option.{Option}
use Rattle.meaning.specs.Words.{Word, Words, Reading}
use Rattle.meaning.specs.Readings.{readings}
use Rattle.meaning.specs.Numbers.{letter_values}
use Rattle.letters.specs.Letters.{letter, mapped}
use Rattle.records.specs.Run.{Run}
use Rattle.listing.specs.Answers.{Answers}
use Rattle.judging.specs.Under.{words_under}
use Rattle.judging.specs.Order.{◌and_then◌, list_refusal, unread_refusal, fit_refusal}
use Rattle.judging.proofs.Verdicts.{Passes, refused_before, told_from}
use Rattle.orgamish.specs.Calls.{told_by, length_of, listed, first_tells, first_leaves}
use Rattle.orgamish.proofs.Called.{tells_refused, leaves_refused, told_reason, told_alike}
use Rattle.orgamish.proofs.Listings.{Listed, number_by, values_by, first_number, answer_told, answer_left, answer_words, first_fits}
use Rattle.orgamish.proofs.Asked.{may_list, listed_allowed, whole, listed_short}
use Rattle.orgamish.proofs.lists.first.Goals as goal

-- by what the listing told
outcome : (run : Run) (tb : List ℕ) (t : Word) (ss cs b b' : List ℕ) (p : Passes (λ X. list_refusal X tb t ss cs) run) {r : Listed}
    → Answers (head? (readings p.X t)) b b' r → (q : Listed) → q ≡ r
    → (told_by (number_by 12 q) (values_by q) ≡ first_tells run tb t ss cs b) × (b' ≡ first_leaves run tb t ss cs b)
outcome run tb t ss cs b b' p α q e =
    let before : Words → ℕ = λ X. list_refusal X tb t ss cs in
    let chosen : Words → Option Reading = λ X. head? (readings X t) in
    let rest : Words → ℕ = λ X. unread_refusal (chosen X) and_then fit_refusal (chosen X) b in
    let n = first_number (chosen p.X) b in
    (answer_told before rest chosen b p 12 n α e, answer_left before rest chosen b p 12 n α)

pub returns-in_err-judge_list : goal.returns-in_err-judge_list
returns-in_err-judge_list c =
    let t = mapped c.args.map.now c.args.text.now in
    let b = c.args.reading.now in
    let run = words_under c.args.map.now c.args.dict.now in
    let before : Words → ℕ = λ X. list_refusal X c.args.table.now t c.args.states.now c.args.counts.now in
    let rest : Words → ℕ = λ X. unread_refusal (head? (readings X t)) and_then fit_refusal (head? (readings X t)) b in
    let p = err_from_is_err_and c.from_residual.result c.from_residual.ensures.1 in
    let e = refused_before before rest run c.in_err-judge_list.ensures in
    rw (p.1, p.2) (
      tells_refused (λ X. before X and_then rest X) (λ X. length_of (head? (readings X t))) run e,
      leaves_refused (λ X. before X and_then rest X) (λ X. listed (head? (readings X t)) b) b run e,
    )

pub first-requires : goal.first-requires
first-requires c =
    let m = c.args.map.now in
    let bytes : (x : ℕ) → letter m x < letter_values = λ x. omega (arith, c.type_inv.map x) in
    let told = c.in_ok-judge_list.ensures in (
      (may_list m c.args.dict.now c.args.table.now c.args.text.now c.args.states.now c.args.counts.now bytes told).X,
      mapped m c.args.text.now,
      whole m c.args.dict.now c.args.table.now c.args.text.now c.args.states.now c.args.counts.now bytes told,
    )

pub returns-in_err-listed : goal.returns-in_err-listed
returns-in_err-listed c =
    let m = c.args.map.now in
    let t = mapped m c.args.text.now in
    let bytes : (x : ℕ) → letter m x < letter_values = λ x. omega (arith, c.type_inv.map x) in
    let told = c.in_ok-judge_list.ensures in
    let p = may_list m c.args.dict.now c.args.table.now c.args.text.now c.args.states.now c.args.counts.now bytes told in
    let w = whole m c.args.dict.now c.args.table.now c.args.text.now c.args.states.now c.args.counts.now bytes told in
    let q = err_from_is_err_and c.from_residual-in_err-listed.result c.from_residual-in_err-listed.ensures.1 in
    let o = outcome (words_under m c.args.dict.now) c.args.table.now t c.args.states.now c.args.counts.now c.args.reading.now c.first.new.reading p (c.first.ensures p.X t w) _ (sym c.in_err-listed.was) in
    rw q.1 (told_from q.2 ∙ sym (told_reason _ []) ∙ o.0, o.1)

pub overflow_cast-result : goal.overflow_cast-result
overflow_cast-result c =
    let m = c.args.map.now in
    let t = mapped m c.args.text.now in
    let bytes : (x : ℕ) → letter m x < letter_values = λ x. omega (arith, c.type_inv.map x) in
    let told = c.in_ok-judge_list.ensures in
    let p = may_list m c.args.dict.now c.args.table.now c.args.text.now c.args.states.now c.args.counts.now bytes told in
    let w = whole m c.args.dict.now c.args.table.now c.args.text.now c.args.states.now c.args.counts.now bytes told in
    let written : Ok (Some c.in_ok-words.words) ≡ c.first.result = sym (c.in_ok-listed.was ∙ ap Ok (c.ok_or.ensures.ok_part ∙ ap result_ok c.in_ok-words.was)) in
    let short = listed_short m c.args.dict.now c.args.table.now c.args.text.now c.args.states.now c.args.counts.now bytes told in
    let α = listed_allowed m c.args.dict.now c.args.table.now c.args.text.now c.args.states.now c.args.counts.now bytes told in
    let (ws, is, n) = answer_words (head? (readings p.X t)) c.args.reading.now (written ∙ (c.first.ensures p.X t w).answers) in
    omega (arith, n, first_fits p.X α.storable.dictionary t ws is, short)

pub returns-in_err-words : goal.returns-in_err-words
returns-in_err-words c =
    let m = c.args.map.now in
    let t = mapped m c.args.text.now in
    let bytes : (x : ℕ) → letter m x < letter_values = λ x. omega (arith, c.type_inv.map x) in
    let told = c.in_ok-judge_list.ensures in
    let p = may_list m c.args.dict.now c.args.table.now c.args.text.now c.args.states.now c.args.counts.now bytes told in
    let w = whole m c.args.dict.now c.args.table.now c.args.text.now c.args.states.now c.args.counts.now bytes told in
    let none = c.ok_or.ensures.ok_part ∙ ap result_ok c.in_err-words.was in
    let o = outcome (words_under m c.args.dict.now) c.args.table.now t c.args.states.now c.args.counts.now c.args.reading.now c.first.new.reading p (c.first.ensures p.X t w) _ (sym (c.in_ok-listed.was ∙ ap Ok none)) in
    let q = err_from_is_err_and c.from_residual-in_err-words.result c.from_residual-in_err-words.ensures.1 in
    let alike = told_alike (sym c.in_err-words.was ∙ c.ok_or.ensures.value ∙ ap (λ (o : Maybe ℕ). ok_or o NoReading) none) in
    rw q.1 (told_from q.2 ∙ alike ∙ o.0, o.1)

pub returns : goal.returns
returns c =
    let m = c.args.map.now in
    let t = mapped m c.args.text.now in
    let bytes : (x : ℕ) → letter m x < letter_values = λ x. omega (arith, c.type_inv.map x) in
    let told = c.in_ok-judge_list.ensures in
    let p = may_list m c.args.dict.now c.args.table.now c.args.text.now c.args.states.now c.args.counts.now bytes told in
    let w = whole m c.args.dict.now c.args.table.now c.args.text.now c.args.states.now c.args.counts.now bytes told in
    let written : Ok (Some c.in_ok-words.words) ≡ c.first.result = sym (c.in_ok-listed.was ∙ ap Ok (c.ok_or.ensures.ok_part ∙ ap result_ok c.in_ok-words.was)) in
    outcome (words_under m c.args.dict.now) c.args.table.now t c.args.states.now c.args.counts.now c.args.reading.now c.first.new.reading p (c.first.ensures p.X t w) _ written
