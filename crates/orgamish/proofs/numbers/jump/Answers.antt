use Rattle.std.proofs.Common.{◌≡◌, ◌<◌, ℕ, List, [], length, arith, sym, ap, ◌∙◌}
use Rattle.std.proofs.lemmas.Result.{err_from_is_err_and}
use Rattle.std.specs.Prelude.{Option as Maybe, Ok, Some}
use Rattle.std.specs.Result.{result_ok}
use Rattle.std.specs.Option.{ok_or}
use Rattle.letters.specs.declared.refusal.Reason.TheVariants.{NoNumber}
use mathlib.Core.Option.{Option}
use lib.ListN.{get_elem?}
use Rattle.meaning.specs.Numbers.{letter_values}
use Rattle.meaning.specs.Words.{Word, Words, Reading}
use Rattle.meaning.specs.Readings.{readings}
use Rattle.letters.specs.Letters.{letter, mapped}
use Rattle.records.specs.Run.{Run}
use Rattle.listing.specs.Answers.{Answers}
use Rattle.numbering.specs.Numbers.{Exact}
use Rattle.judging.specs.Under.{words_under}
use Rattle.judging.specs.Order.{◌and_then◌, counted_refusal, number_refusal, fit_refusal}
use Rattle.judging.proofs.Verdicts.{Passes, refused_before, told_from}
use Rattle.orgamish.specs.Calls.{told_by, length_of, listed, jump_tells, jump_leaves}
use Rattle.orgamish.proofs.Called.{tells_refused, leaves_refused, told_reason, told_alike}
use Rattle.orgamish.proofs.Listings.{Listed, number_by, values_by, jump_number, answer_told, answer_left, answer_words, elem_fits}
use Rattle.orgamish.proofs.Asked.{may_count, counted_allowed, exact, counted_short}
use Rattle.orgamish.proofs.numbers.jump.Goals as goal

-- by what the listing told
outcome : (run : Run) (tb : List ℕ) (t : Word) (ss cs b b' : List ℕ) (n : ℕ) (p : Passes (λ X. counted_refusal X tb t ss cs) run)
    → Exact p.X t (length t) → {r : Listed} → Answers (get_elem? (readings p.X t) n) b b' r → (q : Listed) → q ≡ r
    → (told_by (number_by 21 q) (values_by q) ≡ jump_tells run tb t ss cs b n) × (b' ≡ jump_leaves run tb t ss cs b n)
outcome run tb t ss cs b b' n p x α q e =
    let before : Words → ℕ = λ X. counted_refusal X tb t ss cs in
    let chosen : Words → Option Reading = λ X. get_elem? (readings X t) n in
    let rest : Words → ℕ = λ X. number_refusal X t n and_then fit_refusal (chosen X) b in
    let k = jump_number p.X t n b x in
    (answer_told before rest chosen b p 21 k α e, answer_left before rest chosen b p 21 k α)

pub returns-in_err-judge_count : goal.returns-in_err-judge_count
returns-in_err-judge_count c =
    let t = mapped c.args.map.now c.args.text.now in
    let b = c.args.reading.now in
    let run = words_under c.args.map.now c.args.dict.now in
    let before : Words → ℕ = λ X. counted_refusal X c.args.table.now t c.args.states.now c.args.counts.now in
    let chosen : Words → Option Reading = λ X. get_elem? (readings X t) c.args.n in
    let rest : Words → ℕ = λ X. number_refusal X t c.args.n and_then fit_refusal (chosen X) b in
    let p = err_from_is_err_and c.from_residual.result c.from_residual.ensures.1 in
    let e = refused_before before rest run c.in_err-judge_count.ensures in
    rw (p.1, p.2) (
      tells_refused (λ X. before X and_then rest X) (λ X. length_of (chosen X)) run e,
      leaves_refused (λ X. before X and_then rest X) (λ X. listed (chosen X) b) b run e,
    )

pub jump-requires : goal.jump-requires
jump-requires c =
    let m = c.args.map.now in
    let t = mapped m c.args.text.now in
    let bytes : (x : ℕ) → letter m x < letter_values = λ x. omega (arith, c.type_inv.map x) in
    let told = c.in_ok-judge_count.ensures in
    let p = may_count m c.args.dict.now c.args.table.now c.args.text.now c.args.states.now c.args.counts.now bytes told in
    (p.X, t, exact m c.args.dict.now c.args.table.now c.args.text.now c.args.states.now c.args.counts.now bytes told)

pub returns-in_err-listed : goal.returns-in_err-listed
returns-in_err-listed c =
    let m = c.args.map.now in
    let t = mapped m c.args.text.now in
    let bytes : (x : ℕ) → letter m x < letter_values = λ x. omega (arith, c.type_inv.map x) in
    let told = c.in_ok-judge_count.ensures in
    let p = may_count m c.args.dict.now c.args.table.now c.args.text.now c.args.states.now c.args.counts.now bytes told in
    let x = exact m c.args.dict.now c.args.table.now c.args.text.now c.args.states.now c.args.counts.now bytes told in
    let q = err_from_is_err_and c.from_residual-in_err-listed.result c.from_residual-in_err-listed.ensures.1 in
    let o = outcome (words_under m c.args.dict.now) c.args.table.now t c.args.states.now c.args.counts.now c.args.reading.now c.jump.new.reading c.args.n p x.exact (c.jump.ensures p.X t x) _ (sym c.in_err-listed.was) in
    rw q.1 (told_from q.2 ∙ sym (told_reason _ []) ∙ o.0, o.1)

pub overflow_cast-result : goal.overflow_cast-result
overflow_cast-result c =
    let m = c.args.map.now in
    let t = mapped m c.args.text.now in
    let bytes : (x : ℕ) → letter m x < letter_values = λ x. omega (arith, c.type_inv.map x) in
    let told = c.in_ok-judge_count.ensures in
    let p = may_count m c.args.dict.now c.args.table.now c.args.text.now c.args.states.now c.args.counts.now bytes told in
    let x = exact m c.args.dict.now c.args.table.now c.args.text.now c.args.states.now c.args.counts.now bytes told in
    let written : Ok (Some c.in_ok-words.words) ≡ c.jump.result = sym (c.in_ok-listed.was ∙ ap Ok (c.ok_or.ensures.ok_part ∙ ap result_ok c.in_ok-words.was)) in
    let short = counted_short m c.args.dict.now c.args.table.now c.args.text.now c.args.states.now c.args.counts.now bytes told in
    let α = counted_allowed m c.args.dict.now c.args.table.now c.args.text.now c.args.states.now c.args.counts.now bytes told in
    let (ws, is, n) = answer_words (get_elem? (readings p.X t) c.args.n) c.args.reading.now (written ∙ (c.jump.ensures p.X t x).answers) in
    omega (arith, n, elem_fits p.X α.storable.dictionary t c.args.n ws is, short)

pub returns-in_err-words : goal.returns-in_err-words
returns-in_err-words c =
    let m = c.args.map.now in
    let t = mapped m c.args.text.now in
    let bytes : (x : ℕ) → letter m x < letter_values = λ x. omega (arith, c.type_inv.map x) in
    let told = c.in_ok-judge_count.ensures in
    let p = may_count m c.args.dict.now c.args.table.now c.args.text.now c.args.states.now c.args.counts.now bytes told in
    let x = exact m c.args.dict.now c.args.table.now c.args.text.now c.args.states.now c.args.counts.now bytes told in
    let none = c.ok_or.ensures.ok_part ∙ ap result_ok c.in_err-words.was in
    let o = outcome (words_under m c.args.dict.now) c.args.table.now t c.args.states.now c.args.counts.now c.args.reading.now c.jump.new.reading c.args.n p x.exact (c.jump.ensures p.X t x) _ (sym (c.in_ok-listed.was ∙ ap Ok none)) in
    let q = err_from_is_err_and c.from_residual-in_err-words.result c.from_residual-in_err-words.ensures.1 in
    let alike = told_alike (sym c.in_err-words.was ∙ c.ok_or.ensures.value ∙ ap (λ (o : Maybe ℕ). ok_or o NoNumber) none) in
    rw q.1 (told_from q.2 ∙ alike ∙ o.0, o.1)

pub returns : goal.returns
returns c =
    let m = c.args.map.now in
    let t = mapped m c.args.text.now in
    let bytes : (x : ℕ) → letter m x < letter_values = λ x. omega (arith, c.type_inv.map x) in
    let told = c.in_ok-judge_count.ensures in
    let p = may_count m c.args.dict.now c.args.table.now c.args.text.now c.args.states.now c.args.counts.now bytes told in
    let x = exact m c.args.dict.now c.args.table.now c.args.text.now c.args.states.now c.args.counts.now bytes told in
    let written : Ok (Some c.in_ok-words.words) ≡ c.jump.result = sym (c.in_ok-listed.was ∙ ap Ok (c.ok_or.ensures.ok_part ∙ ap result_ok c.in_ok-words.was)) in
    outcome (words_under m c.args.dict.now) c.args.table.now t c.args.states.now c.args.counts.now c.args.reading.now c.jump.new.reading c.args.n p x.exact (c.jump.ensures p.X t x) _ written
