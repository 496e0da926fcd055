use Rattle.std.proofs.Common.{◌<◌, ℕ, take, arith, sym, ap, ◌∙◌}
use Rattle.std.specs.Prelude.{Option}
use Rattle.std.specs.Result.{result_ok}
use Rattle.std.specs.Option.{ok_or}
use Rattle.letters.specs.declared.refusal.Reason.TheVariants.{NotReading}
use Rattle.std.proofs.lemmas.Result.{err_from_is_err_and}
use Rattle.meaning.specs.Numbers.{letter_values}
use Rattle.meaning.specs.Words.{Words, find}
use Rattle.meaning.specs.Readings.{readings}
use Rattle.letters.specs.Letters.{letter, mapped}
use Rattle.judging.specs.Under.{words_under}
use Rattle.judging.specs.Order.{◌and_then◌, counted_refusal, given_refusal}
use Rattle.judging.proofs.Verdicts.{refused_before, told_from}
use Rattle.orgamish.specs.Calls.{number_of}
use Rattle.orgamish.proofs.Called.{tells_refused, told_alike}
use Rattle.orgamish.proofs.Placings.{many_told, place_told_lem}
use Rattle.orgamish.proofs.Asked.{may_count, counted_allowed, exact}
use Rattle.orgamish.proofs.numbers.place.Goals as goal

pub returns-in_err-judge_count : goal.returns-in_err-judge_count
returns-in_err-judge_count c =
    let t = mapped c.args.map.now c.args.text.now in
    let b = c.args.reading.now in
    let run = words_under c.args.map.now c.args.dict.now in
    let before : Words → ℕ = λ X. counted_refusal X c.args.table.now t c.args.states.now c.args.counts.now in
    let rest : Words → ℕ = λ X. given_refusal X t b c.args.given in
    let p = err_from_is_err_and c.from_residual.result c.from_residual.ensures.1 in
    let e = refused_before before rest run c.in_err-judge_count.ensures in
    rw (p.1, p.2) (tells_refused (λ X. before X and_then rest X) (λ X. number_of (find (readings X t) (take c.args.given b))) run e)

pub returns-then-reading-given : goal.returns-then-reading-given
returns-then-reading-given c =
    let m = c.args.map.now in
    let t = mapped m c.args.text.now in
    let bytes : (x : ℕ) → letter m x < letter_values = λ x. omega (arith, c.type_inv.map x) in
    let told = c.in_ok-judge_count.ensures in
    let p = may_count m c.args.dict.now c.args.table.now c.args.text.now c.args.states.now c.args.counts.now bytes told in
    told_from c.from.ensures ∙ many_told (λ X. counted_refusal X c.args.table.now t c.args.states.now c.args.counts.now) t c.args.reading.now c.args.given p c.if-reading-given.true

pub place-requires : goal.place-requires
place-requires c =
    let m = c.args.map.now in
    let t = mapped m c.args.text.now in
    let bytes : (x : ℕ) → letter m x < letter_values = λ x. omega (arith, c.type_inv.map x) in
    let told = c.in_ok-judge_count.ensures in
    let p = may_count m c.args.dict.now c.args.table.now c.args.text.now c.args.states.now c.args.counts.now bytes told in
    (p.X, t, exact m c.args.dict.now c.args.table.now c.args.text.now c.args.states.now c.args.counts.now bytes told, c.if-reading-given.false)

pub returns-in_err-n : goal.returns-in_err-n
returns-in_err-n c =
    let m = c.args.map.now in
    let t = mapped m c.args.text.now in
    let bytes : (x : ℕ) → letter m x < letter_values = λ x. omega (arith, c.type_inv.map x) in
    let told = c.in_ok-judge_count.ensures in
    let p = may_count m c.args.dict.now c.args.table.now c.args.text.now c.args.states.now c.args.counts.now bytes told in
    let x = exact m c.args.dict.now c.args.table.now c.args.text.now c.args.states.now c.args.counts.now bytes told in
    let α = counted_allowed m c.args.dict.now c.args.table.now c.args.text.now c.args.states.now c.args.counts.now bytes told in
    let none = c.ok_or.ensures.ok_part ∙ ap result_ok c.in_err-n.was in
    let q = err_from_is_err_and c.from_residual-in_err-n.result c.from_residual-in_err-n.ensures.1 in
    let alike = told_alike (sym c.in_err-n.was ∙ c.ok_or.ensures.value ∙ ap (λ (o : Option ℕ). ok_or o NotReading) none) in
    rw q.1
    (told_from q.2 ∙ alike
    ∙ place_told_lem (λ X. counted_refusal X c.args.table.now t c.args.states.now c.args.counts.now) t c.args.reading.now c.args.given p α.storable.dictionary c.if-reading-given.false
    (sym none ∙ c.place.ensures p.X t x))

pub returns : goal.returns
returns c =
    let m = c.args.map.now in
    let t = mapped m c.args.text.now in
    let bytes : (x : ℕ) → letter m x < letter_values = λ x. omega (arith, c.type_inv.map x) in
    let told = c.in_ok-judge_count.ensures in
    let p = may_count m c.args.dict.now c.args.table.now c.args.text.now c.args.states.now c.args.counts.now bytes told in
    let x = exact m c.args.dict.now c.args.table.now c.args.text.now c.args.states.now c.args.counts.now bytes told in
    let α = counted_allowed m c.args.dict.now c.args.table.now c.args.text.now c.args.states.now c.args.counts.now bytes told in
    let some = c.ok_or.ensures.ok_part ∙ ap result_ok c.in_ok-n.was in
    place_told_lem (λ X. counted_refusal X c.args.table.now t c.args.states.now c.args.counts.now) t c.args.reading.now c.args.given p α.storable.dictionary c.if-reading-given.false
    (sym some ∙ c.place.ensures p.X t x)
