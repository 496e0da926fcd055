use Rattle.std.proofs.Common.{ℕ, ◌∙◌}
use Rattle.std.proofs.lemmas.Result.{err_from_is_err_and}
use Rattle.meaning.specs.Words.{Words}
use Rattle.meaning.specs.Table.{over}
use Rattle.tree.specs.Forms.{table_in}
use Rattle.judging.specs.Under.{words_under}
use Rattle.judging.specs.Order.{◌and_then◌, table_refusal, build_refusal}
use Rattle.judging.proofs.Verdicts.{passes, refused_before}
use Rattle.orgamish.specs.Calls.{measures}
use Rattle.orgamish.proofs.Called.{tells_refused, leaves_refused, then_tells, then_leaves}
use Rattle.orgamish.proofs.tables.move_in.Goals as goal

pub returns-in_err-judge_rows : goal.returns-in_err-judge_rows
returns-in_err-judge_rows c =
    let lent = c.args.table.now in
    let run = words_under c.args.map.now c.args.dict.now in
    let input : Words → ℕ = λ X. table_refusal (table_in c.args.other X) c.args.input.now in
    let room : Words → ℕ = λ X. build_refusal (table_in c.args.form X) lent in
    let p = err_from_is_err_and c.from_residual.result c.from_residual.ensures.1 in
    let e = refused_before input room run c.in_err-judge_rows.ensures in
    rw (p.1, p.2) (
      tells_refused (λ X. input X and_then room X) measures run e,
      leaves_refused (λ X. input X and_then room X) (λ X. over (table_in c.args.form X) lent) lent run e,
    )

pub returns : goal.returns
returns c =
    let lent = c.args.table.now in
    let run = words_under c.args.map.now c.args.dict.now in
    let input : Words → ℕ = λ X. table_refusal (table_in c.args.other X) c.args.input.now in
    let room : Words → ℕ = λ X. build_refusal (table_in c.args.form X) lent in
    let p = passes input run c.in_ok-judge_rows.ensures in (
      c.build_in.ensures.0 ∙ then_tells input room run p measures,
      c.build_in.ensures.1 ∙ then_leaves input room run p (λ X. over (table_in c.args.form X) lent) lent,
    )
