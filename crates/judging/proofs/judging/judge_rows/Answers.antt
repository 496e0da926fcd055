use Rattle.std.proofs.Common.{◌≡◌, List, ℕ, arith, sym, ap, ◌∙◌}
use Rattle.std.specs.Prelude.{Result}
use Rattle.std.proofs.lemmas.Result.{err_from_is_err_and}
use Rattle.letters.specs.declared.refusal.Reason.{Reason}
use Rattle.tree.specs.declared.layout.Form.{Form}
use Rattle.tree.specs.Forms.{table_in}
use Rattle.records.proofs.Determined.{RanAs, told_ran}
use Rattle.automaton.specs.Lending.{judged}
use Rattle.judging.specs.Under.{words_under}
use Rattle.judging.specs.Order.{table_refusal, rows_number}
use Rattle.judging.specs.Judging.{passed, verdict}
use Rattle.judging.proofs.Verdicts.{told_accepted, passed_reason, told_from}
use Rattle.judging.proofs.judging.judge_rows.Goals as goal

-- what the rows decide
decides : (m d : List ℕ) (form : Form) (lent : List ℕ) {words letters end : ℕ} (r : RanAs (words_under m d) words letters end)
    (j : Result Unit Reason) → j ≡ judged (table_in form r.X) lent
    → passed (rows_number j) ≡ verdict (λ X. table_refusal (table_in form X) lent) (words_under m d)
decides m d form lent r j e =
    ap (λ (k : Result Unit Reason). passed (rows_number k)) e
    ∙ ap (verdict (λ X. table_refusal (table_in form X) lent)) (sym r.is)

pub judge_table-requires : goal.judge_table-requires
judge_table-requires c =
    let r = told_ran (words_under c.args.map.now c.args.dict.now) c.in_ok-dictionary.ensures in
    (r.X, rw c.from.ensures (told_accepted (λ x. omega (arith, c.type_inv.map x)) r))

pub returns-in_err-judge_table : goal.returns-in_err-judge_table
returns-in_err-judge_table c =
    let r = told_ran (words_under c.args.map.now c.args.dict.now) c.in_ok-dictionary.ensures in
    let p = err_from_is_err_and c.from_residual-in_err-judge_table.result c.from_residual-in_err-judge_table.ensures.1 in
    let j = c.judge_table.ensures r.X (rw c.from.ensures (told_accepted (λ x. omega (arith, c.type_inv.map x)) r)) in
    rw p.1
    (told_from p.2
    ∙ sym (passed_reason _)
    ∙ decides c.args.map.now c.args.dict.now c.args.form c.args.table.now r _ (sym (c.in_err-judge_table.was) ∙ j))

pub returns : goal.returns
returns c =
    let r = told_ran (words_under c.args.map.now c.args.dict.now) c.in_ok-dictionary.ensures in
    let j = c.judge_table.ensures r.X (rw c.from.ensures (told_accepted (λ x. omega (arith, c.type_inv.map x)) r)) in
    decides c.args.map.now c.args.dict.now c.args.form c.args.table.now r _ (sym (c.in_ok-judge_table.was) ∙ j)
