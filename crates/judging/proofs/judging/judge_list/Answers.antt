use Rattle.std.proofs.Common.{◌≡◌, List, Bool, ℕ, arith, sym, ap, ◌∙◌, true, false}
use Rattle.std.specs.Prelude.{if◌then◌else◌}
use Rattle.std.proofs.lemmas.Result.{err_from_is_err_and}
use Rattle.meaning.specs.Words.{Word}
use Rattle.letters.specs.Letters.{mapped}
use Rattle.columns.specs.Scans.{are_columns}
use Rattle.records.specs.Run.{Run}
use Rattle.judging.specs.Under.{words_under}
use Rattle.judging.specs.Order.{scan_refusal, columns_refusal, list_refusal}
use Rattle.judging.specs.Judging.{passed, verdict}
use Rattle.judging.proofs.Verdicts.{Passes, passes, refused_before, then_test, passed_allowed, told_from}
use Rattle.judging.proofs.Cleared.{room}
use Rattle.judging.proofs.judging.judge_list.Goals as goal

-- what the columns decide
decides : (run : Run) (tb : List ℕ) (t : Word) (ss cs : List ℕ) (p : Passes (λ X. scan_refusal X tb t ss cs) run) (b : Bool)
    → b ≡ are_columns p.X t ss cs → passed (if b then 0 else 11) ≡ verdict (λ X. list_refusal X tb t ss cs) run
decides run tb t ss cs p b e =
    then_test (λ X. scan_refusal X tb t ss cs) (λ X. columns_refusal X t ss cs) run p (ap (λ (q : Bool). if q then 0 else 11) (sym e))

pub returns-in_err-judge_scan : goal.returns-in_err-judge_scan
returns-in_err-judge_scan c =
    let t = mapped c.args.map.now c.args.text.now in
    let p = err_from_is_err_and c.from_residual.result c.from_residual.ensures.1 in
    rw (p.1, p.2)
    (refused_before (λ X. scan_refusal X c.args.table.now t c.args.states.now c.args.counts.now)
    (λ X. columns_refusal X t c.args.states.now c.args.counts.now)
    (words_under c.args.map.now c.args.dict.now)
    c.in_err-judge_scan.ensures)

pub are_columns-requires : goal.are_columns-requires
are_columns-requires c =
    let p = passes (λ X. scan_refusal X c.args.table.now (mapped c.args.map.now c.args.text.now) c.args.states.now c.args.counts.now) (words_under c.args.map.now c.args.dict.now) c.in_ok-judge_scan.ensures in
    (p.X, room (passed_allowed _ _ (λ x. omega (arith, c.type_inv.map x)) p) p.clear)

pub returns-then-not-are_columns : goal.returns-then-not-are_columns
returns-then-not-are_columns c =
    let p = passes (λ X. scan_refusal X c.args.table.now (mapped c.args.map.now c.args.text.now) c.args.states.now c.args.counts.now) (words_under c.args.map.now c.args.dict.now) c.in_ok-judge_scan.ensures in
    let same = c.are_columns.ensures p.X (room (passed_allowed _ _ (λ x. omega (arith, c.type_inv.map x)) p) p.clear) in
    told_from c.from.ensures
    ∙ decides _ c.args.table.now (mapped c.args.map.now c.args.text.now) c.args.states.now c.args.counts.now p false (sym c.if-not-are_columns.true ∙ same)

pub returns : goal.returns
returns c =
    let p = passes (λ X. scan_refusal X c.args.table.now (mapped c.args.map.now c.args.text.now) c.args.states.now c.args.counts.now) (words_under c.args.map.now c.args.dict.now) c.in_ok-judge_scan.ensures in
    let same = c.are_columns.ensures p.X (room (passed_allowed _ _ (λ x. omega (arith, c.type_inv.map x)) p) p.clear) in
    decides _ c.args.table.now (mapped c.args.map.now c.args.text.now) c.args.states.now c.args.counts.now p true (sym c.if-not-are_columns.false ∙ same)
