use Rattle.std.proofs.Common.{◌≡◌, List, Bool, ℕ, length, get_or, arith, sym, ap, ◌∙◌, true, false}
use Rattle.std.specs.Prelude.{if◌then◌else◌}
use lib.Dec.{eqb}
use Rattle.std.proofs.lemmas.Bool.{eq-eqb, ne_eqb}
use Rattle.std.proofs.lemmas.Result.{err_from_is_err_and}
use Rattle.meaning.specs.Numbers.{most_counted}
use Rattle.meaning.specs.Words.{Word, Words}
use Rattle.meaning.specs.Plain.{Allowed}
use Rattle.columns.proofs.Entry.{mapped_size}
use Rattle.listing.specs.Positions.{Whole}
use Rattle.listing.proofs.Told.{whole_count}
use Rattle.meaning.specs.Readings.{count_at}
use Rattle.letters.specs.Letters.{mapped}
use Rattle.records.specs.Run.{Run}
use Rattle.judging.specs.Under.{words_under}
use Rattle.judging.specs.Order.{list_refusal, greatest_refusal, counted_refusal}
use Rattle.judging.specs.Judging.{passed, verdict}
use Rattle.judging.proofs.Verdicts.{Passes, passes, refused_before, then_test, passed_allowed, told_from}
use Rattle.judging.proofs.Cleared.{scanned}
use Rattle.judging.proofs.judging.judge_count.Goals as goal

-- what the count at the end decides
decides : (run : Run) (tb : List ℕ) (t : Word) (ss cs : List ℕ) (p : Passes (λ X. list_refusal X tb t ss cs) run) (b : Bool)
    → eqb (count_at p.X t (length t)) most_counted ≡ b → passed (if b then 22 else 0) ≡ verdict (λ X. counted_refusal X tb t ss cs) run
decides run tb t ss cs p b e =
    then_test (λ X. list_refusal X tb t ss cs) (λ X. greatest_refusal X t) run p (ap (λ (q : Bool). if q then 22 else 0) e)

-- the count that is tested
count_here : (m u tb ss cs : List ℕ) {X : Words} → Allowed X → list_refusal X tb (mapped m u) ss cs ≡ 0
    → get_or cs (length u) 0 ≡ count_at X (mapped m u) (length (mapped m u))
count_here m u tb ss cs {X} α e =
    let w : Whole X (mapped m u) tb ss cs (length u) = record { scanned = scanned α e; long = sym (mapped_size m u) } in
    whole_count w ∙ ap (count_at X (mapped m u)) w.long

pub returns-in_err-judge_list : goal.returns-in_err-judge_list
returns-in_err-judge_list c =
    let t = mapped c.args.map.now c.args.text.now in
    let p = err_from_is_err_and c.from_residual.result c.from_residual.ensures.1 in
    rw (p.1, p.2)
    (refused_before (λ X. list_refusal X c.args.table.now t c.args.states.now c.args.counts.now)
    (λ X. greatest_refusal X t)
    (words_under c.args.map.now c.args.dict.now)
    c.in_err-judge_list.ensures)

pub returns-then-counts-text : goal.returns-then-counts-text
returns-then-counts-text c =
    let p = passes _ (words_under c.args.map.now c.args.dict.now) c.in_ok-judge_list.ensures in
    let n = count_here c.args.map.now c.args.text.now c.args.table.now c.args.states.now c.args.counts.now (passed_allowed _ _ (λ x. omega (arith, c.type_inv.map x)) p) p.clear in
    told_from c.from.ensures ∙ decides _ c.args.table.now _ c.args.states.now c.args.counts.now p true (eq-eqb _ _ (sym n ∙ c.if-counts-text.true))

pub returns : goal.returns
returns c =
    let p = passes _ (words_under c.args.map.now c.args.dict.now) c.in_ok-judge_list.ensures in
    let n = count_here c.args.map.now c.args.text.now c.args.table.now c.args.states.now c.args.counts.now (passed_allowed _ _ (λ x. omega (arith, c.type_inv.map x)) p) p.clear in
    decides _ c.args.table.now _ c.args.states.now c.args.counts.now p false (ne_eqb _ _ (λ e. c.if-counts-text.false (n ∙ e)))
