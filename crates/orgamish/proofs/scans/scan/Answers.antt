use Rattle.std.proofs.Common.{◌≡◌, ℕ, List, [], ◌∷◌, length, arith, ap, ◌∙◌}
use Rattle.std.proofs.lemmas.Result.{err_from_is_err_and}
use lib.Dec.{ltb}
use Rattle.meaning.specs.Words.{Word, Words}
use Rattle.meaning.specs.Table.{over}
use Rattle.meaning.specs.Readings.{accepted, count_at, farthest, probes, state_column, count_column}
use Rattle.meaning.proofs.Farthest.{farthest_within}
use Rattle.letters.specs.Letters.{mapped}
use Rattle.records.specs.Run.{Run}
use Rattle.records.specs.Told.{answer}
use Rattle.columns.specs.Scans.{Scans}
use Rattle.judging.specs.Under.{words_under}
use Rattle.judging.specs.Order.{scan_refusal}
use Rattle.judging.proofs.Verdicts.{Passes, passes, passed_allowed}
use Rattle.judging.proofs.Cleared.{room}
use Rattle.orgamish.specs.Calls.{flag, scan_tells, scan_leaves_states, scan_leaves_counts}
use Rattle.orgamish.proofs.Called.{Came, came_tells, came_leaves, tells_refused, leaves_refused, counted_accepted}
use Rattle.orgamish.proofs.scans.scan.Goals as goal

abbrev values : Word → Words → List ℕ
values t X = flag (accepted X t) ∷ farthest X t ∷ count_at X t (length t) ∷ probes X t ∷ []

-- what a scan that nothing refuses tells and leaves
answers : (run : Run) (tb : List ℕ) (t : Word) (ss cs ss' cs' : List ℕ) {far count probed : ℕ} (p : Passes (λ X. scan_refusal X tb t ss cs) run)
    → Scans p.X t ss ss' cs cs' far count probed
    → (answer (flag (ltb 0 count) ∷ far ∷ count ∷ probed ∷ []) ≡ scan_tells run tb t ss cs)
    × (ss' ≡ scan_leaves_states run tb t ss cs)
    × (cs' ≡ scan_leaves_counts run tb t ss cs)
answers run tb t ss cs ss' cs' {far} {count} {probed} p w =
    let came : Came (λ X. scan_refusal X tb t ss cs) run p.X 0 = record { end = p.end; is = p.is; comes = p.clear } in
    let reach = w.far in
    let counted = w.count in
    let found = w.probed in
    let yes : ltb 0 count ≡ accepted p.X t = ap (ltb 0) counted ∙ counted_accepted p.X t in
    let same : answer (flag (ltb 0 count) ∷ far ∷ count ∷ probed ∷ []) ≡ answer (values t p.X) = cc in (
      same ∙ came_tells came (values t),
      w.states ∙ came_leaves came (λ X. over (state_column X t) ss) ss,
      w.counts ∙ came_leaves came (λ X. over (count_column X t) cs) cs,
    )

pub returns-in_err-judge_scan : goal.returns-in_err-judge_scan
returns-in_err-judge_scan c =
    let t = mapped c.args.map.now c.args.text.now in
    let ss = c.args.states.now in
    let cs = c.args.counts.now in
    let run = words_under c.args.map.now c.args.dict.now in
    let test : Words → ℕ = λ X. scan_refusal X c.args.table.now t ss cs in
    let p = err_from_is_err_and c.from_residual.result c.from_residual.ensures.1 in
    let e = c.in_err-judge_scan.ensures in
    rw (p.1, p.2) (
      tells_refused test (values t) run e,
      leaves_refused test (λ X. over (state_column X t) ss) ss run e,
      leaves_refused test (λ X. over (count_column X t) cs) cs run e,
    )

pub scan-found-requires : goal.scan-found-requires
scan-found-requires c =
    let p = passes (λ X. scan_refusal X c.args.table.now (mapped c.args.map.now c.args.text.now) c.args.states.now c.args.counts.now)
    (words_under c.args.map.now c.args.dict.now) c.in_ok-judge_scan.ensures in
    (p.X, room (passed_allowed _ _ (λ x. omega (arith, c.type_inv.map x)) p) p.clear)

pub overflow_cast-result : goal.overflow_cast-result
overflow_cast-result c =
    let t = mapped c.args.map.now c.args.text.now in
    let p = passes (λ X. scan_refusal X c.args.table.now t c.args.states.now c.args.counts.now)
    (words_under c.args.map.now c.args.dict.now) c.in_ok-judge_scan.ensures in
    let r = room (passed_allowed _ _ (λ x. omega (arith, c.type_inv.map x)) p) p.clear in
    omega (arith, (c.scan-found.ensures p.X r).far, farthest_within p.X t, r.short)

pub returns : goal.returns
returns c =
    let p = passes (λ X. scan_refusal X c.args.table.now (mapped c.args.map.now c.args.text.now) c.args.states.now c.args.counts.now)
    (words_under c.args.map.now c.args.dict.now) c.in_ok-judge_scan.ensures in
    let r = room (passed_allowed _ _ (λ x. omega (arith, c.type_inv.map x)) p) p.clear in
    answers _ _ _ _ _ _ _ p (c.scan-found.ensures p.X r)
