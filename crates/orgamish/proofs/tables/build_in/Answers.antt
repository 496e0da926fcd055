use Rattle.std.proofs.Common.{◌≡◌, ℕ, Bool, true, false, List, [], ◌∷◌, arith, sym, ap, ◌∙◌}
use Rattle.std.specs.Prelude.{if◌then◌else◌, Ok, Err}
use Rattle.std.proofs.lemmas.Result.{err_from_is_err_and}
use Rattle.meaning.specs.Words.{Words}
use Rattle.meaning.specs.Table.{over}
use Rattle.meaning.proofs.States.{allowed_bounded}
use Rattle.letters.specs.Refusal.{number_of}
use Rattle.letters.specs.declared.refusal.Reason.{Reason}
use Rattle.tree.specs.Forms.{table_in}
use Rattle.records.specs.Run.{Run}
use Rattle.records.specs.Told.{answer, refusal}
use Rattle.records.proofs.Determined.{RanAs, told_ran}
use Rattle.automaton.specs.Lending.{too_short, wrote, written}
use Rattle.automaton.specs.declared.building.Built.{Built}
use Rattle.judging.specs.Under.{words_under}
use Rattle.judging.specs.Order.{build_refusal}
use Rattle.judging.proofs.Verdicts.{told_accepted, told_from}
use Rattle.orgamish.specs.Calls.{measures, write_tells, write_leaves}
use Rattle.orgamish.proofs.Called.{Came, came_tells, came_leaves, wrote_short, wrote_rows, longest_small}
use Rattle.orgamish.proofs.tables.build_in.Goals as goal

-- by what became of the lent numbers: they are too few, or hold the rows
module _ (form : Words → List ℕ) (run : Run) (lent lent' : List ℕ) {words letters end : ℕ} (r : RanAs run words letters end)
    (left : lent' ≡ written (form r.X) lent) where
  came : (b : Bool) → too_short (form r.X) lent ≡ b → Came (λ X. build_refusal (form X) lent) run r.X (if b then 7 else 0)
  came b e = record { end = _; is = r.is; comes = ap (λ (q : Bool). if q then 7 else 0) e }

  leaves_so : (b : Bool) → too_short (form r.X) lent ≡ b → lent' ≡ write_leaves form run lent
  leaves_so true e =
      left ∙ ap (λ (q : Bool). if q then lent else over (form r.X) lent) e ∙ came_leaves (came true e) (λ X. over (form X) lent) lent
  leaves_so false e =
      left ∙ ap (λ (q : Bool). if q then lent else over (form r.X) lent) e ∙ came_leaves (came false e) (λ X. over (form X) lent) lent

  refuses : {a : Reason} → Err a ≡ wrote r.X (form r.X) lent
      → (refusal (number_of a) 0 ≡ write_tells form run lent) × (lent' ≡ write_leaves form run lent)
  refuses e =
      let (a, short) = wrote_short r.X (form r.X) lent e in
      (ap (λ (k : Reason). refusal (number_of k) 0) a ∙ came_tells (came true short) measures, leaves_so true short)

  tells : {b : Built} → Ok b ≡ wrote r.X (form r.X) lent
      → (answer (words ∷ b.states ∷ b.longest ∷ []) ≡ write_tells form run lent) × (lent' ≡ write_leaves form run lent)
  tells {b} e =
      let w = wrote_rows r.X (form r.X) lent e in
      let counted = r.count in
      let states = w.states in
      let chain = w.chain in
      let same : answer (words ∷ b.states ∷ b.longest ∷ []) ≡ answer (measures r.X) = cc in
      (same ∙ came_tells (came false w.fits) measures, leaves_so false w.fits)

pub write_table-requires : goal.write_table-requires
write_table-requires c =
    let r : RanAs (words_under c.args.map.now c.args.dict.now) c.in_ok-words.field-0.words c.in_ok-words.field-0.letters c.in_ok-words.field-0.end =
    told_ran (words_under c.args.map.now c.args.dict.now) c.in_ok-words.ensures in
    (r.X, rw c.from.ensures (told_accepted (λ x. omega (arith, c.type_inv.map x)) r))

pub returns-in_err-written : goal.returns-in_err-written
returns-in_err-written c =
    let r : RanAs (words_under c.args.map.now c.args.dict.now) c.in_ok-words.field-0.words c.in_ok-words.field-0.letters c.in_ok-words.field-0.end =
    told_ran (words_under c.args.map.now c.args.dict.now) c.in_ok-words.ensures in
    let w = c.write_table.ensures r.X (rw c.from.ensures (told_accepted (λ x. omega (arith, c.type_inv.map x)) r)) in
    let p = err_from_is_err_and c.from_residual-in_err-written.result c.from_residual-in_err-written.ensures.1 in
    let q = refuses (table_in c.args.form) (words_under c.args.map.now c.args.dict.now) c.args.table.now c.write_table.new.lent r w.1 (sym c.in_err-written.was ∙ w.0) in
    rw p.1 (told_from p.2 ∙ q.0, q.1)

pub overflow_cast-result : goal.overflow_cast-result
overflow_cast-result c =
    let r : RanAs (words_under c.args.map.now c.args.dict.now) c.in_ok-words.field-0.words c.in_ok-words.field-0.letters c.in_ok-words.field-0.end =
    told_ran (words_under c.args.map.now c.args.dict.now) c.in_ok-words.ensures in
    let α = told_accepted (λ x. omega (arith, c.type_inv.map x)) r in
    let w = wrote_rows r.X (table_in c.args.form r.X) c.args.table.now (sym c.in_ok-written.was ∙ (c.write_table.ensures r.X (rw c.from.ensures α)).0) in
    omega (arith, w.states, (allowed_bounded r.X α.allowed).few)

pub overflow_cast-result-2 : goal.overflow_cast-result-2
overflow_cast-result-2 c =
    let r : RanAs (words_under c.args.map.now c.args.dict.now) c.in_ok-words.field-0.words c.in_ok-words.field-0.letters c.in_ok-words.field-0.end =
    told_ran (words_under c.args.map.now c.args.dict.now) c.in_ok-words.ensures in
    let α = told_accepted (λ x. omega (arith, c.type_inv.map x)) r in
    let w = wrote_rows r.X (table_in c.args.form r.X) c.args.table.now (sym c.in_ok-written.was ∙ (c.write_table.ensures r.X (rw c.from.ensures α)).0) in
    omega (arith, w.chain, longest_small r.X α.allowed)

pub returns : goal.returns
returns c =
    let r : RanAs (words_under c.args.map.now c.args.dict.now) c.in_ok-words.field-0.words c.in_ok-words.field-0.letters c.in_ok-words.field-0.end =
    told_ran (words_under c.args.map.now c.args.dict.now) c.in_ok-words.ensures in
    let w = c.write_table.ensures r.X (rw c.from.ensures (told_accepted (λ x. omega (arith, c.type_inv.map x)) r)) in
    tells (table_in c.args.form) (words_under c.args.map.now c.args.dict.now) c.args.table.now c.write_table.new.lent r w.1 (sym c.in_ok-written.was ∙ w.0)
