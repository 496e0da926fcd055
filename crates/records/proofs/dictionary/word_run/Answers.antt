use Rattle.std.proofs.Common.{arith, sym, ◌∙◌, ap, refl}
use Rattle.std.specs.Prelude.{Ok}
use Rattle.records.proofs.Walking.{starts, known, offset, ended, stopped, read_word}
use Rattle.records.proofs.dictionary.word_run.Goals as goal

pub loop-len-init : goal.loop-len-init
loop-len-init c = starts _ _ _ (c.new-index.ensures _ _)

pub record_after-requires : goal.record_after-requires
record_after-requires c = let w = c.loop-len.invariant in (w.X, known w)

pub returns-in-Ok-End : goal.returns-in-Ok-End
returns-in-Ok-End c =
    let w = c.loop-len.invariant in
    let r = c.record_after.ensures w.X (known w) in
    ended w (ap Ok (sym c.in-Ok-End.field-0-is) ∙ sym c.in-Ok-End.is ∙ r.is) refl

pub returns-then-book : goal.returns-then-book
returns-then-book c =
    let w = c.loop-len.invariant in
    let r = c.record_after.ensures w.X (known w) in
    ended w (ap Ok (sym c.in-Ok-Block.field-0-is) ∙ sym c.in-Ok-Block.is ∙ r.is) (rw c.if-book.true refl)

pub returns-in-Ok-Block : goal.returns-in-Ok-Block
returns-in-Ok-Block c =
    let w = c.loop-len.invariant in
    let r = c.record_after.ensures w.X (known w) in
    stopped w (ap Ok (sym c.in-Ok-Block.field-0-is) ∙ sym c.in-Ok-Block.is ∙ r.is) (rw c.if-book.false refl)

pub with_word-read-requires : goal.with_word-read-requires
with_word-read-requires c =
    let w = c.loop-len.invariant in
    let n = c.in-Ok-Word.len in
    let p = read_word w n (c.record_after.ensures w.X (known w)) (c.in-Ok-Word.is ∙ ap Ok c.in-Ok-Word.field-0-is) in
    (omega (arith, p.good.few, p.count), omega (arith, p.good.small, p.sum), omega (arith, offset p, p.good.few, p.good.small, p.count, p.sum))

pub loop-len-smaller : goal.loop-len-smaller
loop-len-smaller c =
    let w = c.loop-len.invariant in
    let n = c.in-Ok-Word.len in
    let p = read_word w n (c.record_after.ensures w.X (known w)) (c.in-Ok-Word.is ∙ ap Ok c.in-Ok-Word.field-0-is) in
    rw c.with_word-read.ensures (omega (arith, p.good.few, p.count))

pub loop-len-preserved : goal.loop-len-preserved
loop-len-preserved c =
    let w = c.loop-len.invariant in
    let n = c.in-Ok-Word.len in
    rw c.with_word-read.ensures (read_word w n (c.record_after.ensures w.X (known w)) (c.in-Ok-Word.is ∙ ap Ok c.in-Ok-Word.field-0-is))

pub returns-in-Err : goal.returns-in-Err
returns-in-Err c =
    let w = c.loop-len.invariant in
    let r = c.record_after.ensures w.X (known w) in
    stopped w (sym c.in-Err.is ∙ r.is) refl
