use Rattle.std.proofs.Common.{arith}
use Rattle.listing.proofs.Steps.{word_number}
use Rattle.numbering.proofs.Fronts.{letters_fit, last_row, last_fits, numbered_before, reading_splits, word_written, word_short}
use Rattle.numbering.proofs.jumping.+write_numbered.Goals as goal

pub depth-requires : goal.depth-requires
depth-requires t c =
    let (X, u, ν, h) = c.requires in
    last_row ν (c.last_of-last.ensures X u ν c.if-i-eq0.false)

pub overflow_sub-front : goal.overflow_sub-front
overflow_sub-front t c =
    let (X, u, ν, h) = c.requires in
    (last_fits ν (c.last_of-last.ensures X u ν c.if-i-eq0.false) c.depth.ensures.is).1

pub overflow_add-after : goal.overflow_add-after
overflow_add-after t c =
    let (X, u, ν, h) = c.requires in
    omega (arith, h, letters_fit ν.counted.at, c.well_formed)

pub write_numbered-total-requires : goal.write_numbered-total-requires
write_numbered-total-requires t c =
    let (X, u, ν, h) = c.requires in
    let ℓ = c.last_of-last.ensures X u ν c.if-i-eq0.false in
    let e = c.depth.ensures.is in
    let fits = last_fits ν ℓ e in
    (omega (arith, fits), (X, u, numbered_before ν ℓ e, omega (arith, fits, h)))

pub word-requires : goal.word-requires
word-requires t c =
    let (X, u, ν, h) = c.requires in
    last_row ν (c.last_of-last.ensures X u ν c.if-i-eq0.false)

-- all words are counted
pub overflow_sub-reading : goal.overflow_sub-reading
overflow_sub-reading t c =
    let (X, u, ν, h) = c.requires in
    let ℓ = c.last_of-last.ensures X u ν c.if-i-eq0.false in
    omega (arith, (c.write_numbered-total.ensures X u (numbered_before ν ℓ c.depth.ensures.is)).total)

pub overflow_sub-reading-then-total-reading : goal.overflow_sub-reading-then-total-reading
overflow_sub-reading-then-total-reading t c =
    let (X, u, ν, h) = c.requires in
    let ℓ = c.last_of-last.ensures X u ν c.if-i-eq0.false in
    omega (arith, (c.write_numbered-total.ensures X u (numbered_before ν ℓ c.depth.ensures.is)).total)

-- they fit the buffer, which is as long as before
pub bounds-reading-total : goal.bounds-reading-total
bounds-reading-total t c =
    let (X, u, ν, h) = c.requires in
    let ℓ = c.last_of-last.ensures X u ν c.if-i-eq0.false in
    let total = (c.write_numbered-total.ensures X u (numbered_before ν ℓ c.depth.ensures.is)).total in
    omega (arith, total, c.if-total-reading.true, c.write_numbered-total.auto)

pub returns-then-total-reading : goal.returns-then-total-reading
returns-then-total-reading t c X u ν =
    let ℓ = c.last_of-last.ensures X u ν c.if-i-eq0.false in
    let e = c.depth.ensures.is in
    word_written _ _ (c.write_numbered-total.ensures X u (numbered_before ν ℓ e)) (reading_splits ν ℓ e)
    (omega (arith, c.if-total-reading.true, c.write_numbered-total.auto))
    (word_number ν.counted.at.scanned.table ℓ.is c.word.ensures.is)

pub returns-else-total-reading : goal.returns-else-total-reading
returns-else-total-reading t c X u ν =
    let ℓ = c.last_of-last.ensures X u ν c.if-i-eq0.false in
    let e = c.depth.ensures.is in
    word_short _ _ (c.write_numbered-total.ensures X u (numbered_before ν ℓ e)) (reading_splits ν ℓ e)
    (omega (arith, c.if-total-reading.false, c.write_numbered-total.auto))
