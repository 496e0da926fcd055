-- None where the count at the end is 0, else the first reading, if it fits.
use native.Mathlib.Omega.{arith}
use Rattle.listing.proofs.Told.{answers_nothing, answers_short, answers_words, whole_inside, whole_none, whole_readable, whole_first}
use Rattle.listing.proofs.listed.first.Goals as goal

pub offset_bounds-counts-m : goal.offset_bounds-counts-m
offset_bounds-counts-m c = omega (arith, whole_inside c.requires.2, c.well_formed)

pub bounds-counts-m : goal.bounds-counts-m
bounds-counts-m c = whole_inside c.requires.2

pub returns-then-counts-m-eq0 : goal.returns-then-counts-m-eq0
returns-then-counts-m-eq0 c X t ω = answers_nothing _ (whole_none ω c.if-counts-m-eq0.true)

pub first_length-n-requires : goal.first_length-n-requires
first_length-n-requires c =
    let pre = c.requires in
    (pre.0, pre.1, whole_readable pre.2 c.if-counts-m-eq0.false)

pub returns-then-reading-n : goal.returns-then-reading-n
returns-then-reading-n c X t ω =
    let f = c.if-counts-m-eq0.false in
    answers_short _ _ (whole_first ω f) (omega (arith, c.if-reading-n.true, c.first_length-n.ensures X t (whole_readable ω f)))

pub write_first-requires : goal.write_first-requires
write_first-requires c =
    let pre = c.requires in
    let ρ = whole_readable pre.2 c.if-counts-m-eq0.false in
    (pre.0, pre.1, record { readable = ρ; room = omega (arith, c.if-reading-n.false, c.first_length-n.ensures _ _ ρ) })

pub returns : goal.returns
returns c X t ω =
    let f = c.if-counts-m-eq0.false in
    let ρ = whole_readable ω f in
    let e = c.first_length-n.ensures X t ρ in
    answers_words _ _ (whole_first ω f) (omega (arith, c.if-reading-n.false, e))
    (record { count = e; list = (c.write_first.ensures X t ρ).list })
