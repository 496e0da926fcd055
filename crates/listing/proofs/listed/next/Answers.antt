-- The change that makes the next reading is found and measured, and made if it fits.
use Rattle.std.proofs.Common.{arith}
use Rattle.listing.proofs.Told.{answers_short, answers_words, change_row, change_low, change_fits, change_readable, front_inside, change_length, change_written}
use Rattle.listing.proofs.listed.next.Goals as goal

pub depth-requires : goal.depth-requires
depth-requires c =
    let (X, t, g) = c.requires in
    let (ms, q, χ) = c.in-Some.ensures X t g in
    change_row g χ

pub overflow_sub-front : goal.overflow_sub-front
overflow_sub-front c =
    let (X, t, g) = c.requires in
    let (ms, q, χ) = c.in-Some.ensures X t g in
    change_fits g χ c.depth.ensures.is

pub first_length-n-requires : goal.first_length-n-requires
first_length-n-requires c =
    let (X, t, g) = c.requires in
    let (ms, q, χ) = c.in-Some.ensures X t g in
    (X, t, change_readable g χ c.depth.ensures.is)

pub overflow_add-n : goal.overflow_add-n
overflow_add-n c =
    let (X, t, g) = c.requires in
    let (ms, q, χ) = c.in-Some.ensures X t g in
    let e = c.depth.ensures.is in
    omega (arith, front_inside g χ e (c.first_length-n.ensures X t (change_readable g χ e)), c.well_formed)

pub overflow_add-total : goal.overflow_add-total
overflow_add-total c =
    let (X, t, g) = c.requires in
    let (ms, q, χ) = c.in-Some.ensures X t g in
    let e = c.depth.ensures.is in
    omega (arith, front_inside g χ e (c.first_length-n.ensures X t (change_readable g χ e)), change_low g χ, g.room, c.well_formed)

pub returns-then-reading-total : goal.returns-then-reading-total
returns-then-reading-total c X t g =
    let (ms, q, χ) = c.in-Some.ensures X t g in
    let e = c.depth.ensures.is in
    let long = change_length g χ e (c.first_length-n.ensures X t (change_readable g χ e)) in
    answers_short ms _ q (omega (arith, c.if-reading-total.true, long))

pub word-requires : goal.word-requires
word-requires c =
    let (X, t, g) = c.requires in
    let (ms, q, χ) = c.in-Some.ensures X t g in
    change_row g χ

pub write_ending-requires-clause-fits : goal.write_ending-requires-clause-fits
write_ending-requires-clause-fits c =
    let (X, t, g) = c.requires in
    let (ms, q, χ) = c.in-Some.ensures X t g in
    let ρ = change_readable g χ c.depth.ensures.is in
    (X, t, record { readable = ρ; room = omega (arith, c.first_length-n.ensures X t ρ, c.if-reading-total.false, c.copy_within.ensures.len) })

pub returns : goal.returns
returns c X t g =
    let (ms, q, χ) = c.in-Some.ensures X t g in
    let e = c.depth.ensures.is in
    let ρ = change_readable g χ e in
    let n = c.first_length-n.ensures X t ρ in
    answers_words ms _ q (omega (arith, c.if-reading-total.false, change_length g χ e n))
    (change_written g χ e n (omega (arith, c.if-reading-total.false)) c.word.ensures.is c.copy_within.ensures.after (c.write_ending.ensures X t ρ))
