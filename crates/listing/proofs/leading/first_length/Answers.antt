-- A turn takes the last word off.
use Rattle.std.proofs.Common.{ap, length, arith}
use Rattle.listing.proofs.Lasts.{last_is, no_last, last_row, last_fits, readable_before, first_longer, no_letters}
use Rattle.listing.proofs.leading.first_length.Goals as goal

pub depth-p-requires : goal.depth-p-requires
depth-p-requires c =
    let (X, t, ρ) = c.requires in
    let h = (c.loop-v.invariant X t ρ).readable in
    last_row h (last_is c.loop-v.p (c.in-Some.ensures X t h.at))

pub overflow_sub-p : goal.overflow_sub-p
overflow_sub-p c =
    let (X, t, ρ) = c.requires in
    let h = (c.loop-v.invariant X t ρ).readable in
    (last_fits h (last_is c.loop-v.p (c.in-Some.ensures X t h.at)) c.depth-p.ensures.is).1

pub loop-v-smaller : goal.loop-v-smaller
loop-v-smaller c =
    let (X, t, ρ) = c.requires in
    let h = (c.loop-v.invariant X t ρ).readable in
    omega (arith, last_fits h (last_is c.loop-v.p (c.in-Some.ensures X t h.at)) c.depth-p.ensures.is)

pub loop-v-preserved : goal.loop-v-preserved
loop-v-preserved c X t ρ =
    let g = c.loop-v.invariant X t ρ in
    let w = last_is c.loop-v.p (c.in-Some.ensures X t g.readable.at) in
    let e = c.depth-p.ensures.is in
    record {
      readable = readable_before g.readable w e;
      count = omega (arith, g.count, first_longer g.readable w e);
      small = omega (arith, g.small, last_fits g.readable w e);
    }

pub returns : goal.returns
returns c X t ρ =
    let g = c.loop-v.invariant X t ρ in
    omega (arith, g.count, ap length (no_letters X t (no_last c.loop-v.p g.readable (c.in_default.ensures X t g.readable.at))))
