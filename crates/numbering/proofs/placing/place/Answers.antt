-- A turn takes the last word off, if it ends there.
use Rattle.std.proofs.Common.{◌∙◌, sym, ap, arith}
use Rattle.listing.proofs.Steps.{word_row}
use Rattle.listing.proofs.Backwards.{there_fits, left_all, left_some, left_shorter, left_last, left_on}
use Rattle.numbering.specs.Places.{placed}
use Rattle.numbering.proofs.Sums.{sum_none, sum_counted, sum_found, sum_left, sum_stops, sum_on}
use Rattle.numbering.proofs.placing.place.Goals as goal

pub loop-w-init : goal.loop-w-init
loop-w-init c X t ξ =
    let (Y, u, χ, room) = c.requires in
    let (left, long) = left_all c.args.reading.now room (cc) in
    (rw long (sum_none ξ room), left)

pub returns-in_err-last : goal.returns-in_err-last
returns-in_err-last c X t ξ =
    let (Y, u, χ, room) = c.requires in
    let (σ, left) = c.loop-w.invariant X t ξ in
    let e = c.in-Some.ensures.steps in
    cc (ap placed (sum_stops ξ room σ (omega (arith, left_some _ _ left e)) (c.from.ensures ∙ left_last _ _ left e)
    (c.in_err-last.ensures X t (sum_counted ξ room σ))))

pub depth-i-requires : goal.depth-i-requires
depth-i-requires c =
    let (X, t, ξ, room) = c.requires in
    let (σ, left) = c.loop-w.invariant X t ξ in
    word_row ξ.whole.scanned.table (c.in_ok-last.ensures X t (sum_counted ξ room σ)).is

pub overflow_sub-i : goal.overflow_sub-i
overflow_sub-i c =
    let (X, t, ξ, room) = c.requires in
    let (σ, left) = c.loop-w.invariant X t ξ in
    let α = c.in_ok-last.ensures X t (sum_counted ξ room σ) in
    there_fits σ.back.at α.in_chain α.is c.depth-i.ensures.is

pub loop-w-preserved : goal.loop-w-preserved
loop-w-preserved c X t ξ =
    let (Y, u, χ, room) = c.requires in
    let (σ, left) = c.loop-w.invariant X t ξ in
    let e = c.in-Some.ensures.steps in
    let α = c.in_ok-last.ensures X t (sum_counted ξ room σ) in
    let σ₁ = sum_on ξ room σ (omega (arith, left_some _ _ left e)) (c.from.ensures ∙ left_last _ _ left e) α c.depth-i.ensures.is in
    (rw (left_shorter _ _ left e) at σ₁, left_on _ _ left e)

pub returns-then-i-eq0 : goal.returns-then-i-eq0
returns-then-i-eq0 c X t ξ =
    let (Y, u, χ, room) = c.requires in
    let (σ, left) = c.loop-w.invariant X t ξ in
    sym (ap placed (sum_found ξ room σ c.in-None.ensures.steps.0 (omega (arith, c.if-i-eq0.true))))

pub returns-else-i-eq0 : goal.returns-else-i-eq0
returns-else-i-eq0 c X t ξ =
    let (Y, u, χ, room) = c.requires in
    let (σ, left) = c.loop-w.invariant X t ξ in
    sym (ap placed (sum_left ξ room σ c.in-None.ensures.steps.0 (λ e. omega (arith, c.if-i-eq0.false))))
