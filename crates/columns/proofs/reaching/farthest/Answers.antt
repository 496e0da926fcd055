-- The search stops at the first position that is not viable.
use Rattle.std.proofs.Common.{arith}
use Rattle.columns.proofs.Reach.{reach_counted, reach_first, reach_room, reach_standing, reach_on, reach_stop, reach_end}
use Rattle.columns.proofs.reaching.farthest.Goals as goal

pub last_read-i-requires : goal.last_read-i-requires
last_read-i-requires c = let (X, t, σ, e) = c.requires in reach_counted σ e

pub loop-i-init : goal.loop-i-init
loop-i-init c X t σ e = reach_first σ e c.last_read-i.ensures

pub offset_bounds-states-i : goal.offset_bounds-states-i
offset_bounds-states-i c =
    let (X, t, σ, e) = c.requires in
    omega (arith, reach_room σ {i = c.loop-i.i} (omega (arith, c.loop-i-test.true)), c.well_formed)

pub bounds-states-i : goal.bounds-states-i
bounds-states-i c = let (X, t, σ, e) = c.requires in reach_room σ (omega (arith, c.loop-i-test.true))

pub is_viable-requires : goal.is_viable-requires
is_viable-requires c =
    let (X, t, σ, e) = c.requires in
    (X, t, reach_standing σ (omega (arith, c.loop-i-test.true)) c.from.ensures)

pub returns-then-not-is_viable : goal.returns-then-not-is_viable
returns-then-not-is_viable c X t σ e =
    let standing = reach_standing σ (omega (arith, c.loop-i-test.true)) c.from.ensures in
    reach_stop σ (c.loop-i.invariant X t σ e) (cc (c.is_viable.ensures X t standing))

pub loop-i-preserved : goal.loop-i-preserved
loop-i-preserved c X t σ e =
    let standing = reach_standing σ (omega (arith, c.loop-i-test.true)) c.from.ensures in
    reach_on σ (omega (arith, c.loop-i-test.true)) (cc (c.is_viable.ensures X t standing))

pub returns : goal.returns
returns c X t σ e =
    let φ = c.loop-i.invariant X t σ e in
    omega (arith, φ.within, c.loop-i-test.false, reach_end σ φ (omega (arith, c.loop-i-test.false)))
