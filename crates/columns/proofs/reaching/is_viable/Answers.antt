-- The climb stops at a state with a reading before it, or at the root.
use native.Mathlib.Omega.{arith}
use Rattle.columns.proofs.Reach.{climb_first, climb_row, climb_fits, climb_inside, climb_viable, climb_none, climb_on, climb_less}
use Rattle.columns.proofs.reaching.is_viable.Goals as goal

pub loop-s-init : goal.loop-s-init
loop-s-init c X t σ = climb_first σ

pub depth-requires : goal.depth-requires
depth-requires c = let (X, t, σ) = c.requires in climb_row σ (c.loop-s.invariant X t σ)

pub overflow_sub-i : goal.overflow_sub-i
overflow_sub-i c =
    let (X, t, σ) = c.requires in
    climb_fits σ (c.loop-s.invariant X t σ) c.depth.ensures.is

pub offset_bounds-counts-i : goal.offset_bounds-counts-i
offset_bounds-counts-i c =
    let (X, t, σ) = c.requires in
    record { fits = omega (arith, climb_inside σ (c.loop-s.invariant X t σ) c.depth.ensures.is, c.well_formed) }

pub bounds-counts-i : goal.bounds-counts-i
bounds-counts-i c =
    let (X, t, σ) = c.requires in
    climb_inside σ (c.loop-s.invariant X t σ) c.depth.ensures.is

pub returns-then-v-eq0 : goal.returns-then-v-eq0
returns-then-v-eq0 c X t σ =
    climb_none σ (c.loop-s.invariant X t σ) c.depth.ensures.is c.loop-s-test.true c.if-v-eq0.true

pub border-v-requires : goal.border-v-requires
border-v-requires c =
    let (X, t, σ) = c.requires in
    climb_row σ (c.loop-s.invariant X t σ)

pub loop-s-smaller : goal.loop-s-smaller
loop-s-smaller c =
    let (X, t, σ) = c.requires in
    climb_less σ (c.loop-s.invariant X t σ) c.depth.ensures.is c.loop-s-test.true c.if-v-eq0.false c.border-v.ensures.is

pub loop-s-preserved : goal.loop-s-preserved
loop-s-preserved c X t σ =
    climb_on σ (c.loop-s.invariant X t σ) c.depth.ensures.is c.loop-s-test.true c.if-v-eq0.false c.border-v.ensures.is

pub returns : goal.returns
returns c X t σ =
    climb_viable σ (c.loop-s.invariant X t σ) c.depth.ensures.is c.loop-s-test.false
