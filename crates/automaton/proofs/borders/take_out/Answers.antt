use Rattle.automaton.proofs.Joining.{filled, settling, after_row, fills_on, fills_less}
use Rattle.automaton.proofs.borders.take_out.Goals as goal

pub settle-requires : goal.settle-requires
settle-requires c =
    let (X, S, τ) = c.requires in
    (X, S, settling (c.loop-c.invariant X S τ) c.loop-c-test.true)

pub next_sibling-c-requires : goal.next_sibling-c-requires
next_sibling-c-requires c =
    let (X, S, τ) = c.requires in
    let φ = c.loop-c.invariant X S τ in
    let more = c.loop-c-test.true in
    after_row φ more (c.settle.ensures X S (settling φ more))

pub loop-c-smaller : goal.loop-c-smaller
loop-c-smaller c =
    let (X, S, τ) = c.requires in
    let φ = c.loop-c.invariant X S τ in
    let more = c.loop-c-test.true in
    rw c.next_sibling-c.ensures.is (fills_less φ more (c.settle.ensures X S (settling φ more)))

pub loop-c-preserved : goal.loop-c-preserved
loop-c-preserved c X S τ =
    let φ = c.loop-c.invariant X S τ in
    let more = c.loop-c-test.true in
    rw c.next_sibling-c.ensures.is (fills_on φ more (c.settle.ensures X S (settling φ more)))

pub returns : goal.returns
returns c X S τ = filled (c.loop-c.invariant X S τ) c.loop-c-test.false
