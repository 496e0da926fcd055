use Rattle.std.proofs.Common.{◌<◌, ℕ, List, length, get_or, arith, ap, ◌∙◌}
use Rattle.automaton.proofs.Breadth.{begins, takes, goes, ends, queue_fits}
use Rattle.automaton.proofs.borders.complete_rows.Goals as goal

pub loop-head-init : goal.loop-head-init
loop-head-init c X S γ = rw (c.push.ensures.items, c.new-queue.ensures) (begins γ)

pub take_out-requires : goal.take_out-requires
take_out-requires c =
    let (X, S, γ) = c.requires in
    let more : c.loop-head.head < length c.loop-head.queue.items = omega (arith, c.loop-head-test.true, c.len.ensures.value) in
    let read = c.from-p.ensures ∙ ap (λ (l : List ℕ). get_or l c.loop-head.head 0) c.as_slice.ensures.value in
    (X, S, takes (c.loop-head.invariant X S γ) more read)

pub loop-head-smaller : goal.loop-head-smaller
loop-head-smaller c =
    let (X, S, γ) = c.requires in
    omega (arith, queue_fits (c.loop-head.invariant X S γ).queued, c.loop-head-test.true, c.len.ensures.value)

pub loop-head-preserved : goal.loop-head-preserved
loop-head-preserved c X S γ =
    let φ = c.loop-head.invariant X S γ in
    let more : c.loop-head.head < length c.loop-head.queue.items = omega (arith, c.loop-head-test.true, c.len.ensures.value) in
    let read = c.from-p.ensures ∙ ap (λ (l : List ℕ). get_or l c.loop-head.head 0) c.as_slice.ensures.value in
    goes φ more read (c.take_out.ensures X S (takes φ more read))

pub returns : goal.returns
returns c X S γ = ends (c.loop-head.invariant X S γ) (omega (arith, c.loop-head-test.false, c.len.ensures.value))
