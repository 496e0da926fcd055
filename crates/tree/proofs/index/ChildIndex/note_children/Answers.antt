use Rattle.std.proofs.Common.{arith}
use Rattle.tree.proofs.Walk.{state_row, state_small, left_less}
use Rattle.tree.proofs.Indexing.{index_child, index_on, filled}
use Rattle.tree.proofs.index.ChildIndex.note_children.Goals as goal

pub letter-a-requires : goal.letter-a-requires
letter-a-requires c =
    let (X, S, α) = c.requires.at_state in
    state_row α.tree (index_child α.tree (c.loop-c.invariant X S α) c.loop-c-test.true).inside

pub overflow_cast-self : goal.overflow_cast-self
overflow_cast-self c =
    let (X, S, α) = c.requires.at_state in
    omega (arith, state_small α.tree (index_child α.tree (c.loop-c.invariant X S α) c.loop-c-test.true).inside)

pub bounds-self-a : goal.bounds-self-a
bounds-self-a c =
    let (X, S, α) = c.requires.at_state in
    let h = index_child α.tree (c.loop-c.invariant X S α) c.loop-c-test.true in
    omega (arith, c.letter-a.ensures.is, h.letter, h.least.high)

pub next_sibling-c-requires : goal.next_sibling-c-requires
next_sibling-c-requires c =
    let (X, S, α) = c.requires.at_state in
    state_row α.tree (index_child α.tree (c.loop-c.invariant X S α) c.loop-c-test.true).inside

pub loop-c-smaller : goal.loop-c-smaller
loop-c-smaller c =
    let (X, S, α) = c.requires.at_state in
    rw c.next_sibling-c.ensures.is (left_less α.tree (index_child α.tree (c.loop-c.invariant X S α) c.loop-c-test.true))

pub loop-c-preserved : goal.loop-c-preserved
loop-c-preserved c X S α =
    let φ = c.loop-c.invariant X S α in
    rw (c.next_sibling-c.ensures.is, c.letter-a.ensures.is)
    (index_on α.tree φ (index_child α.tree φ c.loop-c-test.true))

pub returns : goal.returns
returns c X S α = filled α.tree (c.loop-c.invariant X S α) c.loop-c-test.false
