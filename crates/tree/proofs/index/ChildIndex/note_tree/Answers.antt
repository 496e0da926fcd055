use Rattle.std.proofs.Common.{arith}
use Rattle.tree.proofs.Walk.{state_row, left_less}
use Rattle.tree.proofs.Indexing.{root_state, rowing, row_child, one_letter, row_on}
use Rattle.tree.proofs.index.ChildIndex.note_tree.Goals as goal

pub note_children-requires-clause-room : goal.note_children-requires-clause-room
note_children-requires-clause-room c = (omega arith, c.requires.vacant.blocks 0 (omega arith))

pub loop-c-init : goal.loop-c-init
loop-c-init c X S τ = rowing τ c.requires.vacant (c.note_children.ensures X S (root_state τ)) c.first_child-c.ensures.is

pub letter-x-requires : goal.letter-x-requires
letter-x-requires c =
    let (X, S, τ) = c.requires.tree in
    state_row τ (row_child τ (c.loop-c.invariant X S τ) c.loop-c-test.true).inside

pub take_row-requires : goal.take_row-requires
take_row-requires c =
    let (X, S, τ) = c.requires.tree in
    (X, S, one_letter τ (c.loop-c.invariant X S τ) c.loop-c-test.true c.letter-x.ensures.is)

pub next_sibling-c-requires : goal.next_sibling-c-requires
next_sibling-c-requires c =
    let (X, S, τ) = c.requires.tree in
    state_row τ (row_child τ (c.loop-c.invariant X S τ) c.loop-c-test.true).inside

pub loop-c-smaller : goal.loop-c-smaller
loop-c-smaller c =
    let (X, S, τ) = c.requires.tree in
    rw c.next_sibling-c.ensures.is (left_less τ (row_child τ (c.loop-c.invariant X S τ) c.loop-c-test.true))

pub loop-c-preserved : goal.loop-c-preserved
loop-c-preserved c X S τ =
    let φ = c.loop-c.invariant X S τ in
    let f = c.loop-c-test.true in
    row_on τ φ f (c.take_row.ensures X S (one_letter τ φ f c.letter-x.ensures.is)) c.next_sibling-c.ensures.is

pub returns : goal.returns
returns c X S τ = (c.loop-c.invariant X S τ).indexed
