use Rattle.std.proofs.Common.{arith, ◌∙◌}
use Rattle.tree.specs.Insertion.{own}
use Rattle.tree.proofs.Walk.{state_row, seeking_row, seek_on, seek_here, seek_end, left_less}
use Rattle.tree.proofs.children.seek.Goals as goal

pub loop-next-init : goal.loop-next-init
loop-next-init c X S at = record {
  from = 0;
  holder = own;
  low = omega arith;
  next_is = c.first_child-next.ensures.is ∙ at.tree.children _ at.inside;
}

pub letter-requires : goal.letter-requires
letter-requires c =
    let at = c.requires.at_state.2 in
    state_row at.tree (seeking_row at.tree (c.loop-next.invariant _ _ at) c.loop-next-test.true).inside

pub returns-then-a-letter : goal.returns-then-a-letter
returns-then-a-letter c X S at =
    seek_here at.tree (c.loop-next.invariant X S at) c.loop-next-test.true (omega (arith, c.letter.ensures.is, c.if-a-letter.true))

pub next_sibling-next-requires : goal.next_sibling-next-requires
next_sibling-next-requires c =
    let at = c.requires.at_state.2 in
    state_row at.tree (seeking_row at.tree (c.loop-next.invariant _ _ at) c.loop-next-test.true).inside

pub loop-next-smaller : goal.loop-next-smaller
loop-next-smaller c =
    let at = c.requires.at_state.2 in
    rw c.next_sibling-next.ensures.is (left_less at.tree (seeking_row at.tree (c.loop-next.invariant _ _ at) c.loop-next-test.true))

pub loop-next-preserved : goal.loop-next-preserved
loop-next-preserved c X S at =
    rw c.next_sibling-next.ensures.is
    (seek_on at.tree (c.loop-next.invariant X S at) c.loop-next-test.true (omega (arith, c.letter.ensures.is, c.if-a-letter.false)))

pub returns : goal.returns
returns c X S at = seek_end at.tree (c.loop-next.invariant X S at) c.loop-next-test.false
