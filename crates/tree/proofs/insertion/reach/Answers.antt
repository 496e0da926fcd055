use Rattle.std.proofs.Common.{◌≡◌, arith}
use Rattle.std.proofs.Math.Option.{none}
use Rattle.meaning.specs.Words.{snoc, find, word}
use Rattle.tree.proofs.Found.{some_is, none_is}
use Rattle.tree.proofs.Walk.{state_row, sought_small}
use Rattle.tree.proofs.Blocks.{blocks_low}
use Rattle.tree.proofs.Grow.{parent, holder_row, index_known, new_room, new_small, reach_found, reach_added}
use Rattle.tree.proofs.insertion.reach.Goals as goal

pub known_child-requires : goal.known_child-requires
known_child-requires c =
    let (X, S, ω) = c.requires in
    (ω.byte, blocks_low (c.block_of-block.ensures X S (parent ω)))

pub returns-in-Some : goal.returns-in-Some
returns-in-Some c X S ω =
    reach_found ω (index_known ω (c.block_of-block.ensures X S (parent ω)) c.in-Some.ensures)

pub child-requires-clause-sought : goal.child-requires-clause-sought
child-requires-clause-sought c =
    let (X, S, ω) = c.requires in
    (X, S, word S c.args.p, ω.growing.tree, c.place_under-place.ensures X S (parent ω))

pub returns-in-Some-child : goal.returns-in-Some-child
returns-in-Some-child c X S ω =
    reach_found ω (some_is _ (c.in-Some-child.ensures X S (word S c.args.p) ω.growing.tree (c.place_under-place.ensures X S (parent ω))))

pub add_row-requires : goal.add_row-requires
add_row-requires c =
    let (X, S, ω) = c.requires in
    let sought = c.place_under-place.ensures X S (parent ω) in
    let fresh : find S (snoc (word S c.args.p) c.args.a) ≡ none = none_is _ (c.in_default-child.ensures X S _ ω.growing.tree sought) in
    omega (arith, new_room ω fresh, ω.byte, ω.short, sought_small ω.growing.tree sought, c.unwrap_or-next.ensures)

pub attach-requires : goal.attach-requires
attach-requires c =
    let (X, S, ω) = c.requires in
    let sought = c.place_under-place.ensures X S (parent ω) in
    let fresh = none_is _ (c.in_default-child.ensures X S (word S c.args.p) ω.growing.tree sought) in (
      omega (arith, state_row ω.growing.tree ω.inside, c.add_row.auto.table),
      holder_row ω sought _ c.add_row.auto.table,
      new_small ω fresh,
    )

pub note-requires : goal.note-requires
note-requires c =
    let (X, S, ω) = c.requires in
    let sought = c.place_under-place.ensures X S (parent ω) in
    let fresh = none_is _ (c.in_default-child.ensures X S (word S c.args.p) ω.growing.tree sought) in
    (ω.byte, new_small ω fresh, blocks_low (c.block_of-block.ensures X S (parent ω)))

pub returns : goal.returns
returns c X S ω =
    let sought = c.place_under-place.ensures X S (parent ω) in
    let fresh = none_is _ (c.in_default-child.ensures X S (word S c.args.p) ω.growing.tree sought) in
    reach_added ω fresh (c.block_of-block.ensures X S (parent ω)) sought c.unwrap_or-next.ensures
    c.add_row.ensures
    c.attach.ensures
    c.note.ensures
    c.claim_under.ensures
