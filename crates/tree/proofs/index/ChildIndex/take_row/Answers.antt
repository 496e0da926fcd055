use Rattle.std.proofs.Common.{refl, arith}
use Rattle.tree.proofs.Indexing.{row_empty, row_filled}
use Rattle.tree.proofs.index.ChildIndex.take_row.Goals as goal

pub note_children-requires-clause-room : goal.note_children-requires-clause-room
note_children-requires-clause-room c =
    let (X, S, ω) = c.requires in
    (omega arith, row_empty ω refl (omega arith) c.if-self-row.true)

pub returns-then-self-row : goal.returns-then-self-row
returns-then-self-row c X S ω =
    row_filled ω refl (omega arith) c.if-self-row.true (c.note_children.ensures X S ω.here.at)
