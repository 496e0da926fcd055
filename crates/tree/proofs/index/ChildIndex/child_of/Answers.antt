use Rattle.std.proofs.Common.{sym, ap, ◌∙◌}
use Rattle.tree.specs.Found.{present}
use Rattle.tree.proofs.Found.{present_stored}
use Rattle.tree.proofs.Walk.{found_small}
use Rattle.tree.proofs.Blocks.{child_cell}
use Rattle.tree.proofs.index.ChildIndex.child_of.Goals as goal

pub child_in-requires : goal.child_in-requires
child_in-requires c =
    let (X, S, β) = c.requires.indexed_at in
    (((c.block_of.ensures X S β).serves _ c.in-Some.is).low, c.requires.letter)

pub returns-in-Some : goal.returns-in-Some
returns-in-Some c X S β =
    c.child_in.ensures
    ∙ ap present (child_cell β.indexed (c.block_of.ensures X S β) (sym c.in-Some.is) c.requires.letter)
    ∙ present_stored _ (λ n e. found_small β.at.tree _ e)
