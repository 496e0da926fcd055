use Rattle.meaning.specs.Words.{word}
use Rattle.tree.proofs.children.child_by.Goals as goal

pub child-requires-clause-sought : goal.child-requires-clause-sought
child-requires-clause-sought c =
    let (X, S, at) = c.requires.at_state in
    (X, S, word S c.args.p, at.tree, c.seek.ensures X S at)

pub returns : goal.returns
returns c X S at = c.child.ensures X S (word S c.args.p) at.tree (c.seek.ensures X S at)
