use Rattle.std.proofs.Common.{refl, arith}
use Rattle.tree.proofs.Indexing.{based_root, based_walk, based_row}
use Rattle.tree.proofs.index.ChildIndex.block_of.Goals as goal

pub returns-then-v-eq0 : goal.returns-then-v-eq0
returns-then-v-eq0 c X S β = based_root β c.if-v-eq0.true

pub returns-then-from-x : goal.returns-then-from-x
returns-then-from-x c X S β =
    based_walk β c.letter-x.ensures.is c.depth.ensures.is c.if-depth-ne1.false refl
    c.from.ensures c.if-from-x.true

pub returns : goal.returns
returns c X S β =
    based_row β c.letter-x.ensures.is c.depth.ensures.is c.if-depth-ne1.false refl
    c.from.ensures c.if-from-x.false (omega arith)
