use Rattle.tree.proofs.Blocks.{vacant}
use Rattle.tree.proofs.index.ChildIndex.new.Goals as goal

pub returns : goal.returns
returns c = vacant
