use Rattle.tree.proofs.Chain.{first_link}
use Rattle.tree.proofs.chains.first_word.Goals as goal

pub returns : goal.returns
returns c X S h = first_link h c.word.ensures.is c.if-word-ne-NONE.false c.link.ensures.is
