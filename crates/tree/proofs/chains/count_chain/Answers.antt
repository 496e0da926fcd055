use Rattle.tree.proofs.Chain.{counted_row, counts_border, counts_itself}
use Rattle.tree.proofs.chains.count_chain.Goals as goal

pub chain_length-shorter-requires : goal.chain_length-shorter-requires
chain_length-shorter-requires c = counted_row c.requires.2

pub returns-then-word-eq-NONE : goal.returns-then-word-eq-NONE
returns-then-word-eq-NONE c X S h = counts_border h c.word.ensures.is c.chain_length-shorter.ensures.is c.if-word-eq-NONE.true

pub returns : goal.returns
returns c X S h = counts_itself h c.word.ensures.is c.chain_length-shorter.ensures.is c.if-word-eq-NONE.false
