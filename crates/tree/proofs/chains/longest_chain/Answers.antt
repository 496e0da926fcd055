use Rattle.std.proofs.Common.{◌<◌, length, arith, ◌∙◌}
use Rattle.tree.proofs.Chain.{longest_on}
use Rattle.tree.proofs.chains.longest_chain.Goals as goal

pub loop-s-preserved : goal.loop-s-preserved
loop-s-preserved c X S ω e =
    let inside : c.loop-s.s < length S = omega arith in
    longest_on (c.loop-s.invariant X S ω e) inside (grind (arith, c.max-longest.ensures, c.chain_length.ensures.is ∙ ω.chains _ inside))
