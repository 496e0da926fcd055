-- What is picked of the chain at i.
use Rattle.listing.proofs.Steps.{placed, chain_there, ending_there}
use Rattle.listing.proofs.ending.last_word.Goals as goal

pub pick-requires : goal.pick-requires
pick-requires c =
    let pre = c.requires in
    let α = placed pre.2 in
    (pre.0, pre.1, ending_there α (c.longest_ending.ensures _ _ α) pre.2.scanned.columns.counts)

pub returns : goal.returns
returns c X t σ =
    let α = placed σ in
    let e = c.longest_ending.ensures X t α in
    rw (chain_there α e) at (c.pick.ensures X t (ending_there α e σ.scanned.columns.counts))
