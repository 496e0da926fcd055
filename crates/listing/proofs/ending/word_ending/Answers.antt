-- The words that end at i are those of the chain at i.
use Rattle.listing.proofs.Steps.{chain_there, walking_there}
use Rattle.listing.proofs.ending.word_ending.Goals as goal

pub find_word-requires : goal.find_word-requires
find_word-requires c =
    let pre = c.requires in
    (pre.0, walking_there pre.2 (c.longest_ending.ensures _ _ pre.2))

pub returns : goal.returns
returns c X t α =
    let e = c.longest_ending.ensures X t α in
    rw (chain_there α e) at (c.find_word.ensures X (walking_there α e))
