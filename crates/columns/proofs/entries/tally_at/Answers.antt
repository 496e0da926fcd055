use Rattle.std.proofs.Common.{arith}
use Rattle.tree.proofs.Whole.{table_linked}
use Rattle.columns.proofs.Tallying.{own_row, tally_start, tally_end, tally_row, tally_fits, tally_on}
use Rattle.columns.proofs.entries.tally_at.Goals as goal

pub chain_length-words-requires : goal.chain_length-words-requires
chain_length-words-requires c = own_row c.requires.1

pub first_word-v-requires : goal.first_word-v-requires
first_word-v-requires c = let (X, ε) = c.requires in (X, _, table_linked ε.table ε.inside)

pub loop-init : goal.loop-init
loop-init c X ε = tally_start ε (c.first_word-v.ensures X _ (table_linked ε.table ε.inside))

pub depth-requires : goal.depth-requires
depth-requires c =
    let (X, ε) = c.requires in
    tally_row ε (c.loop.invariant X ε) c.chain_length-words.ensures.is c.loop-test.true

pub overflow_sub-before : goal.overflow_sub-before
overflow_sub-before c =
    let (X, ε) = c.requires in
    (tally_fits ε (c.loop.invariant X ε) c.chain_length-words.ensures.is c.loop-test.true c.depth.ensures.is).1

pub bounds-counts-i : goal.bounds-counts-i
bounds-counts-i c =
    let (X, ε) = c.requires in
    omega (arith, tally_fits ε (c.loop.invariant X ε) c.chain_length-words.ensures.is c.loop-test.true c.depth.ensures.is, ε.long)

pub link-v-requires : goal.link-v-requires
link-v-requires c =
    let (X, ε) = c.requires in
    tally_row ε (c.loop.invariant X ε) c.chain_length-words.ensures.is c.loop-test.true

pub loop-preserved : goal.loop-preserved
loop-preserved c X ε =
    tally_on ε (c.loop.invariant X ε) c.chain_length-words.ensures.is c.loop-test.true
    c.depth.ensures.is c.link-v.ensures.is (cc)

pub returns : goal.returns
returns c X ε = tally_end ε (c.loop.invariant X ε) c.chain_length-words.ensures.is c.loop-test.false
