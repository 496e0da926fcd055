-- The walk stands at a word: the reading looked for is still to come.
use Rattle.std.proofs.Common.{arith}
use Rattle.listing.proofs.Steps.{word_row, word_next, walking_word, placed}
use Rattle.numbering.proofs.Walks.{walk_first, seek_end, seek_here, seek_past}
use Rattle.numbering.proofs.lasts.last_of.Goals as goal

pub loop-number-init : goal.loop-number-init
loop-number-init c X t ν f = record {
  passed = 0;
  walk = walk_first ν.counted.at (c.longest_ending-state.ensures X t (placed ν.counted.at));
  sum = omega arith;
}

pub count_before-count-requires : goal.count_before-count-requires
count_before-count-requires c =
    let (X, t, ν, f) = c.requires in
    let σ = c.loop-number.invariant X t ν f in
    let ε = σ.walk.ending in
    let d = seek_end ν σ f in
    (X, t, (ε.walking.on.here d).number, ε, walking_word ε.walking d)

pub returns-then-number-count : goal.returns-then-number-count
returns-then-number-count c X t ν f =
    let σ = c.loop-number.invariant X t ν f in
    let w = walking_word σ.walk.ending.walking (seek_end ν σ f) in
    seek_here ν σ w (c.count_before-count.ensures X t _ σ.walk.ending w) (omega (arith, c.if-number-count.true))

pub link-state-requires : goal.link-state-requires
link-state-requires c =
    let (X, t, ν, f) = c.requires in
    let σ = c.loop-number.invariant X t ν f in
    let ω = σ.walk.ending.walking in
    word_row ω.table (walking_word ω (seek_end ν σ f))

pub loop-number-smaller : goal.loop-number-smaller
loop-number-smaller c =
    let (X, t, ν, f) = c.requires in
    let σ = c.loop-number.invariant X t ν f in
    let ω = σ.walk.ending.walking in
    (word_next ω.table (walking_word ω (seek_end ν σ f)) c.link-state.ensures.is).less

pub loop-number-preserved : goal.loop-number-preserved
loop-number-preserved c X t ν f =
    let σ = c.loop-number.invariant X t ν f in
    let w = walking_word σ.walk.ending.walking (seek_end ν σ f) in
    seek_past ν σ w (c.count_before-count.ensures X t _ σ.walk.ending w) (omega (arith, c.if-number-count.false)) c.link-state.ensures.is
