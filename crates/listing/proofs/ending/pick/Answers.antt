-- The walk stops at the first word with a reading before it, or where the chain ends.
use mathlib.Core.Path.{ap, ◌∙◌}
use native.Mathlib.Omega.{arith}
use Rattle.meaning.specs.Listing.{pick}
use Rattle.listing.proofs.Steps.{no_words, word_row, word_next, walking_word, ending_inside, ending_fits, ending_picked, ending_passed, ending_on}
use Rattle.listing.proofs.ending.pick.Goals as goal

pub depth-requires : goal.depth-requires
depth-requires c =
    let ε = (c.loop-u.invariant _ _ c.requires.2).ending in
    word_row ε.walking.table (walking_word ε.walking c.loop-u-test.true)

pub overflow_sub-before : goal.overflow_sub-before
overflow_sub-before c =
    let ε = (c.loop-u.invariant _ _ c.requires.2).ending in
    ending_fits ε (walking_word ε.walking c.loop-u-test.true) c.depth.ensures.is

pub offset_bounds-counts-before : goal.offset_bounds-counts-before
offset_bounds-counts-before c =
    omega (arith, ending_inside (c.loop-u.invariant _ _ c.requires.2).ending)

pub bounds-counts-before : goal.bounds-counts-before
bounds-counts-before c =
    omega (arith, ending_inside (c.loop-u.invariant _ _ c.requires.2).ending)

pub returns-then-counts-before-ne0 : goal.returns-then-counts-before-ne0
returns-then-counts-before-ne0 c X t ε =
    let g = c.loop-u.invariant X t ε in
    let w = walking_word g.ending.walking c.loop-u-test.true in
    (_, g.same ∙ ending_picked g.ending w c.depth.ensures.is c.if-counts-before-ne0.true, w)

pub link-u-requires : goal.link-u-requires
link-u-requires c =
    let ε = (c.loop-u.invariant _ _ c.requires.2).ending in
    word_row ε.walking.table (walking_word ε.walking c.loop-u-test.true)

pub loop-u-smaller : goal.loop-u-smaller
loop-u-smaller c =
    let ε = (c.loop-u.invariant _ _ c.requires.2).ending in
    (word_next ε.walking.table (walking_word ε.walking c.loop-u-test.true) c.link-u.ensures.is).less

pub loop-u-preserved : goal.loop-u-preserved
loop-u-preserved c X t ε =
    let g = c.loop-u.invariant X t ε in
    let w = walking_word g.ending.walking c.loop-u-test.true in
    let e = c.link-u.ensures.is in
    record {
      ending = ending_on g.ending w e;
      same = g.same ∙ ending_passed g.ending w c.depth.ensures.is e c.if-counts-before-ne0.false;
    }

pub returns : goal.returns
returns c X t ε =
    let g = c.loop-u.invariant X t ε in
    g.same ∙ ap (pick X t c.args.i) (no_words g.ending.walking.table c.loop-u-test.false)
