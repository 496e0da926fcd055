-- The walk stops at the word looked for, or where the chain ends.
use mathlib.Core.Path.{ap, ◌∙◌}
use Rattle.listing.specs.Positions.{sought}
use Rattle.listing.proofs.Steps.{no_words, word_row, word_next, walking_word, walking_on}
use Rattle.listing.proofs.Search.{seek_here, seek_past}
use Rattle.listing.proofs.ending.find_word.Goals as goal

pub word-requires : goal.word-requires
word-requires c =
    let ω = (c.loop-u.invariant _ c.requires.1).walking in
    word_row ω.table (walking_word ω c.loop-u-test.true)

pub returns-then-word-n : goal.returns-then-word-n
returns-then-word-n c X ω =
    let s = c.loop-u.invariant X ω in
    let w = walking_word s.walking c.loop-u-test.true in
    (_, s.same ∙ seek_here s.walking w c.word.ensures.is c.if-word-n.true, w)

pub link-u-requires : goal.link-u-requires
link-u-requires c =
    let ω = (c.loop-u.invariant _ c.requires.1).walking in
    word_row ω.table (walking_word ω c.loop-u-test.true)

pub loop-u-smaller : goal.loop-u-smaller
loop-u-smaller c =
    let ω = (c.loop-u.invariant _ c.requires.1).walking in
    (word_next ω.table (walking_word ω c.loop-u-test.true) c.link-u.ensures.is).less

pub loop-u-preserved : goal.loop-u-preserved
loop-u-preserved c X ω =
    let s = c.loop-u.invariant X ω in
    let w = walking_word s.walking c.loop-u-test.true in
    let e = c.link-u.ensures.is in
    record {
      walking = walking_on s.walking w e;
      same = s.same ∙ seek_past s.walking w c.word.ensures.is c.if-word-n.false e;
    }

pub returns : goal.returns
returns c X ω =
    let s = c.loop-u.invariant X ω in
    s.same ∙ ap (sought c.args.n) (no_words s.walking.table c.loop-u-test.false)
