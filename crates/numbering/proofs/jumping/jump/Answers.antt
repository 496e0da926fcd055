-- None where the number isn't below the count at the end, else that reading, if it fits.
use native.Mathlib.Omega.{arith}
use Rattle.listing.proofs.Told.{answers_nothing, whole_inside}
use Rattle.numbering.proofs.Answering.{numbered, none_there, one_there, answered_short, answered_words}
use Rattle.numbering.proofs.jumping.jump.Goals as goal

pub offset_bounds-counts-m : goal.offset_bounds-counts-m
offset_bounds-counts-m c = let (X, t, ξ) = c.requires in omega (arith, whole_inside ξ.whole, c.well_formed)

pub bounds-counts-m : goal.bounds-counts-m
bounds-counts-m c = let (X, t, ξ) = c.requires in whole_inside ξ.whole

pub returns-then-counts-m : goal.returns-then-counts-m
returns-then-counts-m c X t ξ = answers_nothing _ (none_there ξ (omega (arith, c.if-counts-m.true)))

pub write_numbered-words-requires : goal.write_numbered-words-requires
write_numbered-words-requires c =
    let (X, t, ξ) = c.requires in
    (X, t, numbered ξ (omega (arith, c.if-counts-m.false)), omega (arith, ξ.whole.long))

pub returns-then-reading-words : goal.returns-then-reading-words
returns-then-reading-words c X t ξ =
    let f = c.if-counts-m.false in
    answered_short (c.write_numbered-words.ensures X t (numbered ξ f)) (one_there ξ f) (omega (arith, c.if-reading-words.true, c.write_numbered-words.auto))

pub returns : goal.returns
returns c X t ξ =
    let f = c.if-counts-m.false in
    answered_words (c.write_numbered-words.ensures X t (numbered ξ f)) (one_there ξ f) (omega (arith, c.if-reading-words.false, c.write_numbered-words.auto))
