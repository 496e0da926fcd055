-- The entry at the position before the word.
use native.Mathlib.Omega.{arith}
use Rattle.listing.proofs.Steps.{word_row, ending_inside, ending_fits, ending_count}
use Rattle.numbering.proofs.lasts.count_before.Goals as goal

pub depth-requires : goal.depth-requires
depth-requires c = let (X, t, n, ε, w) = c.requires in word_row ε.walking.table w

pub overflow_sub-result : goal.overflow_sub-result
overflow_sub-result c = let (X, t, n, ε, w) = c.requires in ending_fits ε w c.depth.ensures.is

pub offset_bounds-counts-i : goal.offset_bounds-counts-i
offset_bounds-counts-i c = let (X, t, n, ε, w) = c.requires in omega (arith, ending_inside ε)

pub bounds-counts-i : goal.bounds-counts-i
bounds-counts-i c = let (X, t, n, ε, w) = c.requires in omega (arith, ending_inside ε)

pub returns : goal.returns
returns c X t n ε w = ending_count ε w c.depth.ensures.is
