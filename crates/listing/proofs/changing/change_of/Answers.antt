-- A turn looks for a shorter word in the place of the last one.
use Rattle.std.proofs.Common.{take, arith}
use Rattle.meaning.specs.Automaton.{chain}
use Rattle.listing.proofs.Steps.{word_row}
use Rattle.listing.proofs.Search.{sought_there, sought_word}
use Rattle.listing.proofs.Backwards.{there_fits}
use Rattle.listing.proofs.Leftmost.{leftmost_keep, leftmost_new, last_member, ending_behind}
use Rattle.listing.proofs.changing.change_of.Goals as goal
use Rattle.listing.proofs.changing.change_of.Goals.{in-Some, in_default}

-- each word of the reading is one of those that end there
pub unwrap-v-requires : goal.unwrap-v-requires
unwrap-v-requires c =
    let (X, t, g) = c.requires in
    let μ = c.loop-j.invariant X t g in
    sought_there X _ _ (c.word_ending.ensures X t μ.at) (last_member μ g.room c.loop-j-test.true c.from.ensures)

pub link-requires : goal.link-requires
link-requires c =
    let (X, t, g) = c.requires in
    let μ = c.loop-j.invariant X t g in
    word_row g.whole.scanned.table (sought_word c.from.result (chain X (take c.loop-j.i t)) (c.word_ending.ensures X t μ.at) c.unwrap-v.ensures)

pub pick-requires : goal.pick-requires
pick-requires c =
    let (X, t, g) = c.requires in
    let μ = c.loop-j.invariant X t g in
    let w = sought_word c.from.result (chain X (take c.loop-j.i t)) (c.word_ending.ensures X t μ.at) c.unwrap-v.ensures in
    (X, t, ending_behind μ g.room c.loop-j-test.true c.from.ensures w c.link.ensures.is g.whole.scanned.columns.counts)

pub depth-i-requires : goal.depth-i-requires
depth-i-requires c =
    let (X, t, g) = c.requires in
    let μ = c.loop-j.invariant X t g in
    word_row g.whole.scanned.table (sought_word c.from.result (chain X (take c.loop-j.i t)) (c.word_ending.ensures X t μ.at) c.unwrap-v.ensures)

pub overflow_sub-i : goal.overflow_sub-i
overflow_sub-i c =
    let (X, t, g) = c.requires in
    let μ = c.loop-j.invariant X t g in
    let w = sought_word c.from.result (chain X (take c.loop-j.i t)) (c.word_ending.ensures X t μ.at) c.unwrap-v.ensures in
    there_fits μ.at (last_member μ g.room c.loop-j-test.true c.from.ensures) w c.depth-i.ensures.is

pub loop-j-preserved : goal.loop-j-preserved
loop-j-preserved c X t g =
    let μ = c.loop-j.invariant X t g in
    let f = c.loop-j-test.true in
    let e = c.from.ensures in
    let w = sought_word c.from.result (chain X (take c.loop-j.i t)) (c.word_ending.ensures X t μ.at) c.unwrap-v.ensures in
    let b = c.link.ensures.is in
    let ε = ending_behind μ g.room f e w b g.whole.scanned.columns.counts in
    let q = c.depth-i.ensures.is in
    elim c.match-pick.branch [
      | in-Some s ↦ rw s.change-is (leftmost_new μ g.room f e w b ε q (s.in-Some.ensures X t ε) (omega (arith, f)))
      | in_default s ↦ rw s.change-is (leftmost_keep μ g.room f e w b ε q (s.in_default.ensures X t ε))
    ]
