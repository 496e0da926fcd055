-- The walk stops at word w, or where the chain ends.
use native.Mathlib.Omega.{arith}
use Rattle.listing.proofs.Steps.{word_row, word_next, walking_word, placed}
use Rattle.numbering.proofs.Walks.{find_first, find_end, find_here, find_fits, find_past}
use Rattle.numbering.proofs.lasts.ahead_of.Goals as goal

pub loop-state-init : goal.loop-state-init
loop-state-init c X t κ = find_first _ κ.at (c.longest_ending-state.ensures X t (placed κ.at))

pub word-requires : goal.word-requires
word-requires c =
    let (X, t, κ) = c.requires in
    let ω = (c.loop-state.invariant X t κ).walk.ending.walking in
    word_row ω.table (walking_word ω c.loop-state-test.true)

pub returns-then-word-w : goal.returns-then-word-w
returns-then-word-w c X t κ =
    let φ = c.loop-state.invariant X t κ in
    find_here φ (walking_word φ.walk.ending.walking c.loop-state-test.true) c.word.ensures.is c.if-word-w.true

pub overflow_add-number : goal.overflow_add-number
overflow_add-number c =
    let (X, t, κ) = c.requires in
    let φ = c.loop-state.invariant X t κ in
    let w = walking_word φ.walk.ending.walking c.loop-state-test.true in
    omega (arith, find_fits φ w c.word.ensures.is κ.exact (c.count_before-number.ensures X t _ φ.walk.ending w))

pub link-state-requires : goal.link-state-requires
link-state-requires c =
    let (X, t, κ) = c.requires in
    let ω = (c.loop-state.invariant X t κ).walk.ending.walking in
    word_row ω.table (walking_word ω c.loop-state-test.true)

pub loop-state-smaller : goal.loop-state-smaller
loop-state-smaller c =
    let (X, t, κ) = c.requires in
    let ω = (c.loop-state.invariant X t κ).walk.ending.walking in
    (word_next ω.table (walking_word ω c.loop-state-test.true) c.link-state.ensures.is).less

pub loop-state-preserved : goal.loop-state-preserved
loop-state-preserved c X t κ =
    let φ = c.loop-state.invariant X t κ in
    let w = walking_word φ.walk.ending.walking c.loop-state-test.true in
    find_past φ w c.word.ensures.is κ.exact
    (c.count_before-number.ensures X t _ φ.walk.ending w) c.if-word-w.false c.link-state.ensures.is

pub returns : goal.returns
returns c X t κ = find_end (c.loop-state.invariant X t κ) c.loop-state-test.false
