-- The nearest word of the text is that of the state there.
use native.Mathlib.Omega.{arith}
use Rattle.meaning.specs.Automaton.{states}
use Rattle.listing.proofs.Steps.{state_there, linked_there, nearest_there}
use Rattle.listing.proofs.ending.longest_ending.Goals as goal

pub offset_bounds-states-i : goal.offset_bounds-states-i
offset_bounds-states-i c = omega (arith, state_there c.requires.2)

pub bounds-states-i : goal.bounds-states-i
bounds-states-i c = state_there c.requires.2

pub first_word-requires : goal.first_word-requires
first_word-requires c =
    let pre = c.requires in
    (pre.0, states pre.0, linked_there pre.2 c.from.ensures)

pub returns : goal.returns
returns c X t α =
    let e = c.from.ensures in
    nearest_there α e (c.first_word.ensures X (states X) (linked_there α e))
