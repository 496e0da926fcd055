-- A turn takes the last word off, if it ends there.
use Rattle.std.proofs.Common.{◌∙◌, take, arith}
use Rattle.meaning.specs.Automaton.{chain}
use Rattle.listing.proofs.Steps.{word_row}
use Rattle.listing.proofs.Search.{sought_none, sought_some}
use Rattle.listing.proofs.Backwards.{there_fits, back_all, back_end, back_stops, back_on, left_all, left_some, left_shorter, left_last, left_on}
use Rattle.listing.proofs.given.is_reading.Goals as goal

pub loop-w-init : goal.loop-w-init
loop-w-init c X t g = let (left, long) = left_all c.args.reading.now g.room (cc) in (rw long (back_all g), left)

pub returns-in_default : goal.returns-in_default
returns-in_default c X t g =
    let (β, left) = c.loop-w.invariant X t g in
    let e = c.in-Some.ensures.steps in
    back_stops β g.room (omega (arith, left_some _ _ left e)) (c.from.ensures ∙ left_last _ _ left e)
    (sought_none _ (c.in_default.ensures X t β.at))

pub depth-i-requires : goal.depth-i-requires
depth-i-requires c =
    let (X, t, g) = c.requires in
    let (β, left) = c.loop-w.invariant X t g in
    word_row g.stated.table (sought_some c.from.result (chain X (take c.loop-w.i t)) (c.in-Some-word_ending.ensures X t β.at)).1

pub overflow_sub-i : goal.overflow_sub-i
overflow_sub-i c =
    let (X, t, g) = c.requires in
    let (β, left) = c.loop-w.invariant X t g in
    let (there, word) = sought_some c.from.result (chain X (take c.loop-w.i t)) (c.in-Some-word_ending.ensures X t β.at) in
    there_fits β.at there word c.depth-i.ensures.is

pub loop-w-preserved : goal.loop-w-preserved
loop-w-preserved c X t g =
    let (β, left) = c.loop-w.invariant X t g in
    let e = c.in-Some.ensures.steps in
    let (there, word) = sought_some c.from.result (chain X (take c.loop-w.i t)) (c.in-Some-word_ending.ensures X t β.at) in
    let some = left_some _ _ left e in
    let β₁ = back_on β g.room (omega (arith, some)) (c.from.ensures ∙ left_last _ _ left e) there word c.depth-i.ensures.is in
    (rw (left_shorter _ _ left e) at β₁, left_on _ _ left e)

pub returns : goal.returns
returns c X t g = let (β, left) = c.loop-w.invariant X t g in back_end β c.in-None.ensures.steps.0
