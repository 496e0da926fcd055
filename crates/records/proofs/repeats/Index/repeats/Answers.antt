use Rattle.std.proofs.Common.{◌<◌, arith, sym, ◌∙◌}
use Rattle.records.specs.Classes.{classes}
use Rattle.records.proofs.Classes.{class_below}
use Rattle.records.proofs.Searching.{search_starts, next_stands, search_finds, search_less, search_on, search_ends}
use Rattle.records.proofs.repeats.Index.repeats.Goals as goal

pub offset_bounds-self-class : goal.offset_bounds-self-class
offset_bounds-self-class c = let small : c.args.class < classes = rw c.requires.1 (class_below _) in omega (arith, small)

pub bounds-self-class : goal.bounds-self-class
bounds-self-class c = rw c.requires.1 (class_below _)

pub loop-q-init : goal.loop-q-init
loop-q-init c = λ X ι. search_starts c.requires.0 ι c.requires.1 c.from-q.ensures

pub returns-then-same_word : goal.returns-then-same_word
returns-then-same_word c = λ X ι.
    let s = c.loop-q.invariant X ι in
    let i = c.loop-q-test.true in
    sym (search_finds s i (sym (c.same_word.ensures _ (next_stands s i c.from-place.ensures)) ∙ c.if-same_word.true))

pub loop-q-smaller : goal.loop-q-smaller
loop-q-smaller c = search_less (c.loop-q.invariant _ c.requires.2.1) c.loop-q-test.true c.from-q-in-loop-q.ensures

pub loop-q-preserved : goal.loop-q-preserved
loop-q-preserved c = λ X ι.
    let s = c.loop-q.invariant X ι in
    let i = c.loop-q-test.true in
    search_on s i c.from-q-in-loop-q.ensures (sym (c.same_word.ensures _ (next_stands s i c.from-place.ensures)) ∙ c.if-same_word.false)

pub returns : goal.returns
returns c = λ X ι. sym (search_ends (c.loop-q.invariant X ι) c.loop-q-test.false)
