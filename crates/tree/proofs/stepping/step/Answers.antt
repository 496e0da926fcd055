use Rattle.std.proofs.Common.{sym, ap, ◌∙◌}
use Rattle.std.proofs.Math.Option.{some}
use Rattle.tree.proofs.Found.{none_is}
use Rattle.tree.proofs.Climb.{up, by_child, by_border, by_index, indexed_here}
use Rattle.tree.proofs.stepping.step.Goals as goal

pub returns-in-Some : goal.returns-in-Some
returns-in-Some c X S β =
    let h = c.loop-v.invariant X S β in
    h.is ∙ by_child h.here _ (c.in-Some.ensures X S (indexed_here h.here))

pub loop-v-smaller : goal.loop-v-smaller
loop-v-smaller c =
    (up (c.loop-v.invariant _ _ c.requires.bordered.2).here c.border-v.ensures.is c.loop-v-test.true).step.less

pub loop-v-preserved : goal.loop-v-preserved
loop-v-preserved c X S β =
    let h = c.loop-v.invariant X S β in
    let gone = none_is _ (c.in_default.ensures X S (indexed_here h.here)) in
    let next = up h.here c.border-v.ensures.is c.loop-v-test.true in
    record { here = next.bordered; is = h.is ∙ by_border h.here _ gone next }

pub returns : goal.returns
returns c X S β =
    let h = c.loop-v.invariant X S β in
    h.is ∙ by_index h.here _ c.requires.letter c.loop-v-test.false ∙ ap some (sym c.root_step.ensures)
