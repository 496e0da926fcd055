use Rattle.std.proofs.Common.{◌∙◌}
use Rattle.tree.proofs.Climb.{up, border_up}
use Rattle.tree.proofs.stepping.child_border.Goals as goal

pub step-requires-clause-bordered : goal.step-requires-clause-bordered
step-requires-clause-bordered c =
    let (X, S, β) = c.requires.bordered in
    (X, S, (up β c.border.ensures.is c.if-p-eq0.false).bordered)

pub returns : goal.returns
returns c X S β =
    let h = up β c.border.ensures.is c.if-p-eq0.false in
    border_up β _ h ∙ c.step.ensures X S h.bordered
