use Rattle.std.proofs.Common.{arith}
use Rattle.automaton.proofs.Lent.{roomy, form_small, end_is, made_room, judged_short, judged_right, judged_other}
use Rattle.automaton.proofs.lending.judge_table.Goals as goal

pub build-built-requires : goal.build-built-requires
build-built-requires c = (c.requires.0, roomy c.args.form c.requires.1)

pub overflow_mul-end : goal.overflow_mul-end
overflow_mul-end c =
    let α = c.requires.1 in
    omega (arith, end_is (c.build-built.ensures _ (roomy c.args.form α)) c.width.ensures, form_small c.args.form α.allowed)

pub returns-then-lent-end : goal.returns-then-lent-end
returns-then-lent-end c = λ X α.
    let β = c.build-built.ensures X (roomy c.args.form α) in
    judged_short β (end_is β c.width.ensures) c.args.lent.now c.if-lent-end.true

pub same_numbers-requires : goal.same_numbers-requires
same_numbers-requires c =
    let β = c.build-built.ensures _ (roomy c.args.form c.requires.1) in
    (c.if-lent-end.false, made_room β (end_is β c.width.ensures))

pub returns-then-not-same_numbers : goal.returns-then-not-same_numbers
returns-then-not-same_numbers c = λ X α.
    let β = c.build-built.ensures X (roomy c.args.form α) in
    judged_other β (end_is β c.width.ensures) c.args.lent.now c.if-lent-end.false c.same_numbers.ensures c.if-not-same_numbers.true

pub returns : goal.returns
returns c = λ X α.
    let β = c.build-built.ensures X (roomy c.args.form α) in
    judged_right β (end_is β c.width.ensures) c.args.lent.now c.if-lent-end.false c.same_numbers.ensures c.if-not-same_numbers.false
