use Rattle.std.proofs.Common.{arith}
use Rattle.automaton.proofs.Lent.{roomy, form_small, end_is, made_room, wrote_short, wrote_rows}
use Rattle.automaton.proofs.lending.write_copy.Goals as goal

pub build-built-requires : goal.build-built-requires
build-built-requires c = (c.requires.0, roomy c.args.form c.requires.1)

pub overflow_mul-end : goal.overflow_mul-end
overflow_mul-end c =
    let α = c.requires.1 in
    omega (arith, end_is (c.build-built.ensures _ (roomy c.args.form α)) c.width.ensures, form_small c.args.form α.allowed)

pub returns-then-lent-end : goal.returns-then-lent-end
returns-then-lent-end c = λ X α.
    let β = c.build-built.ensures X (roomy c.args.form α) in
    wrote_short β (end_is β c.width.ensures) c.args.lent.now c.if-lent-end.true

pub copy_numbers-requires : goal.copy_numbers-requires
copy_numbers-requires c =
    let β = c.build-built.ensures _ (roomy c.args.form c.requires.1) in
    (omega (arith, c.if-lent-end.false), omega (arith, made_room β (end_is β c.width.ensures)))

pub returns-else-lent-end : goal.returns-else-lent-end
returns-else-lent-end c = λ X α.
    let β = c.build-built.ensures X (roomy c.args.form α) in
    wrote_rows β (end_is β c.width.ensures) c.args.lent.now c.if-lent-end.false c.copy_numbers.ensures
