use Rattle.std.proofs.Common.{arith}
use Rattle.automaton.proofs.Lent.{roomy_lent, wrote_in_place}
use Rattle.automaton.proofs.lending.write_table.Goals as goal

pub build-requires : goal.build-requires
build-requires c = (c.requires.0, roomy_lent c.args.form c.requires.1 (omega (arith, c.if-lent-lt-MOST_NUMBERS.false)))

pub returns : goal.returns
returns c = λ X α.
    let room = c.if-lent-lt-MOST_NUMBERS.false in
    wrote_in_place α.allowed (omega (arith, room)) (c.build.ensures X (roomy_lent c.args.form α (omega (arith, room))))
