use Rattle.std.proofs.Common.{refl, arith}
use Rattle.meaning.proofs.States.{allowed_bounded}
use Rattle.tree.specs.declared.layout.Form.TheVariants.{Wide}
use Rattle.automaton.proofs.Finishing.{narrowed}
use Rattle.automaton.proofs.Lent.{roomy, end_is, made_room}
use Rattle.automaton.proofs.building.build_narrow.Goals as goal

pub narrow_rows-requires : goal.narrow_rows-requires
narrow_rows-requires c =
    let (X, ν) = c.requires in
    let β = c.build_wide-built.ensures X (roomy Wide ν.accepted) in
    let few = (allowed_bounded X ν.accepted.allowed).few in
    (made_room β (end_is β refl), omega (arith, ν.room, β.count))

pub returns : goal.returns
returns c X ν =
    let β = c.build_wide-built.ensures X (roomy Wide ν.accepted) in
    let few = (allowed_bounded X ν.accepted.allowed).few in
    narrowed β (omega (arith, ν.room, β.count)) c.narrow_rows.auto.narrow c.narrow_rows.ensures
