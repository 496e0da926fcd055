-- the class so far is that of the letters passed, which are the last ones
use Rattle.std.proofs.Common.{◌≡◌, length, drop}
use Rattle.letters.specs.Letters.{mapped, part}
use Rattle.records.specs.Classes.{class_of}
use Rattle.records.proofs.Classes.{Behind}
use Rattle.records.proofs.repeats.class_of.Given as goal

abbrev pub invariant-loop-x : goal.invariant-loop-x
invariant-loop-x l =
    let rest = l.x-iterator.iter.rest.now in
    let u = part l.bytes l.p l.n in
    Behind u rest × (l.class ≡ class_of (mapped l.map (drop (length rest) u)))
