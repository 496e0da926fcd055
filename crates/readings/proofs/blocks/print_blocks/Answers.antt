-- The first block record is due at the start, and each that is read stands in the book.
use Rattle.std.proofs.Common.{◌≡◌, rules}
use Rattle.std.specs.Prelude.{Ok, Some}
use Rattle.letters.specs.Record.{block_at}
use Rattle.records.proofs.Blocks.{sets_out, next}
use Rattle.readings.proofs.blocks.print_blocks.Goals as goal

pub loop-len-init : goal.loop-len-init
loop-len-init g c = rw c.from-start.ensures (sets_out _ _ c.requires.0)

pub loop-len-preserved : goal.loop-len-preserved
loop-len-preserved g c =
    let k = c.in-Ok-Some.len in
    let is : Ok (Some k) ≡ block_at c.args.book.now c.loop-len.at = search rules in
    next c.loop-len.invariant k is
