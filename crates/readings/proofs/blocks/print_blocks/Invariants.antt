-- The invariant is `Going`: the block records so far stand in the book.
use Rattle.std.proofs.Common.{◌-◌, length}
use Rattle.records.proofs.Blocks.{Going}
use Rattle.readings.proofs.blocks.print_blocks.Given as goal

abbrev pub invariant-loop-len : goal.invariant-loop-len
invariant-loop-len g l = Going l.book l.start l.blocks l.at

abbrev pub decreases-loop-len : goal.decreases-loop-len
decreases-loop-len g l = length l.book - l.blocks
