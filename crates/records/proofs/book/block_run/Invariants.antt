-- the blocks are those from here on, after the texts so far
use Rattle.std.proofs.Common.{◌-◌, length}
use Rattle.records.proofs.Blocks.{Going}
use Rattle.records.proofs.book.block_run.Given as goal

abbrev pub invariant-loop-len : goal.invariant-loop-len
invariant-loop-len l = Going l.book l.start l.blocks l.at

abbrev pub decreases-loop-len : goal.decreases-loop-len
decreases-loop-len l = length l.book - l.blocks
