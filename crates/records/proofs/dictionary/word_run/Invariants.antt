-- the run is the run from here on, after the words so far
use Rattle.std.proofs.Common.{◌-◌, suc}
use Rattle.meaning.specs.Numbers.{most_words}
use Rattle.records.proofs.Walking.{Walking}
use Rattle.records.proofs.dictionary.word_run.Given as goal

abbrev pub invariant-loop-len : goal.invariant-loop-len
invariant-loop-len l = Walking l.book l.map l.bytes l.index l.read.words l.read.letters l.read.end

abbrev pub decreases-loop-len : goal.decreases-loop-len
decreases-loop-len l = suc most_words - l.read.words
