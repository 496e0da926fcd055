use Rattle.std.proofs.Common.{sym}
use Rattle.letters.proofs.Records.{word_fits}
use Rattle.records.proofs.Searching.{other_size}
use Rattle.records.proofs.repeats.same_word.Goals as goal

pub returns-then-bytes-p : goal.returns-then-bytes-p
returns-then-bytes-p c = λ w h. sym (other_size h (word_fits c.requires.0) c.if-bytes-p.true)
