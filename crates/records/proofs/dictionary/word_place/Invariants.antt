-- past what is left, from here on, is past all from the first byte on
use Rattle.std.proofs.Common.{◌≤◌, ◌≡◌, ◌-◌, length}
use Rattle.records.specs.Run.{past_words}
use Rattle.records.proofs.dictionary.word_place.Given as goal

abbrev pub invariant-loop : goal.invariant-loop
invariant-loop l = (l.at ≤ length l.bytes) × (past_words l.bytes l.k 0 ≡ past_words l.bytes (l.k - l.counter) l.at)
