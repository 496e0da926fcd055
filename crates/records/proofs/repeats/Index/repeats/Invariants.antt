-- the word is none of those passed, and the next one is of its class
use Rattle.meaning.specs.Words.{Words}
use Rattle.records.specs.Classes.{Indexed}
use Rattle.records.proofs.Searching.{Searching}
use Rattle.records.proofs.repeats.Index.repeats.Given as goal

abbrev pub invariant-loop-q : goal.invariant-loop-q
invariant-loop-q l = (X : Words) → Indexed l.map l.bytes l.self X → Searching l.map l.bytes l.self l.at l.n X l.q

abbrev pub decreases-loop-q : goal.decreases-loop-q
decreases-loop-q l = l.q
